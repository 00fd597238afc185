-- The arguments of a verb: what each may be, and its value.
use Rattle.std.specs.Prelude.{ℕ, ◌+◌, Bool, ◌&&◌, not, if◌then◌else◌, List, [], ◌∷◌, length, nat_le, codes, Option, Some, None, Result, Ok, Err}
use Rattle.std.specs.Option.{option_map, option_and_then}
use Rattle.std.specs.Str.{bytes_eq}
use Rattle.uuid.specs.Text.{parsed_hyphenated}
use Rattle.sd_names.specs.Id.{zero_id}
use Rattle.sd_names.specs.declared.kinds.Format.{Format}
use Rattle.sd_names.specs.declared.kinds.Format.TheVariants.{Raw, Cow}
use Rattle.sd_names.specs.declared.kinds.AllocKind.{AllocKind}
use Rattle.sd_names.specs.declared.kinds.AllocKind.TheVariants.{Sparse, Preallocated}
use Rattle.sd_names.specs.declared.refusal.Refusal.{Refusal}
use Rattle.sd_names.specs.declared.refusal.Refusal.TheVariants.{BadArgument}
use Rattle.decimal_numbers.specs.Number.{number_of}
use Rattle.script_lines.specs.Data.{data_of}

-- what an argument may be
pub data Kind : Type 0 where
  -- an identifier; one that isn't all zeros
  identifier : Kind
  set_identifier : Kind
  -- a number from one bound to another
  number : ℕ → ℕ → Kind
  -- a description of 1 to 200 bytes, `-` for the empty one
  description : Kind
  -- data text
  data_text : Kind
  -- format and allocation, two words
  layout : Kind

-- what it is
pub data Value : Type 0 where
  id_value : List ℕ → Value
  number_value : ℕ → Value
  bytes_value : List ℕ → Value
  layout_value : Format → AllocKind → Value

-- the bytes of an identifier's hyphenated text, in either case (RFC 9562, section 4)
unfoldable pub id_of : List ℕ → Option (List ℕ)
id_of word = parsed_hyphenated word

-- a value that passes a test
abbrev pub passing : {A : Type 0} → (A → Bool) → A → Option A
passing test value = if test value then Some value else None

-- an identifier that isn't all zeros
unfoldable pub set_id_of : List ℕ → Option (List ℕ)
set_id_of word = option_and_then (passing (λ bytes. not (bytes_eq bytes zero_id.0))) (id_of word)

-- a number within bounds
unfoldable pub number_in : ℕ → ℕ → List ℕ → Option ℕ
number_in low high word = option_and_then (passing (λ n. nat_le low n && nat_le n high)) (number_of word)

-- a description: `-` is the empty one
unfoldable pub description_of : List ℕ → Option (List ℕ)
description_of word =
    if bytes_eq word (codes "-") then Some []
    else passing (λ text. nat_le (length text) 200) word

-- format and allocation
unfoldable pub layout_of : List ℕ → List ℕ → Option Value
layout_of format kind =
    if bytes_eq format (codes "COW") then (if bytes_eq kind (codes "SPARSE") then Some (layout_value Cow Sparse) else None)
    else if bytes_eq format (codes "RAW") then (
    if bytes_eq kind (codes "SPARSE") then Some (layout_value Raw Sparse)
    else if bytes_eq kind (codes "PREALLOCATED") then Some (layout_value Raw Preallocated)
    else None)
    else None

-- the value of an argument of one word
abbrev pub value_of : Kind → List ℕ → Option Value
value_of identifier word = option_map id_value (id_of word)
value_of set_identifier word = option_map id_value (set_id_of word)
value_of (number low high) word = option_map number_value (number_in low high word)
value_of description word = option_map bytes_value (description_of word)
value_of data_text word = option_map bytes_value (data_of word)
value_of layout word = None

-- a value and the words behind it
abbrev pub before : List (List ℕ) → Option Value → Option (Value × List (List ℕ))
before rest value = option_map (λ v. (v, rest)) value

-- the first argument of words, and the words behind it
abbrev pub first_value : Kind → List (List ℕ) → Option (Value × List (List ℕ))
first_value layout (format ∷ kind ∷ rest) = before rest (layout_of format kind)
first_value layout _ = None
first_value kind [] = None
first_value kind (word ∷ rest) = before rest (value_of kind word)

-- a value before other values
abbrev pub onto : Value → Result (List Value) Refusal → Result (List Value) Refusal
onto value (Ok values) = Ok (value ∷ values)
onto value (Err refusal) = Err refusal

-- an argument at a place, and those behind it
abbrev pub continued : ℕ → (List (List ℕ) → Result (List Value) Refusal) → Option (Value × List (List ℕ)) → Result (List Value) Refusal
continued place behind None = Err (BadArgument place)
continued place behind (Some (value, rest)) = onto value (behind rest)

-- the arguments of words, counted from a place on: the first that is missing, malformed or one too many is refused
unfoldable pub values_of : List Kind → ℕ → List (List ℕ) → Result (List Value) Refusal
values_of [] place [] = Ok []
values_of [] place (word ∷ rest) = Err (BadArgument place)
values_of (kind ∷ kinds) place words = continued place (λ rest. values_of kinds (place + 1) rest) (first_value kind words)

-- some values before other values
abbrev pub onto_all : List Value → Result (List Value) Refusal → Result (List Value) Refusal
onto_all [] behind = behind
onto_all (value ∷ values) behind = onto value (onto_all values behind)

-- what was read before what stands behind it, or the refusal of the argument at a place
abbrev pub read_before : {T : Type 0} → (T → List Value) → Option T → ℕ → Result (List Value) Refusal → Result (List Value) Refusal
read_before values (Some read) place behind = onto_all (values read) behind
read_before values None place behind = Err (BadArgument place)
