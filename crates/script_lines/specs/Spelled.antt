-- How a script spells an event: its words, with one space between each two.
use Rattle.std.specs.Prelude.{◌≡◌, ◌≢◌, ℕ, ◌<◌, ◌≤◌, ◌++◌, Bool, true, ◌&&◌, List, [], ◌∷◌, length, nat_le, codes, decimal, All}
use Rattle.std.specs.List.{list_all, join_with_byte}
use Rattle.hex.specs.Hex.{encode_lower}
use Rattle.sd_names.specs.Id.{IsIdBytes, id_text, zero_id}
use Rattle.sd_names.specs.declared.kinds.Format.{Format}
use Rattle.sd_names.specs.declared.kinds.Format.TheVariants.{Raw, Cow}
use Rattle.sd_names.specs.declared.kinds.AllocKind.{AllocKind}
use Rattle.sd_names.specs.declared.kinds.AllocKind.TheVariants.{Sparse, Preallocated}
use Rattle.script_lines.specs.Argument.{Kind, identifier, set_identifier, number, description, data_text, layout, Value, id_value, number_value, bytes_value, layout_value}
use Rattle.script_lines.specs.Verbs.{verb_text, kinds_of}
use Rattle.script_lines.specs.Said.{Event, silent, refused, boot, down, step, end, begin, whole, Call}
use Rattle.script_lines.specs.declared.verb_names.VerbWord.{VerbWord}

-- a description: `-` for the empty one
abbrev pub description_text : List ℕ → List ℕ
description_text [] = codes "-"
description_text (byte ∷ bytes) = byte ∷ bytes

-- a format
abbrev pub format_text : Format → List ℕ
format_text Raw = codes "RAW"
format_text Cow = codes "COW"

-- an allocation
abbrev pub allocation_text : AllocKind → List ℕ
allocation_text Sparse = codes "SPARSE"
allocation_text Preallocated = codes "PREALLOCATED"

-- the words of an argument: data as hexadecimal digits, two a byte
abbrev pub value_words : Kind → Value → List (List ℕ)
value_words description (bytes_value text) = description_text text ∷ []
value_words kind (id_value bytes) = id_text bytes ∷ []
value_words kind (number_value n) = decimal n ∷ []
value_words kind (bytes_value bytes) = encode_lower bytes ∷ []
value_words kind (layout_value format allocation) = format_text format ∷ allocation_text allocation ∷ []

-- the words of arguments, one after the other
abbrev pub values_words : List Kind → List Value → List (List ℕ)
values_words (kind ∷ kinds) (value ∷ values) = value_words kind value ++ values_words kinds values
values_words _ _ = []

-- a verb and its arguments
abbrev pub call_words : Call → List (List ℕ)
call_words call = verb_text call.verb ∷ values_words (kinds_of call.verb) call.values

-- the words of an event
abbrev pub event_words : Event → List (List ℕ)
event_words silent = []
event_words (refused refusal) = []
event_words (boot host) = decimal host ∷ codes "boot" ∷ []
event_words (down host) = decimal host ∷ codes "down" ∷ []
event_words (step host count) = decimal host ∷ codes "step" ∷ decimal count ∷ []
event_words (end host) = decimal host ∷ codes "end" ∷ []
event_words (begin host call) = decimal host ∷ codes "begin" ∷ call_words call
event_words (whole host call) = decimal host ∷ call_words call

-- the line that spells an event
unfoldable pub event_text : Event → List ℕ
event_text e = join_with_byte 32 (event_words e)

-- a byte that a word may have
abbrev pub is_graphic : ℕ → Bool
is_graphic byte = nat_le 33 byte && nat_le byte 126

-- a description: at most 200 graphic bytes, and not the text that says the empty one
pub record IsDescription (text : List ℕ) : Type 0 where
  pub graphic : list_all is_graphic text ≡ true
  pub short : length text ≤ 200
  pub other : text ≢ codes "-"

-- data: 1 to 65,536 bytes
pub record IsData (bytes : List ℕ) : Type 0 where
  pub in_range : All (λ byte. byte < 256) bytes
  pub some : 0 < length bytes
  pub short : length bytes ≤ 65536

-- a format and an allocation that go together
abbrev pub IsLayout : Format → AllocKind → Type 0
IsLayout Cow Preallocated = ⊥
IsLayout _ _ = Unit {0}

-- a value that an argument may have
abbrev pub IsValueOf : Kind → Value → Type 0
IsValueOf identifier (id_value bytes) = IsIdBytes bytes
IsValueOf set_identifier (id_value bytes) = IsIdBytes bytes × (bytes ≢ zero_id.0)
IsValueOf (number low high) (number_value n) = (low ≤ n) × (n ≤ high)
IsValueOf description (bytes_value text) = IsDescription text
IsValueOf data_text (bytes_value bytes) = IsData bytes
IsValueOf layout (layout_value format allocation) = IsLayout format allocation
IsValueOf _ _ = ⊥

-- a value for each argument
abbrev pub AreValuesOf : List Kind → List Value → Type 0
AreValuesOf [] [] = Unit {0}
AreValuesOf (kind ∷ kinds) (value ∷ values) = IsValueOf kind value × AreValuesOf kinds values
AreValuesOf _ _ = ⊥

-- a verb that is built, with a value for each of its arguments
pub record IsCall (is_built : VerbWord → Bool) (call : Call) : Type 0 where
  pub built : is_built call.verb ≡ true
  pub values : AreValuesOf (kinds_of call.verb) call.values

-- a host
abbrev pub IsHost : ℕ → Type 0
IsHost host = (1 ≤ host) × (host ≤ 250)

-- an event of a host, which a script can say
abbrev pub IsEvent : (VerbWord → Bool) → Event → Type 0
IsEvent is_built silent = Unit {0}
IsEvent is_built (refused refusal) = ⊥
IsEvent is_built (boot host) = IsHost host
IsEvent is_built (down host) = IsHost host
IsEvent is_built (step host count) = IsHost host × (1 ≤ count) × (count ≤ 1000000)
IsEvent is_built (end host) = IsHost host
IsEvent is_built (begin host call) = IsHost host × IsCall is_built call
IsEvent is_built (whole host call) = IsHost host × IsCall is_built call
