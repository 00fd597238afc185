-- The keys of a text: what their values mean, and what is wrong where one means nothing.
use Rattle.std.specs.Prelude.{ℕ, List, length, nat_le, Option, Some, None, Result, Ok, Err, if◌then◌else◌, is_none, find}
use Rattle.std.specs.Borrow.{Bor}
use Rattle.sd_names.specs.Key.{key_name}
use Rattle.sd_names.specs.declared.fault.Key.{Key}
use Rattle.kv_text.specs.Lookup.{value_of, first_bad_line}
use Rattle.kv_text.specs.Text.{KeyValue, items, pairs}
use Rattle.kv_text.specs.declared.fault.TextFault.{TextFault}
use Rattle.kv_text.specs.declared.fault.TextFault.TheVariants.{BadLine, MissingKey, BadValue}

-- what fails hands its fault on
infixl 10 ◌>>=◌
abbrev pub ◌>>=◌ : {A B E : Type 0} → Result A E → (A → Result B E) → Result B E
(Ok x) >>= f = f x
(Err e) >>= f = Err e

-- the value of a key
abbrev pub value : Key → List KeyValue → Option (List ℕ)
value k ps = value_of (key_name k) ps

-- what a value means, or that its key may not have it
abbrev pub meant : {X : Type 0} → Key → Option X → Result X TextFault
meant k None = Err (BadValue k)
meant k (Some x) = Ok x

-- a key that has to be there
abbrev pub needed : {X : Type 0} → Key → (List ℕ → Option X) → Option (List ℕ) → Result X TextFault
needed k meaning None = Err (MissingKey k)
needed k meaning (Some value) = meant k (meaning value)

-- a key that has a meaning where it isn't there
abbrev pub optional : {X : Type 0} → Key → X → (List ℕ → Option X) → Option (List ℕ) → Result X TextFault
optional k default meaning None = Ok default
optional k default meaning (Some value) = meant k (meaning value)

-- the first of these keys that isn't there
unfoldable pub first_missing : List KeyValue → List Key → Option Key
first_missing ps keys = find (λ k. is_none (value k ps)) keys

-- what is wrong with the lines and the keys of a text, before any value is looked at
abbrev pub line_fault : Option ℕ → Option Key → Option TextFault
line_fault (Some number) missing = Some (BadLine number)
line_fault None (Some k) = Some (MissingKey k)
line_fault None None = None

unfoldable pub shape_fault : List ℕ → List Key → Option TextFault
shape_fault text keys = line_fault (first_bad_line (items text)) (first_missing (pairs text) keys)

-- a reading that counts where there is no fault
abbrev pub unless_fault : {X E : Type 0} → Option E → Result X E → Result X E
unless_fault None read = read
unless_fault (Some fault) read = Err fault

-- DESCRIPTION: at most 4,096 bytes
unfoldable pub description_of : List ℕ → Option (List ℕ)
description_of value = if nat_le (length value) 4096 then Some value else None

-- the value that a reader lends, as a list
abbrev pub bytes_of : {E : Type 0} → Result (Bor (List ℕ)) E → Result (List ℕ) E
bytes_of (Ok bytes) = Ok bytes.now
bytes_of (Err e) = Err e
