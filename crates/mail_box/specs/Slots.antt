-- A box as its 64 slots of 64 bytes, one after the other. Slots 0 to 62 hold messages or zeros, slot 63 the seal.
use Rattle.std.specs.Prelude.{◌≡◌, ℕ, ◌*◌, Bool, List, [], ◌++◌, take, drop, replicate, slice_index_or}
use Rattle.std.specs.List.{flat_map}
use Rattle.std.specs.Str.{bytes_eq}
use Rattle.sha1.specs.Sha1.{sha1}

-- the bytes of slots, one after the other
abbrev pub bytes_of : List (List ℕ) → List ℕ
bytes_of slots = flat_map (λ slot. slot) slots

-- bytes 64 k to 64 k + 63
abbrev pub bytes_at : List ℕ → ℕ → List ℕ
bytes_at bytes k = take 64 (drop (64 * k) bytes)

-- slot k of a box
abbrev pub slot_at : List (List ℕ) → ℕ → List ℕ
slot_at slots k = slice_index_or slots k []

-- a slot that nobody uses
abbrev pub IsEmpty : List ℕ → Type 0
IsEmpty slot = slot ≡ replicate 64 0

-- what slot 63 of a sealed box holds: the SHA-1 (FIPS 180-4) of the 4,032 bytes of slots 0 to 62, and zeros
abbrev pub seal_of : List (List ℕ) → List ℕ
seal_of slots = sha1 (bytes_of (take 63 slots)) ++ replicate 44 0

abbrev pub is_sealed : List (List ℕ) → Bool
is_sealed slots = bytes_eq (slot_at slots 63) (seal_of slots)
