-- Sets of numbers as bits.
use Rattle.std.specs.Prelude.{◌≡◌, ℕ, ◌*◌, ◌/◌, ◌%◌, ◌<◌, ◌≤◌, Bool, true, false, ◌==◌, Option, Some, None, slice_index, vec_len}
use Rattle.std.specs.Int.{bit_at}
use Rattle.layer_walk.specs.declared.bits.Bits.{Bits}

-- whether a number is in the set
abbrev pub has : Bits → ℕ → Bool
has b n = bit_at (slice_index b.words.items (n / 64)) (n % 64) == 1

-- the numbers below this have a bit
abbrev pub room_of : Bits → ℕ
room_of b = 64 * vec_len b.words

-- of the numbers from `first` up to `end` that have a bit, none is missing, or this one is
abbrev pub IsMissing : ℕ → ℕ → Bits → Option ℕ → Type 0
IsMissing first end b None = (c : ℕ) → first ≤ c → c < end → c < room_of b → has b c ≡ true
IsMissing first end b (Some c) = (first ≤ c) × (c < end) × (c < room_of b) × (has b c ≡ false)
