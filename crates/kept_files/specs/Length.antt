-- The length that the disk shows of a file.
use Rattle.std.specs.Prelude.{ℕ}
use Rattle.std.specs.Int.{next_multiple_of}

-- the least multiple of 512 that isn't below the length
abbrev pub padded : ℕ → ℕ
padded stored = next_multiple_of stored 512
