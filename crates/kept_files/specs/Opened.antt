-- What was read of a file and given to it, and through which descriptor of the system.
use Rattle.std.specs.Prelude.{◌≡◌, ◌<◌, ◌≤◌, ℕ, ℤ, List, Option, Some, None}
use Rattle.kept_files.specs.declared.written.Raised.{Raised}
use Rattle.kept_files.specs.declared.written.Seen.{Seen}
use Rattle.kept_files.specs.declared.written.Written.{Written}
use Rattle.kept_files.specs.declared.written.WrittenRange.{WrittenRange}

-- through which descriptor, from which offset on, and which bytes
abbrev pub written_descriptor : Written → ℤ
written_descriptor written = written.descriptor

abbrev pub written_at : Written → ℕ
written_at written = written.at

abbrev pub written_bytes : Written → List ℕ
written_bytes written = written.bytes.now

-- the same without the bytes, and how many they are
abbrev pub range_descriptor : WrittenRange → ℤ
range_descriptor range = range.descriptor

abbrev pub range_at : WrittenRange → ℕ
range_at range = range.at

abbrev pub range_length : WrittenRange → ℕ
range_length range = range.length

-- through which descriptor, at which offset, and what the sector held
abbrev pub seen_descriptor : Seen → ℤ
seen_descriptor seen = seen.descriptor

abbrev pub seen_at : Seen → ℕ
seen_at seen = seen.at

abbrev pub seen_bytes : Seen → List ℕ
seen_bytes seen = seen.bytes

-- through a descriptor a file of so many bytes was given a length that is greater, or it has that length
abbrev pub Raises : ℤ → ℕ → ℕ → Option Raised → Type 0
Raises descriptor stored size (Some raised) = (stored < size) × (raised.descriptor ≡ descriptor) × (raised.length ≡ size)
Raises descriptor stored size None = size ≤ stored
