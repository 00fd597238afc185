-- A part of a volume and the clusters of the virtual disk that it meets, in numbers: all offsets and lengths in bytes.
use Rattle.std.specs.Prelude.{◌≡◌, ℕ, ◌+◌, ◌-◌, ◌*◌, ◌/◌, ◌%◌, ◌^◌, ◌<◌, ◌≤◌}
use Rattle.write_planning.specs.declared.span.Piece.{Piece}

-- a part from the byte `at` on, in a layer whose clusters have `width` bytes
pub record IsPart (at length width : ℕ) : Type 0 where
  pub some : 0 < length
  pub few : length ≤ 65536
  pub low : 4096 ≤ width
  pub high : width ≤ 2097152
  pub whole : width % 512 ≡ 0
  pub within : at + length ≤ 2 ^ 62

-- the clusters that it meets: the first, and how many
abbrev pub first_met : ℕ → ℕ → ℕ
first_met at width = at / width

abbrev pub many_met : ℕ → ℕ → ℕ → ℕ
many_met at length width = (at + length - 1) / width - at / width + 1

-- a byte of the part lies in a cluster
abbrev pub IsMet : ℕ → ℕ → ℕ → ℕ → Type 0
IsMet at length width cluster = (i : ℕ) × (i < length) × ((at + i) / width ≡ cluster)

-- the bytes of a part that lie in the cluster with this index among those that it meets
pub record IsPieceOf (at length width index : ℕ) (p : Piece) : Type 0 where
  pub some : p.from < p.end
  pub within : p.end ≤ length
  pub place : at + p.from ≡ (first_met at width + index) * width + p.offset
  pub inside : p.offset + (p.end - p.from) ≤ width
  pub all : (i : ℕ) → i < length → (at + i) / width ≡ first_met at width + index → (p.from ≤ i) × (i < p.end)
