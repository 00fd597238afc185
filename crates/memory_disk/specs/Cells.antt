-- Sectors in cells, which an index finds by their keys. What the index has of a sector that was taken away may be left.
use Rattle.std.specs.Prelude.{◌≡◌, ℕ, ◌<◌, ◌==◌, ◌&&◌, nat_lt, Bool, List, [], Option, Some, None, length, get_or, if◌then◌else◌}
use Rattle.memory_disk.specs.declared.cell.Cell.{Cell}

-- whether the two name one sector
abbrev pub key_eq : ℕ × ℕ × ℕ → ℕ × ℕ × ℕ → Bool
key_eq x y = (x.0 == y.0 && x.1 == y.1) && x.2 == y.2

-- the cell of a number
abbrev pub cell_at : List Cell → ℕ → Cell
cell_at cells i = get_or cells i (record { key = (0, 0, 0); bytes = [] })

-- whether the cell of a number is there, and has the key
abbrev pub is_cell : List Cell → ℕ → ℕ × ℕ × ℕ → Bool
is_cell cells i key = nat_lt i (length cells) && key_eq (cell_at cells i).key key

-- the bytes in the cell that the index names, where it is the key's
abbrev pub kept_at : List Cell → Option ℕ → ℕ × ℕ × ℕ → Option (List ℕ)
kept_at cells None key = None
kept_at cells (Some i) key = if is_cell cells i key then Some (cell_at cells i).bytes else None

-- the index names each cell
abbrev pub IsIndexed : List Cell → (ℕ × ℕ × ℕ → Option ℕ) → Type 0
IsIndexed cells index = (i : ℕ) → i < length cells → index (cell_at cells i).key ≡ Some i
