-- Sectors by owner, file and number: what a memory disk keeps.
use Rattle.std.specs.Prelude.{ℕ, List, Option, vec_len}
use Rattle.std.specs.HashMap.{get}
use Rattle.memory_disk.specs.Cells.{kept_at, key_eq}
use Rattle.memory_disk.specs.declared.sector_map.Sectors.{Sectors}

-- the bytes that are kept for a sector of a file
abbrev pub sector_at : Sectors → ℕ → ℕ → ℕ → Option (List ℕ)
sector_at s owner file sector = kept_at s.cells.items (get key_eq s.index (owner, file, sector)) (owner, file, sector)

-- how many sectors are kept
abbrev pub kept_count : Sectors → ℕ
kept_count s = vec_len s.cells

-- how many sectors may be kept with no further memory
abbrev pub kept_room : Sectors → ℕ
kept_room s = s.room
