-- What a store holds, and how much of its room.
use Rattle.std.specs.Prelude.{ℕ, ◌+◌, List, vec_len}
use Rattle.memory_disk.specs.declared.store.Store.{Store}
use Rattle.shared_disk.specs.Content.{Content}
use Rattle.shared_disk.specs.Limits.{Limits}
use Rattle.memory_disk.specs.Sectors.{kept_count}
use Rattle.memory_disk.specs.Store.{content_of}

-- what it holds
abbrev pub held : Store → Content
held s = content_of s.dirs.items s.files.slots.items s.stable s.log.items

-- how many units it holds: folders, files, stable sectors and unsynced writes of a sector
abbrev pub units : Store → ℕ
units s = vec_len s.dirs + s.files.count + kept_count s.stable + vec_len s.log

-- the limits that it keeps, where these calls fail
abbrev pub limits_with : List ℕ → Store → Limits
limits_with failing s = record { units = units s; room = s.room; failing = failing }
