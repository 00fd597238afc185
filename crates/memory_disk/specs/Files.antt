-- What becomes of a file's entry when its folder is moved, and when a host syncs the file or goes down.
use Rattle.std.specs.Prelude.{ℕ, if◌then◌else◌}
use Rattle.sd_names.specs.declared.place.Dir.{Dir}
use Rattle.memory_disk.specs.declared.entry.FileEntry.{FileEntry}
use Rattle.shared_disk.specs.Content.{unless_by}
use Rattle.shared_disk.specs.NameCalls.{place_in}
use Rattle.shared_disk.specs.Places.{dir_is}

-- its place is in the second folder, where it was in the first
abbrev pub entry_moved : Dir → Dir → FileEntry → FileEntry
entry_moved from to f = if dir_is f.place.dir from then record f { place = place_in to f.place.name } else f

-- its host has made it and not synced it no more
abbrev pub entry_synced : ℕ → FileEntry → FileEntry
entry_synced host f = record f { fresh = unless_by host f.fresh }
