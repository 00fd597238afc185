-- What a folder's disk has counted and done, and where it works.
use Rattle.std.specs.Prelude.{◌≡◌, ℕ, List, string_bytes}
use Rattle.sd_names.specs.declared.place.Dir.{Dir}
use Rattle.sd_names.specs.declared.place.Place.{Place}
use Rattle.kept_files.specs.Flushed.{flushed_dir, flushed_place}
use Rattle.kept_files.specs.Opened.{range_at, range_length}
use Rattle.kept_files.specs.declared.flushed.FlushedDir.{FlushedDir}
use Rattle.kept_files.specs.declared.flushed.FlushedFile.{FlushedFile}
use Rattle.kept_files.specs.declared.written.WrittenRange.{WrittenRange}
use Rattle.folder_disk.specs.Changed.{change_of}
use Rattle.folder_disk.specs.declared.names.Change.{Change}
use Rattle.folder_disk.specs.declared.names.Changed.{Changed}
use Rattle.folder_disk.specs.declared.done.Done.{Done}
use Rattle.folder_disk.specs.declared.done.Done.TheVariants.{Bytes, File, Names}
use Rattle.folder_disk.specs.declared.folder_disk.FolderDisk.{FolderDisk}

-- how often a call of the disk has failed
abbrev pub disk_faults : {R : Type 0} → FolderDisk R → ℕ
disk_faults disk = disk.faults

-- how many calls of the disk were made
abbrev pub disk_calls : {R : Type 0} → FolderDisk R → ℕ
disk_calls disk = disk.calls

-- the path of the folder, in which all other paths begin
abbrev pub disk_root : {R : Type 0} → FolderDisk R → List ℕ
disk_root disk = string_bytes disk.folder.root

-- what says that the last call which changed something has done so
abbrev pub disk_done : {R : Type 0} → FolderDisk R → Done
disk_done disk = disk.done

-- the last call which changed something has written so many bytes from an offset on
abbrev pub HasWritten : {R : Type 0} → ℕ → ℕ → FolderDisk R → Type 0
HasWritten at size disk = (range : WrittenRange) × (disk.done ≡ Bytes range) × (range_at range ≡ at) × (range_length range ≡ size)

-- it has flushed the file of a place
abbrev pub HasFlushedFile : {R : Type 0} → Place → FolderDisk R → Type 0
HasFlushedFile place disk = (flushed : FlushedFile) × (disk.done ≡ File flushed) × (flushed_place flushed ≡ place)

-- it has changed names so, and flushed their folder
abbrev pub HasChanged : {R : Type 0} → Change → Dir → FolderDisk R → Type 0
HasChanged change dir disk = (changed : Changed) × (flushed : FlushedDir) × (disk.done ≡ Names changed flushed) × (change_of changed ≡ change) × (flushed_dir flushed ≡ dir)
