-- What was found of a cluster, and what a volume's text says.
use Rattle.std.specs.Prelude.{ℕ, Option, Some, None}
use Rattle.qcow_format.specs.declared.entry.Entry.{Entry}
use Rattle.qcow_format.specs.declared.entry.Entry.TheVariants.{Absent}
use Rattle.qcow_layer.specs.declared.looking.Looked.{Looked}
use Rattle.volume_meta.specs.declared.record.VolumeRecord.{VolumeRecord}

-- the entry that was found, or none
abbrev pub entry_found : Option Looked → Entry
entry_found None = Absent
entry_found (Some looked) = looked.entry

-- the capacity that a volume's text says
abbrev pub capacity_said : Option VolumeRecord → ℕ
capacity_said None = 0
capacity_said (Some x) = x.capacity
