-- The sectors that a volume itself holds: a cluster is made of whole sectors.
use Rattle.std.specs.Prelude.{ℕ, ◌+◌, ◌*◌, ◌/◌, ◌%◌, nat_lt, if◌then◌else◌, List, Option, Some, None, Result, Ok, Err}
use Rattle.sd_names.specs.declared.fault.LayerFault.{LayerFault}
use Rattle.sd_names.specs.declared.id.Id.{Id}
use Rattle.sd_names.specs.declared.kinds.Format.{Format}
use Rattle.sd_names.specs.declared.kinds.Format.TheVariants.{Raw, Cow}
use Rattle.shared_disk.specs.Content.{File, zero_sector}
use Rattle.qcow_format.specs.declared.header.Header.{Header}
use Rattle.qcow_format.specs.declared.entry.Entry.{Entry}
use Rattle.qcow_format.specs.declared.entry.Entry.TheVariants.{Absent, Zero, Data}
use Rattle.volume_meta.specs.declared.record.VolumeRecord.{VolumeRecord}
use Rattle.image_model.specs.File.{file_of, sector_in}
use Rattle.image_model.specs.Layer.{Tables, cluster_size, entry_at}
use Rattle.image_model.specs.Soundness.{layer_header}
use Rattle.chain_model.specs.Folder.{Volumes}
use Rattle.chain_model.specs.Records.{Records}

-- how many sectors a volume has
abbrev pub sectors_of : VolumeRecord → ℕ
sectors_of x = x.capacity / 512

-- a sector of a cluster that a layer holds: one of zeros, or the sector `at` bytes into the cluster's data
abbrev pub sector_behind : File → ℕ → Entry → Option (List ℕ)
sector_behind f at Absent = None
sector_behind f at (Zero place) = Some zero_sector
sector_behind f at (Data place) = Some (sector_in f.size f.stable ((place + at) / 512))

-- sector k of a layer, where the layer itself holds it
abbrev pub layer_sector : File → ℕ → Tables → Option (List ℕ)
layer_sector f k t = sector_behind f (512 * k % cluster_size t) (entry_at t (512 * k / cluster_size t))

-- the header of a layer's file
abbrev pub header_in : VolumeRecord → File → Result Header LayerFault
header_in x f = layer_header (file_of f.size f.stable) x.capacity

abbrev pub sector_by_header : File → ℕ → Result Header LayerFault → Option (List ℕ)
sector_by_header f k (Ok h) = layer_sector f k (record { header = h; file = file_of f.size f.stable })
sector_by_header f k (Err fault) = None

-- a raw volume holds each sector, zeros past its file's end; a layer those of its own clusters
abbrev pub sector_by_format : Format → VolumeRecord → File → ℕ → Option (List ℕ)
sector_by_format Raw x f k = Some (sector_in f.size f.stable k)
sector_by_format Cow x f k = sector_by_header f k (header_in x f)

-- a sector that a volume itself holds, which only those below its capacity can be
unfoldable pub own_in : VolumeRecord → File → ℕ → Option (List ℕ)
own_in x f k = if nat_lt k (sectors_of x) then sector_by_format x.format x f k else None

abbrev pub own_by : Option VolumeRecord → Option File → ℕ → Option (List ℕ)
own_by None file k = None
own_by (Some x) None k = None
own_by (Some x) (Some f) k = own_in x f k

abbrev pub own : Records → Volumes → Id → ℕ → Option (List ℕ)
own r x v k = own_by (r v) (x.file v) k
