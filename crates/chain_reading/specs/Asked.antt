-- What a read asks of the volumes of a path.
use Rattle.std.specs.Prelude.{ℕ, ◌+◌, ◌-◌, ◌/◌, ◌%◌, ◌^◌, min, max, slice_get, Option, Some, None}
use Rattle.sd_names.specs.declared.id.Id.{Id}
use Rattle.volume_meta.specs.declared.record.VolumeRecord.{VolumeRecord}
use Rattle.qcow_layer.specs.Opening.{header_kept}
use Rattle.qcow_layer.specs.declared.layer.Layer.{Layer}
use Rattle.chain_model.specs.Own.{sectors_of}
use Rattle.chain_records.specs.Records.{records_in}
use Rattle.volume_chain.specs.Chain.{open_in, path_in, place_in, records_kept, target_of}
use Rattle.volume_chain.specs.declared.chain.Chain.{Chain}
use Rattle.volume_chain.specs.declared.volumes.OpenVolume.{OpenVolume}
use Rattle.volume_chain.specs.declared.volumes.OpenVolume.TheVariants.{Raw, Cow}
use Rattle.chain_reading.specs.declared.asked.Asked.{Asked}

-- how many sectors a cluster of a layer has, and one of a volume
abbrev pub cluster_sectors : Layer → ℕ
cluster_sectors l = 2 ^ (header_kept l).cluster_bits / 512

abbrev pub cluster_by : OpenVolume → Option ℕ
cluster_by (Raw length) = None
cluster_by (Cow l) = Some (cluster_sectors l)

-- how many sectors a volume has, by its record
abbrev pub sectors_by : Option VolumeRecord → ℕ
sectors_by None = 0
sectors_by (Some x) = sectors_of x

abbrev pub sectors_in : Chain → Id → ℕ
sectors_in c v = sectors_by (records_in (records_kept c) v)

abbrev pub asked_of : Chain → Id → OpenVolume → Asked
asked_of c v o = record { place = place_in (target_of c) v; sectors = sectors_in c v; cluster = cluster_by o }

abbrev pub asked_by : Chain → Option Id → Option OpenVolume → Option Asked
asked_by c None o = None
asked_by c (Some v) None = None
asked_by c (Some v) (Some o) = Some (asked_of c v o)

-- the volume of the path with this index
abbrev pub asked_in : Chain → ℕ → Option Asked
asked_in c k = asked_by c (slice_get (path_in c) k) (slice_get (open_in c) k)

-- where a part of so many sectors ends in a volume that begins at its sector `first`: where it ends itself, or the volume does
abbrev pub end_in : Asked → ℕ → ℕ → ℕ
end_in a first count = min (a.sectors - first) count

-- where the cluster ends that has sector `at` of the part, or the part in the volume does; a raw volume is one cluster
abbrev pub cluster_end : Option ℕ → ℕ → ℕ → ℕ → ℕ
cluster_end None first at end = max end at
cluster_end (Some s) first at end = max (min (at + (max s 1 - (first + at) % max s 1)) end) at

-- which sector of its cluster sector `at` of the part is, and the number of that cluster
abbrev pub offset_in : Option ℕ → ℕ → ℕ → ℕ
offset_in None first at = 0
offset_in (Some s) first at = (first + at) % max s 1

abbrev pub cluster_number : Option ℕ → ℕ → ℕ → ℕ
cluster_number None first at = 0
cluster_number (Some s) first at = (first + at) / max s 1
