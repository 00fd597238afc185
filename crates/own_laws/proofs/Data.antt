-- A sector of a cluster of data is held as it stands at the cluster's place.
use Rattle.std.proofs.Common.{◌≡◌, ℕ, ◌<◌, true, nat_lt, Some, refl}
use Rattle.std.proofs.lemmas.Bool.{lt-ltb}
use Rattle.shared_disk.specs.Content.{File}
use Rattle.qcow_format.specs.declared.entry.Entry.TheVariants.{Data}
use Rattle.qcow_format.specs.declared.header.Header.{Header}
use Rattle.volume_meta.specs.declared.record.VolumeRecord.{VolumeRecord}
use Rattle.image_model.specs.File.{sector_in}
use Rattle.image_model.specs.Layer.{entry_at}
use Rattle.layer_laws.specs.Laws.{layer}
use Rattle.layer_writing.specs.Holding.{on_medium}
use Rattle.chain_model.specs.Own.{own_in, sectors_of}
use Rattle.own_laws.specs.Sectors.{IsLayerOf, cluster_of, sector_at}

pub data_held : (x : VolumeRecord) (h : Header) (f : File) (k place : ℕ) → IsLayerOf x h f → k < sectors_of x → entry_at (layer h (on_medium f)) (cluster_of h k) ≡ Data place
    → own_in x f k ≡ Some (sector_in f.size f.stable (sector_at h place k))
unfolding own_in
data_held x h f k place is low entry =
    let inside : nat_lt k (sectors_of x) ≡ true = lt-ltb k (sectors_of x) low in
    rw (inside, is.cow, is.header, entry) refl
