-- An open chain while a guest's part is laid over the volume of one of its layers.
use Rattle.std.specs.Prelude.{◌≡◌, ◌≢◌, ℕ, length, slice_get, Some}
use Rattle.sd_names.specs.declared.id.Id.{Id}
use Rattle.shared_disk.specs.Content.{Content, File}
use Rattle.volume_meta.specs.declared.record.VolumeRecord.{VolumeRecord}
use Rattle.qcow_layer.specs.Opening.{place_kept}
use Rattle.qcow_layer.specs.declared.layer.Layer.{Layer}
use Rattle.chain_model.specs.Folder.{Folder, folder_of}
use Rattle.chain_laws.specs.Laid.{Laying}
use Rattle.chain_laws.specs.Written.{ComesWritten}
use Rattle.chain_records.specs.Shown.{IsShown}
use Rattle.chain_gathering.specs.Knowing.{volumes_in}
use Rattle.volume_chain.specs.Chain.{IsShaped, OnPath, dir_in, image_in, open_in, path_in, records_kept, target_of}
use Rattle.volume_chain.specs.Knowing.{IsKnown}
use Rattle.volume_chain.specs.declared.chain.Chain.{Chain}
use Rattle.volume_chain.specs.declared.volumes.OpenVolume.TheVariants.{Cow}
use Rattle.raw_writing.specs.Image.{AreSettledBut, IsPartOf}

-- The chain knows the image but for the file of one volume of its path, which whoever writes it knows.
pub record KnowsOthers (c : Chain) (v : Id) (host : ℕ) (d : Content) : Type 0 where
  pub shown : IsShown (image_in (target_of c)) (volumes_in (dir_in (target_of c)) d) (records_kept c)
  pub shape : IsShaped c
  pub all : length (open_in c) ≡ length (path_in c)
  pub others : OnPath (λ u o. u ≢ v → IsKnown (target_of c) host d u o) (path_in c) (open_in c)

-- The layer of the volume with this index of the path is written, whose file this is. Each outcome of the folder comes from one
-- of the folder in which the write began, over which sectors of the part may be laid. Nothing is unsynced but in the layer's file.
pub record KnowsWrite (c : Chain) (index : ℕ) (w : Layer) (l : Laying) (x : VolumeRecord) (host : ℕ) (start : Folder) (f : File) (d : Content) : Type 0 where
  pub of : IsPartOf l c x
  pub path : slice_get (path_in c) index ≡ Some l.volume
  pub layer : slice_get (open_in c) index ≡ Some (Cow w)
  pub others : KnowsOthers c l.volume host d
  pub rest : AreSettledBut (dir_in (target_of c)) l.volume d
  pub comes : ComesWritten l start (folder_of (dir_in (target_of c)) d)
  pub there : d.file (place_kept w) ≡ Some f
