-- An image whose texts say what a list of records says.
use Rattle.std.specs.Prelude.{◌≡◌, ◌≤◌, List, length, Contains, None, is_some}
use Rattle.sd_names.specs.declared.id.Id.{Id}
use Rattle.chain_model.specs.Folder.{Volumes}
use Rattle.chain_model.specs.Opening.{AreVolumes}
use Rattle.chain_model.specs.Records.{Image, records_of}
use Rattle.chain_records.specs.declared.volume.Volume.{Volume}
use Rattle.chain_records.specs.Records.{first_missing, ids_of, records_in}

-- The volumes of an image, in order of their identifiers: at most 32, each with a text that reads as its record.
pub record AreRead (i : Image) (x : Volumes) (xs : List Volume) : Type 0 where
  pub few : length xs ≤ 32
  pub are : AreVolumes x (ids_of xs)
  pub records : (v : Id) → records_of i x v ≡ records_in xs v
  pub files : (y : Volume) → Contains xs y → y.has_file ≡ is_some (x.file y.id)

-- and each with a file
pub record IsShown (i : Image) (x : Volumes) (xs : List Volume) : Type 0 where
  pub read : AreRead i x xs
  pub there : first_missing xs ≡ None
