-- Files of an image that get longer, with zeros behind what they had.
use Rattle.std.specs.Prelude.{◌≡◌, ◌⊎◌, ℕ, ◌≤◌, None}
use Rattle.sd_names.specs.declared.id.Id.{Id}
use Rattle.sd_names.specs.declared.place.Name.TheVariants.{Meta, Volume}
use Rattle.shared_disk.specs.Changes.{grown}
use Rattle.shared_disk.specs.Content.{File}
use Rattle.shared_disk.specs.Crash.{IsAlso}
use Rattle.shared_disk.specs.WellFormed.{IsWellFormedFile}
use Rattle.image_model.specs.File.{sector_in}
use Rattle.chain_model.specs.Folder.{Folder, Volumes}

-- as long as a file or longer, and read alike: past a file's end zeros are read
pub record IsLonger (f g : File) : Type 0 where
  pub size : f.size ≤ g.size
  pub sectors : (k : ℕ) → sector_in g.size g.stable k ≡ sector_in f.size f.stable k

-- the same texts, and the same files, each as long as it was or longer
pub record AreLonger (x y : Volumes) : Type 0 where
  pub text : (v : Id) → y.text v ≡ x.text v
  pub file : (v : Id) → IsAlso IsLonger (x.file v) (y.file v)

-- ---- files as hosts write them, which may have unsynced writes

-- The file as it was, or made longer on the medium. A file that hasn't been synced since it was made may get any bytes.
abbrev pub MayGrow : File → File → Type 0
MayGrow f g = (g ≡ f) ⊎ ((size : ℕ) × (f.fresh ≡ None) × IsWellFormedFile f × (g ≡ grown size f))

-- two folders with the same texts, in the second of which files of volumes may be longer. Their other names may differ.
pub record MayHaveGrown (F G : Folder) : Type 0 where
  pub text : (v : Id) → G (Meta v) ≡ F (Meta v)
  pub file : (v : Id) → IsAlso MayGrow (F (Volume v)) (G (Volume v))
