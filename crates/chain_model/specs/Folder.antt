-- The files of an image's folder, and what crashes may leave of them.
use Rattle.std.specs.Prelude.{◌≡◌, Option}
use Rattle.sd_names.specs.declared.id.Id.{Id}
use Rattle.sd_names.specs.declared.place.Dir.{Dir}
use Rattle.sd_names.specs.declared.place.Name.{Name}
use Rattle.sd_names.specs.declared.place.Name.TheVariants.{Meta, Volume}
use Rattle.shared_disk.specs.Content.{Content, File}
use Rattle.shared_disk.specs.Crash.{IsAlso, IsFileOutcome}
use Rattle.shared_disk.specs.NameCalls.{place_in}

-- what stands at each name of a folder
abbrev pub Folder : Type 0
Folder = Name → Option File

abbrev pub folder_of : Dir → Content → Folder
folder_of dir d name = d.file (place_in dir name)

-- the folder on some outcome: each of its files on one of its own
abbrev pub IsFolderOutcome : Folder → Folder → Type 0
IsFolderOutcome F G = (name : Name) → IsAlso IsFileOutcome (F name) (G name)

-- P holds of each outcome of all files of a folder at once
abbrev pub OnEachFolder : Folder → (Folder → Type 0) → Type 0
OnEachFolder F P = (G : Folder) → IsFolderOutcome F G → P G

-- The files of an image's volumes, all settled: the file of each one's text, and its own. No other name counts.
pub record Volumes : Type 0 where
  pub text : Id → Option File
  pub file : Id → Option File

abbrev pub volumes_of : Folder → Volumes
volumes_of F = record { text = λ v. F (Meta v); file = λ v. F (Volume v) }

-- The two folders hold the same files of volumes. Their other names may differ.
pub record HoldSameVolumes (F G : Folder) : Type 0 where
  pub text : (v : Id) → G (Meta v) ≡ F (Meta v)
  pub file : (v : Id) → G (Volume v) ≡ F (Volume v)
