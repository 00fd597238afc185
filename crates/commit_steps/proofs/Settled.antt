-- On each outcome of files in which nothing is unsynced the volumes hold what they hold.
use Rattle.std.proofs.Common.{◌≡◌, ℕ, Option, Some, None, refl, ap}
use Rattle.sd_names.specs.declared.id.Id.{Id}
use Rattle.sd_names.specs.declared.place.Dir.{Dir}
use Rattle.sd_names.specs.declared.place.Name.TheVariants.{Volume}
use Rattle.shared_disk.specs.Content.{Content, File}
use Rattle.shared_disk.specs.Crash.{IsAlso, IsFileOutcome, IsSettled, stable_folder}
use Rattle.shared_disk.proofs.Outcomes.{settled_file, stable_folder_outcome}
use Rattle.chain_model.specs.Folder.{Folder, IsFolderOutcome, folder_of, volumes_of}
use Rattle.chain_model.specs.Own.{own, own_by}
use Rattle.chain_model.specs.Records.{Records}
use Rattle.chain_model.proofs.Flats.{folder_outcome}
use Rattle.chain_gathering.specs.Knowing.{AreSettled}
use Rattle.chain_gathering.specs.declared.names.VolumeName.TheVariants.{Data}

abbrev pub AreSettledFiles : Folder → Type 0
AreSettledFiles F = (v : Id) (f : File) → F (Volume v) ≡ Some f → IsSettled f

pub settled_files : (dir : Dir) (d : Content) → AreSettled dir d → AreSettledFiles (folder_of dir d)
settled_files dir d settled v f there = settled (Data v) f there

same_file_by : (a o : Option File) → ((f : File) → a ≡ Some f → IsSettled f) → IsAlso IsFileOutcome a o → o ≡ a
same_file_by None None settled out = refl
same_file_by None (Some g) settled out = absurd out
same_file_by (Some f) None settled out = absurd out
same_file_by (Some f) (Some g) settled out = ap (λ (h : File). Some h) (settled_file f g (settled f refl) out)

pub same_own : (F O : Folder) → AreSettledFiles F → IsFolderOutcome F O → (r : Records) (v : Id) (k : ℕ) → own r (volumes_of O) v k ≡ own r (volumes_of F) v k
same_own F O settled out r v k = ap (λ (q : Option File). own_by (r v) q k) (same_file_by (F (Volume v)) (O (Volume v)) (settled v) (out (Volume v)))

-- a folder has an outcome
pub some_outcome : (dir : Dir) (d : Content) → (O : Folder) × IsFolderOutcome (folder_of dir d) O
some_outcome dir d = (folder_of dir (stable_folder d), folder_outcome dir d (stable_folder d) (stable_folder_outcome d))
