-- A folder in which nothing is unsynced is its only outcome.
use Rattle.std.proofs.Common.{◌≡◌, Option, Some, None, refl, sym, ap, subst}
use Rattle.shared_disk.specs.Content.{File}
use Rattle.shared_disk.specs.Crash.{IsAlso, IsFileOutcome, IsSettled}
use Rattle.shared_disk.proofs.Outcomes.{settled_file}
use Rattle.chain_model.specs.Folder.{Folder, IsFolderOutcome, volumes_of}
use Rattle.chain_model.specs.Records.{Image as ImageIn}
use Rattle.pool_model.specs.ImageStands.{FolderMeans, IsImage}
use Rattle.pool_model.specs.Laws.{IsSettledFolder}
use Rattle.pool_model.specs.Pool.{Image}

only_file : (a b : Option File) → ((f : File) → a ≡ Some f → IsSettled f) → IsAlso IsFileOutcome a b → b ≡ a
only_file None None settled also = refl
only_file None (Some g) settled also = absurd also
only_file (Some f) None settled also = absurd also
only_file (Some f) (Some g) settled also = ap (λ (h : File). Some h) (settled_file f g (settled f refl) also)

pub only_folder : (F G : Folder) → IsSettledFolder F → IsFolderOutcome F G → G ≡ F
only_folder F G settled outcome i n = only_file (F n) (G n) (settled n) (outcome n) i

pub settled_means : (i : ImageIn) (m : Image) (F : Folder) → IsSettledFolder F → IsImage i (volumes_of F) m → FolderMeans i m F
settled_means i m F settled is G outcome = subst (λ (H : Folder). IsImage i (volumes_of H) m) (sym (only_folder F G settled outcome)) is
