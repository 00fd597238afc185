-- What changes elsewhere leave of an image.
use Rattle.std.proofs.Common.{◌≡◌, ◌⊎◌, Option, ℕ, Some, None, sym, subst, ◌∙◌, inl, inr}
use Rattle.sd_names.specs.UpSet.{Hosts}
use Rattle.sd_names.specs.declared.id.Id.{Id}
use Rattle.sd_names.specs.declared.place.Dir.TheVariants as dir
use Rattle.sd_names.specs.declared.place.Name.{Name}
use Rattle.sd_names.specs.declared.place.Name.TheVariants as name
use Rattle.shared_disk.specs.Content.{Content, File}
use Rattle.shared_disk.specs.NameCalls.{place_in}
use Rattle.chain_model.specs.Folder.{Folder, folder_of}
use Rattle.pool_model.specs.ImageStands.{FolderMeans}
use Rattle.pool_model.specs.Laws.{AreAlive, LeavesImage}
use Rattle.pool_model.specs.Leases.{IsGuest}
use Rattle.pool_model.specs.Pool.{Image, Pool, Torn}
use Rattle.pool_model.specs.Standing.{ImageStands, IsAlive, IsHeldFile, IsThere, IsTornBy}

guest_stays : (up : Hosts) (d e : Content) (p q : Pool) (sd i : Id) (h : ℕ) → LeavesImage up d e p q sd i → IsGuest p sd i h → IsGuest q sd i h
guest_stays up d e p q sd i h leaves (k, (r, names, kind, owner)) = (k, (r, leaves.named k r names, kind, owner))

held_stays : (up : Hosts) (d e : Content) (p q : Pool) (sd i : Id) (f : File) → LeavesImage up d e p q sd i → IsAlive up f → IsHeldFile p sd i f
    → IsHeldFile q sd i f
held_stays up d e p q sd i f leaves alive held = record {
  loose = λ l among. leaves.holds l.host (alive.loose l among) (held.loose l among);
  fresh = λ h is. leaves.holds h (alive.fresh h is) (held.fresh h is);
}

torn_stays : (up : Hosts) (d e : Content) (p q : Pool) (sd i : Id) (o : Option Torn) → LeavesImage up d e p q sd i → IsTornBy up p sd i o → IsTornBy up q sd i o
torn_stays up d e p q sd i None leaves torn = torn
torn_stays up d e p q sd i (Some t) leaves (h, guest, here) = (h, guest_stays up d e p q sd i h leaves guest, here)

there_stays : (up : Hosts) (d e : Content) (p q : Pool) (sd i : Id) (version : ℕ) (m : Image) → LeavesImage up d e p q sd i
    → IsThere up d p sd version i m → IsThere up e q sd version i m
there_stays up d e p q sd i version m leaves there = record {
  image = leaves.image ∙ there.image;
  folder = leaves.folder ∙ there.folder;
  removed = leaves.removed ∙ there.removed;
  means = subst (λ (F : Folder). FolderMeans (record { domain = sd; id = i; version = version }) m F) (sym same) there.means;
  texts = λ v f is. let text = there.texts v f (sym (leaves.files (name.Volume v)) ∙ is) in (text.0, leaves.files (name.Meta v) ∙ text.1);
  zeros = λ n f zero is. there.zeros n f zero (sym (leaves.files n) ∙ is);
  torn = torn_stays up d e p q sd i m.torn leaves there.torn;
}
  where
    same : folder_of (dir.Image sd i) e ≡ folder_of (dir.Image sd i) d
    same j n = leaves.files n j

pub image_stays : (up : Hosts) (d e : Content) (p q : Pool) (sd i : Id) (version : ℕ) → AreAlive up d → LeavesImage up d e p q sd i
    → ImageStands up d p sd version i → ImageStands up e q sd version i
image_stays up d e p q sd i version alive leaves stands = record {
  gone = λ none. let gone = stands.gone (λ k r names. none k r (leaves.named k r names)) in record {
    image = leaves.image ∙ gone.image;
    folder = leaves.folder ∙ gone.folder;
    removed = leaves.removed ∙ gone.removed;
  };
  there = λ is idle. let there = stands.there (is.0, (is.1.0, leaves.was_named is.0 is.1.0 is.1.1)) (λ making. idle (leaves.making making)) in
      (there.0, there_stays up d e p q sd i version there.0 leaves there.1);
  making = λ making k r names. stands.making (leaves.was_making making) k r (leaves.was_named k r names);
  held = λ n f is at. held_stays up d e p q sd i f leaves (lives n f (was n f at)) (stands.held n f is (was n f at));
}
  where
    lives : (n : Name) (f : File) → (folder_of (dir.Image sd i) d n ≡ Some f) ⊎ (folder_of (dir.Removed sd i) d n ≡ Some f) → IsAlive up f
    lives n f (inl is) = alive (place_in (dir.Image sd i) n) f is
    lives n f (inr is) = alive (place_in (dir.Removed sd i) n) f is

    was : (n : Name) (f : File) → (folder_of (dir.Image sd i) e n ≡ Some f) ⊎ (folder_of (dir.Removed sd i) e n ≡ Some f)
        → (folder_of (dir.Image sd i) d n ≡ Some f) ⊎ (folder_of (dir.Removed sd i) d n ≡ Some f)
    was n f (inl is) = inl (sym (leaves.files n) ∙ is)
    was n f (inr is) = inr (sym (leaves.removed_files n) ∙ is)
