-- What a step of a creation leaves alone, by the work that it does.
use Rattle.std.proofs.Common.{◌≡◌, ◌≢◌, ℕ, refl, sym, ap, ◌∙◌, inl}
use Rattle.sd_names.specs.declared.place.Dir.TheVariants as dir
use Rattle.sd_names.specs.declared.place.Name.TheVariants as name
use Rattle.sd_names.specs.declared.place.Place.{Place}
use Rattle.shared_disk.specs.Calls.{IsSame}
use Rattle.shared_disk.specs.Content.{Content, File}
use Rattle.shared_disk.specs.NameCalls.{place_in}
use Rattle.shared_disk.proofs.AtPlace.{one_file}
use Rattle.lease_area.specs.Hold.{IsMoved, Stands, leases_of}
use Rattle.lease_area.specs.Sector.{sector_bytes}
use Rattle.lease_area.specs.declared.sector.Sector.{Sector}
use Rattle.whole_file.specs.Replace.{IsApart as IsApartFrom}
use Rattle.image_making.specs.NewImage.{IsImage, folder_of, text_place, volatile_place, volume_place}
use Rattle.image_making.specs.Steps.{IsApart as IsApartMaking}
use Rattle.image_making.specs.declared.making.NewImage.{NewImage}
use Rattle.image_creating.specs.ImageTask.{domain_of, master_of, new_place_of, place_of}
use Rattle.image_creating.specs.Steps.{IsApart, IsExchangedFor, IsSectorLeft}
use Rattle.image_creating.specs.declared.image_task.ImageTask.{ImageTask}

-- ---- places that differ

pub leases_not_task : (t : ImageTask) → leases_of (domain_of t) ≢ place_of t
leases_not_task t same = let e : name.Leases ≡ name.Task t.begun.id = ap (λ (p : Place). p.name) same in cc

pub leases_not_new : (t : ImageTask) → leases_of (domain_of t) ≢ new_place_of t
leases_not_new t same = let e : name.Leases ≡ name.TaskNew t.begun.id = ap (λ (p : Place). p.name) same in cc

pub task_not_new : (t : ImageTask) → place_of t ≢ new_place_of t
task_not_new t same = let e : name.Task t.begun.id ≡ name.TaskNew t.begun.id = ap (λ (p : Place). p.name) same in cc

-- an image's folder is neither that of tasks nor that of leases
pub task_outside : (t : ImageTask) (x : NewImage) (q : Place) → q.dir ≡ folder_of x → q ≢ place_of t
task_outside t x q inside same = let e : dir.Tasks t.master ≡ dir.Image x.says.domain x.says.image = ap (λ (p : Place). p.dir) (sym same) ∙ inside in cc

pub new_outside : (t : ImageTask) (x : NewImage) (q : Place) → q.dir ≡ folder_of x → q ≢ new_place_of t
new_outside t x q inside same = let e : dir.Tasks t.master ≡ dir.Image x.says.domain x.says.image = ap (λ (p : Place). p.dir) (sym same) ∙ inside in cc

pub leases_outside : (t : ImageTask) (x : NewImage) (q : Place) → q.dir ≡ folder_of x → q ≢ leases_of (domain_of t)
leases_outside t x q inside same = let e : dir.DomMd t.sd ≡ dir.Image x.says.domain x.says.image = ap (λ (p : Place). p.dir) (sym same) ∙ inside in cc

pub tasks_not_folder : (t : ImageTask) (x : NewImage) → dir.Tasks (master_of t) ≢ folder_of x
tasks_not_folder t x same = let e : dir.Tasks t.master ≡ dir.Image x.says.domain x.says.image = same in cc

-- ---- what stands of the image where its folder and files are left alone

pub image_left : (x : NewImage) (d e : Content) → e.dir (folder_of x) ≡ d.dir (folder_of x) → ((q : Place) → q.dir ≡ folder_of x → e.file q ≡ d.file q) → IsImage x d → IsImage x e
image_left x d e folder files is = record {
  folder = folder ∙ is.folder;
  file = (is.file.0, files (volume_place x) refl ∙ is.file.1, is.file.2);
  text = (is.text.0, files (text_place x) refl ∙ is.text.1, is.text.2);
  only = λ n file text. files (place_in (folder_of x) n) refl ∙ is.only n file text;
}

-- ---- nothing

module _ (t : ImageTask) (x : NewImage) (host : ℕ) (d e : Content) where
  pub apart_same : IsSame d e → IsApart t x host d e
  apart_same same = record {
    dirs = λ q other. ap (λ (c : Content). c.dir q) same;
    kept = λ q there. ap (λ (c : Content). c.dir q) same ∙ there;
    files = λ q task new leases folder. ap (λ (c : Content). c.file q) same;
    sector = inl (ap (λ (c : Content). c.file (leases_of (domain_of t))) same);
  }

  -- the task's text, by way of the file beside it
  pub apart_text : (target volatile : Place) → target ≡ place_of t → volatile ≡ new_place_of t → IsApartFrom target volatile d e → IsApart t x host d e
  apart_text target volatile target_is volatile_is apart = record {
    dirs = λ q other. apart.dirs q;
    kept = λ q there. apart.dirs q ∙ there;
    files = λ q task new leases folder. apart.files q (λ same. task (same ∙ target_is)) (λ same. new (same ∙ volatile_is));
    sector = inl (apart.files (leases_of (domain_of t)) (λ same. leases_not_task t (same ∙ target_is)) (λ same. leases_not_new t (same ∙ volatile_is)));
  }

  pub files_beside : (target volatile : Place) → target ≡ place_of t → volatile ≡ new_place_of t → IsApartFrom target volatile d e → (q : Place) → q.dir ≡ folder_of x → e.file q ≡ d.file q
  files_beside target volatile target_is volatile_is apart q inside =
      apart.files q (λ same. task_outside t x q inside (same ∙ target_is)) (λ same. new_outside t x q inside (same ∙ volatile_is))

  -- a sector
  pub apart_sector : (slot : ℕ) (old new : Sector) → Stands d (domain_of t) slot (sector_bytes old) → IsMoved d (domain_of t) slot new e
      → (IsExchangedFor t old new d e → IsSectorLeft t host d e) → IsApart t x host d e
  apart_sector slot old new stands moved left = record {
    dirs = λ q other. moved.2.dirs q;
    kept = λ q there. moved.2.dirs q ∙ there;
    files = λ q task new_place leases folder. moved.2.others q leases;
    sector = left (
      moved.0,
      slot,
      moved.1,
      ap (λ (f : File). f.stable slot) (one_file moved.0 stands.file (d.file (leases_of (domain_of t))) moved.1 stands.there) ∙ stands.bytes_are,
      moved.2.here,
    );
  }

  pub files_at_lease : (slot : ℕ) (new : Sector) → IsMoved d (domain_of t) slot new e → (q : Place) → q.dir ≡ folder_of x → e.file q ≡ d.file q
  files_at_lease slot new moved q inside = moved.2.others q (leases_outside t x q inside)

  -- the image's files
  pub apart_image : IsApartMaking x d e → IsApart t x host d e
  apart_image apart = record {
    dirs = apart.dirs;
    kept = apart.kept;
    files = λ q task new leases folder. apart.files q (λ same. folder (ap (λ (p : Place). p.dir) same)) (λ same. folder (ap (λ (p : Place). p.dir) same)) (λ same. folder (ap (λ (p : Place). p.dir) same));
    sector = inl (apart.files (leases_of (domain_of t)) (out (volume_place x) refl) (out (text_place x) refl) (out (volatile_place x) refl));
  }
    where
      out : (q : Place) → q.dir ≡ folder_of x → leases_of (domain_of t) ≢ q
      out q inside same = leases_outside t x q inside (sym same)

  pub task_at_image : IsApartMaking x d e → e.file (place_of t) ≡ d.file (place_of t)
  task_at_image apart = apart.files (place_of t) (out (volume_place x) refl) (out (text_place x) refl) (out (volatile_place x) refl)
    where
      out : (q : Place) → q.dir ≡ folder_of x → place_of t ≢ q
      out q inside same = task_outside t x q inside (sym same)

  pub leases_at_image : IsApartMaking x d e → e.file (leases_of (domain_of t)) ≡ d.file (leases_of (domain_of t))
  leases_at_image apart = apart.files (leases_of (domain_of t)) (out (volume_place x) refl) (out (text_place x) refl) (out (volatile_place x) refl)
    where
      out : (q : Place) → q.dir ≡ folder_of x → leases_of (domain_of t) ≢ q
      out q inside same = leases_outside t x q inside (sym same)
