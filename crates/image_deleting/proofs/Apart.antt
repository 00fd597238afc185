-- What a step of a deletion leaves alone, by the work that it does.
use Rattle.std.proofs.Common.{◌≡◌, ◌≢◌, ◌⊎◌, ℕ, refl, sym, ap, ◌∙◌, inl, inr}
use Rattle.sd_names.specs.declared.place.Dir.TheVariants as dir
use Rattle.sd_names.specs.declared.place.Name.TheVariants as name
use Rattle.sd_names.specs.declared.place.Place.{Place}
use Rattle.shared_disk.specs.Calls.{IsSame}
use Rattle.shared_disk.specs.Content.{Content}
use Rattle.shared_disk.specs.NameCalls.{place_in}
use Rattle.lease_area.specs.Hold.{IsMoved, leases_of}
use Rattle.lease_area.specs.declared.sector.Sector.{Sector}
use Rattle.whole_file.specs.Replace.{IsApart as IsApartFrom}
use Rattle.image_removing.specs.Removing.{RemovalTurn}
use Rattle.image_removing.specs.Steps.{Removal}
use Rattle.image_removing.specs.declared.removing.ImageRemoving.{ImageRemoving}
use Rattle.image_deleting.specs.Knowing.{HasIds, IsOf}
use Rattle.image_deleting.specs.RemovalTask.{domain_of, new_place_of, own_folder, place_of, removed_folder}
use Rattle.image_deleting.specs.Steps.{IsApart, IsSectorLeft, IsUntouched}
use Rattle.image_deleting.specs.declared.removal_task.RemovalTask.{RemovalTask}

-- ---- places that differ

pub leases_not_task : (t : RemovalTask) → leases_of (domain_of t) ≢ place_of t
leases_not_task t same = let e : name.Leases ≡ name.Task t.begun.id = ap (λ (p : Place). p.name) same in cc

pub leases_not_new : (t : RemovalTask) → leases_of (domain_of t) ≢ new_place_of t
leases_not_new t same = let e : name.Leases ≡ name.TaskNew t.begun.id = ap (λ (p : Place). p.name) same in cc

-- the image's folders are neither that of tasks nor that of leases
pub task_not_own : (t : RemovalTask) → dir.Tasks t.master ≢ own_folder t
task_not_own t same = let e : dir.Tasks t.master ≡ dir.Image t.sd t.image = same in cc

pub task_not_removed : (t : RemovalTask) → dir.Tasks t.master ≢ removed_folder t
task_not_removed t same = let e : dir.Tasks t.master ≡ dir.Removed t.sd t.image = same in cc

pub leases_not_own : (t : RemovalTask) → dir.DomMd t.sd ≢ own_folder t
leases_not_own t same = let e : dir.DomMd t.sd ≡ dir.Image t.sd t.image = same in cc

pub leases_not_removed : (t : RemovalTask) → dir.DomMd t.sd ≢ removed_folder t
leases_not_removed t same = let e : dir.DomMd t.sd ≡ dir.Removed t.sd t.image = same in cc

pub task_outside : (t : RemovalTask) (q : Place) → (q.dir ≡ own_folder t) ⊎ (q.dir ≡ removed_folder t) → q ≢ place_of t
task_outside t q (inl inside) same = task_not_own t (ap (λ (p : Place). p.dir) (sym same) ∙ inside)
task_outside t q (inr inside) same = task_not_removed t (ap (λ (p : Place). p.dir) (sym same) ∙ inside)

pub new_outside : (t : RemovalTask) (q : Place) → (q.dir ≡ own_folder t) ⊎ (q.dir ≡ removed_folder t) → q ≢ new_place_of t
new_outside t q (inl inside) same = task_not_own t (ap (λ (p : Place). p.dir) (sym same) ∙ inside)
new_outside t q (inr inside) same = task_not_removed t (ap (λ (p : Place). p.dir) (sym same) ∙ inside)

pub leases_outside : (t : RemovalTask) (q : Place) → (q.dir ≡ own_folder t) ⊎ (q.dir ≡ removed_folder t) → q ≢ leases_of (domain_of t)
leases_outside t q (inl inside) same = leases_not_own t (ap (λ (p : Place). p.dir) (sym same) ∙ inside)
leases_outside t q (inr inside) same = leases_not_removed t (ap (λ (p : Place). p.dir) (sym same) ∙ inside)

-- ---- what is left

module _ (t : RemovalTask) (host : ℕ) (d e : Content) where
  pub ids_same : IsUntouched t d e → HasIds t d → HasIds t e
  ids_same same ids n (inl shows) = ids n (inl (shows.0, sym (same.files (place_in (own_folder t) n) (inl refl)) ∙ shows.1))
  ids_same same ids n (inr shows) = ids n (inr (shows.0, sym (same.files (place_in (removed_folder t) n) (inr refl)) ∙ shows.1))

  -- nothing
  pub apart_same : IsSame d e → IsApart t host d e
  apart_same same = record {
    dirs = λ q own removed. ap (λ (c : Content). c.dir q) same;
    files = λ q task new leases own removed. ap (λ (c : Content). c.file q) same;
    sector = inl (ap (λ (c : Content). c.file (leases_of (domain_of t))) same);
  }

  pub untouched_same : IsSame d e → IsUntouched t d e
  untouched_same same = record {
    own = ap (λ (c : Content). c.dir (own_folder t)) same;
    removed = ap (λ (c : Content). c.dir (removed_folder t)) same;
    files = λ q inside. ap (λ (c : Content). c.file q) same;
  }

  -- the task's text, by way of the file beside it
  module _ (target volatile : Place) (target_is : target ≡ place_of t) (volatile_is : volatile ≡ new_place_of t) (apart : IsApartFrom target volatile d e) where
    pub leases_beside : e.file (leases_of (domain_of t)) ≡ d.file (leases_of (domain_of t))
    leases_beside = apart.files (leases_of (domain_of t)) (λ same. leases_not_task t (same ∙ target_is)) (λ same. leases_not_new t (same ∙ volatile_is))

    pub apart_text : IsApart t host d e
    apart_text = record {
      dirs = λ q own removed. apart.dirs q;
      files = λ q task new leases own removed. apart.files q (λ same. task (same ∙ target_is)) (λ same. new (same ∙ volatile_is));
      sector = inl leases_beside;
    }

    pub untouched_text : IsUntouched t d e
    untouched_text = record {
      own = apart.dirs (own_folder t);
      removed = apart.dirs (removed_folder t);
      files = λ q inside. apart.files q (λ same. task_outside t q inside (same ∙ target_is)) (λ same. new_outside t q inside (same ∙ volatile_is));
    }

  -- a sector
  pub apart_sector : (slot : ℕ) (new : Sector) → IsMoved d (domain_of t) slot new e → IsSectorLeft t host d e → IsApart t host d e
  apart_sector slot new moved left = record {
    dirs = λ q own removed. moved.2.dirs q;
    files = λ q task new_place leases own removed. moved.2.others q leases;
    sector = left;
  }

  pub untouched_sector : (slot : ℕ) (new : Sector) → IsMoved d (domain_of t) slot new e → IsUntouched t d e
  untouched_sector slot new moved = record {
    own = moved.2.dirs (own_folder t);
    removed = moved.2.dirs (removed_folder t);
    files = λ q inside. moved.2.others q (leases_outside t q inside);
  }

  pub task_at_lease : (slot : ℕ) (new : Sector) → IsMoved d (domain_of t) slot new e → e.file (place_of t) ≡ d.file (place_of t)
  task_at_lease slot new moved = moved.2.others (place_of t) (λ same. leases_not_task t (sym same))

  -- the image's files
  module _ (r : ImageRemoving) (same : IsOf t r) (faults : ℕ) (step : RemovalTurn) (leaves : Removal r faults step d e) where
    pub leases_at_image : e.file (leases_of (domain_of t)) ≡ d.file (leases_of (domain_of t))
    leases_at_image = leaves.others (leases_of (domain_of t)) (λ is. leases_not_own t (is ∙ same.own)) (λ is. leases_not_removed t (is ∙ same.removed))

    pub task_at_image : e.file (place_of t) ≡ d.file (place_of t)
    task_at_image = leaves.others (place_of t) (λ is. task_not_own t (is ∙ same.own)) (λ is. task_not_removed t (is ∙ same.removed))

    pub tasks_at_image : e.dir (dir.Tasks t.master) ≡ d.dir (dir.Tasks t.master)
    tasks_at_image = leaves.dirs (dir.Tasks t.master) (λ is. task_not_own t (is ∙ same.own)) (λ is. task_not_removed t (is ∙ same.removed))

    pub apart_image : IsApart t host d e
    apart_image = record {
      dirs = λ q own removed. leaves.dirs q (λ is. own (is ∙ same.own)) (λ is. removed (is ∙ same.removed));
      files = λ q task new leases own removed. leaves.others q (λ is. own (is ∙ same.own)) (λ is. removed (is ∙ same.removed));
      sector = inl leases_at_image;
    }
