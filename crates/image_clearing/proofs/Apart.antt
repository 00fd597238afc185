-- What the steps leave alone.
use Rattle.std.proofs.Common.{◌≡◌, ◌≢◌, ◌⊎◌, ℕ, None, sym, ap, subst, inl, inr}
use Rattle.sd_names.specs.declared.id.Id.{Id}
use Rattle.sd_names.specs.declared.place.Dir.TheVariants as dir
use Rattle.sd_names.specs.declared.place.Name.{Name}
use Rattle.sd_names.specs.declared.place.Place.{Place}
use Rattle.shared_disk.specs.Calls.{IsSame}
use Rattle.shared_disk.specs.Content.{Content}
use Rattle.lease_area.specs.Hold.{IsMoved, leases_of}
use Rattle.lease_area.specs.declared.sector.Sector.{Sector}
use Rattle.image_removing.specs.Removing.{RemovalTurn}
use Rattle.image_removing.specs.Steps.{IsRemovedLeft, Removal}
use Rattle.image_removing.specs.declared.removing.ImageRemoving.{ImageRemoving}
use Rattle.image_clearing.specs.Steps.{IsApart, own_place, removed_place}

-- the leases file isn't in an image's folder
pub leases_not_own : (sd image other : Id) → (leases_of other).dir ≢ dir.Image sd image
leases_not_own sd image other e = cc

pub leases_not_removed : (sd image other : Id) → (leases_of other).dir ≢ dir.Removed sd image
leases_not_removed sd image other e = cc

pub apart_same : (sd image : Id) (d e : Content) → IsSame d e → IsApart sd image d e
apart_same sd image d e same = record {
  dirs = λ q _ _. ap (λ (c : Content). c.dir q) same;
  files = λ q _ _ _. ap (λ (c : Content). c.file q) same;
  own = λ n. inl (ap (λ (c : Content). c.file (own_place sd image n)) same);
  removed = λ n. inl (ap (λ (c : Content). c.file (removed_place sd image n)) same);
}

pub apart_moved : (sd image : Id) (slot : ℕ) (new : Sector) (d e : Content) → IsMoved d sd slot new e → IsApart sd image d e
apart_moved sd image slot new d e moved = record {
  dirs = λ q _ _. moved.2.dirs q;
  files = λ q _ _ other. moved.2.others q other;
  own = λ n. inl (moved.2.others (own_place sd image n) (λ is. leases_not_own sd image sd (ap (λ (q : Place). q.dir) (sym is))));
  removed = λ n. inl (moved.2.others (removed_place sd image n) (λ is. leases_not_removed sd image sd (ap (λ (q : Place). q.dir) (sym is))));
}

-- a step of the removal
removal_apart : (m : ImageRemoving) (faults : ℕ) (step : RemovalTurn) (d e : Content) → Removal m faults step d e → IsApart m.sd m.image d e
removal_apart m faults step d e leaves = record {
  dirs = leaves.dirs;
  files = λ q own removed _. leaves.others q own removed;
  own = leaves.own;
  removed = λ n. go n (leaves.removed n);
}
  where
    go : (n : Name) → IsRemovedLeft m n d e → (e.file (removed_place m.sd m.image n) ≡ d.file (removed_place m.sd m.image n))
        ⊎ ((e.file (removed_place m.sd m.image n) ≡ None) ⊎ (e.file (removed_place m.sd m.image n) ≡ d.file (own_place m.sd m.image n)))
    go n (inl same) = inl same
    go n (inr (inl none)) = inr (inl none)
    go n (inr (inr moved)) = inr (inr moved.0)

pub apart_removal : (sd image : Id) (m : ImageRemoving) (faults : ℕ) (step : RemovalTurn) (d e : Content) → m.sd ≡ sd → m.image ≡ image → Removal m faults step d e → IsApart sd image d e
apart_removal sd image m faults step d e domain image_is leaves =
    subst (λ (a : Id). IsApart a image d e) domain (subst (λ (i : Id). IsApart m.sd i d e) image_is (removal_apart m faults step d e leaves))

pub leases_at_removal : (sd : Id) (m : ImageRemoving) (faults : ℕ) (step : RemovalTurn) (d e : Content) → Removal m faults step d e → e.file (leases_of sd) ≡ d.file (leases_of sd)
leases_at_removal sd m faults step d e leaves = leaves.others (leases_of sd) (leases_not_own m.sd m.image sd) (leases_not_removed m.sd m.image sd)
