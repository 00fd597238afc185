-- What a listing knows stays true beside other hosts.
use Rattle.std.proofs.Common.{◌≡◌, ◌≢◌, ◌⊎◌, ℕ, List, Option, Some, None, sym, ap, subst, ◌∙◌, inl, inr}
use Rattle.sd_names.specs.UpSet.{Hosts}
use Rattle.sd_names.specs.declared.id.Id.{Id}
use Rattle.lease_area.specs.declared.sector.LeaseRecord.{LeaseRecord}
use Rattle.lease_area.specs.declared.sector.Sector.{Sector}
use Rattle.lease_area.specs.declared.sector.Sector.TheVariants.{Lease}
use Rattle.task_store.specs.declared.task.Task.{Task}
use Rattle.pool_model.specs.Downs.{DownPool}
use Rattle.pool_model.specs.Leases.{Leads}
use Rattle.pool_model.specs.Owned.{OwnedPool}
use Rattle.pool_model.specs.Pool.{Pool}
use Rattle.task_listing.specs.Listing.{HasListed, KnowsListing, KnowsOpen, Noted, open_of, stage_of, tasks_of}
use Rattle.task_listing.specs.declared.listing.Stage.{Stage}
use Rattle.task_listing.specs.declared.listing.TaskListing.{TaskListing}

one_master : (o : Option Id) (a b : Id) → o ≡ Some a → o ≡ Some b → a ≡ b
one_master o a b e f = cc

pub no_master : (o : Option Id) (a : Id) → o ≡ None → o ≡ Some a → ⊥
no_master o a e f = cc

one_record : (s : Sector) (a b : LeaseRecord) → s ≡ Lease a → s ≡ Lease b → a ≡ b
one_record s a b e f = cc

-- two hosts that lead are one
pub one_leader : (p : Pool) (g h : ℕ) → Leads p g → Leads p h → g ≡ h
one_leader p g h (m, (r, is, sector, owner)) (n, (s, so, other, holder)) =
    let here = subst (λ (i : Id). p.sector i 0 ≡ Lease s) (one_master p.master n m so is) other in
    sym owner ∙ ap (λ (y : LeaseRecord). y.owner) (one_record (p.sector m 0) r s sector here) ∙ holder

-- with the same tasks the same is listed
module _ (p q : Pool) (same : (t : Id) → q.task t ≡ p.task t) where
  open_stays : (ts : List Noted) (o : Option Task) → KnowsOpen ts o p → KnowsOpen ts o q
  open_stays ts None knows = knows
  open_stays ts (Some x) knows = (same x.id ∙ knows.0, knows.1)

  listed_stays : (stage : Stage) (ts : List Noted) (o : Option Task) → HasListed stage ts o p → HasListed stage ts o q
  listed_stays stage ts o has = record {
    order = has.order;
    each = λ t s among. let is = has.each t s among in (is.0, same t ∙ is.1, is.2);
    all = λ t x is. has.all t x (sym (same t) ∙ is);
    below = λ t u s x among is to_come. has.below t u s x among (sym (same u) ∙ is) to_come;
    opened = open_stays ts o has.opened;
  }

pub others_keep : (up : Hosts) (h g : ℕ) (p q : Pool) (l : TaskListing) → OwnedPool h up p q → g ≢ h → Leads p g → KnowsListing l p → KnowsListing l q
others_keep up h g p q l owned apart leads knows = record {
  master = master owned.master;
  listed = listed_stays p q (same owned.tasks) (stage_of l) (tasks_of l) (open_of l) knows.listed;
}
  where
    master : (q.master ≡ p.master) ⊎ (p.master ≡ None) → q.master ≡ Some l.sd
    master (inl is) = is ∙ knows.master
    master (inr none) = absurd (no_master p.master l.sd none knows.master)

    same : ((t : Id) → q.task t ≡ p.task t) ⊎ Leads p h → (t : Id) → q.task t ≡ p.task t
    same (inl is) = is
    same (inr other) = absurd (apart (one_leader p g h leads other))

pub downs_keep : (h : ℕ) (p q : Pool) (l : TaskListing) → DownPool h p q → KnowsListing l p → KnowsListing l q
downs_keep h p q l down knows = record {
  master = down.master ∙ knows.master;
  listed = listed_stays p q (λ t. ap (λ (f : Id → Option Task). f t) down.task) (stage_of l) (tasks_of l) (open_of l) knows.listed;
}
