-- What a host that recovers a pool knows stays true beside other hosts.
use Rattle.std.proofs.Common.{◌≡◌, ◌≢◌, ◌⊎◌, ℕ, List, Option, Some, None, ap, ◌∙◌, inl, inr}
use Rattle.sd_names.specs.UpSet.{Hosts}
use Rattle.sd_names.specs.declared.id.Id.{Id}
use Rattle.shared_disk.specs.Content.{Content}
use Rattle.shared_disk.specs.Crash.{DownLeaves}
use Rattle.task_store.specs.declared.task.Task.{Task}
use Rattle.lease_area.specs.declared.sector.Sector.{Sector}
use Rattle.pool_model.specs.Downs.{DownPool}
use Rattle.pool_model.specs.Leases.{Leads}
use Rattle.pool_model.specs.Pool.{Pool}
use Rattle.pool_model.specs.Standing.{Stands}
use Rattle.pool_model.specs.Verb.{Verb}
use Rattle.pool_model.proofs.Stable.{role_sector}
use Rattle.task_listing.specs.Listing.{Noted}
use Rattle.task_listing.proofs.Stable.{no_master, one_leader}
use Rattle.task_listing.proofs.Stable as listing
use Rattle.task_settling.specs.Laws.{DownsKeepSettlings, IsBeside, OthersKeepSettlings}
use Rattle.pool_recovering.specs.Knowing.{Knows}
use Rattle.pool_recovering.specs.declared.recovering.PoolRecovery.{PoolRecovery}
use Rattle.pool_recovering.specs.declared.recovering.PoolRecovery.TheVariants.{Listing, Settling}
use Rattle.pool_recovering.proofs.Settles.{same_list}

module _ (law : OthersKeepSettlings) (up : Hosts) (v : Verb) (h g : ℕ) (d e : Content) (p q : Pool) (beside : IsBeside up v h g d e p q) where
  leads_still : Leads p g → Leads q g
  leads_still (m, (r, master, sector, owner)) = (
    m,
    (
      r,
      master_still beside.owned.master,
      role_sector up d p q h g beside.stands beside.apart beside.owned beside.some beside.alive m r sector owner (beside.owned.sectors m 0) ∙ sector,
      owner,
    ),
  )
    where
      master_still : (q.master ≡ p.master) ⊎ (p.master ≡ None) → q.master ≡ Some m
      master_still (inl same) = same ∙ master
      master_still (inr none) = absurd (no_master p.master m none master)

  same_tasks : Leads p g → ((t : Id) → q.task t ≡ p.task t) ⊎ Leads p h → (t : Id) → q.task t ≡ p.task t
  same_tasks leads (inl same) = same
  same_tasks leads (inr other) = absurd (beside.apart (one_leader p g h leads other))

  pub others_keep : (master : Id) (tasks : List Noted) (r : PoolRecovery) → Knows g master tasks r d p → Knows g master tasks r e q
  others_keep master tasks (Listing l) knows = record {
    leads = leads_still knows.leads;
    domain = knows.domain;
    listing = listing.others_keep up h g p q l beside.owned beside.apart knows.leads knows.listing;
  }
  others_keep master tasks (Settling t s) knows = record {
    domain = knows.domain;
    task = knows.task;
    settling = law up v h g d e p q s beside knows.settling;
    listed = same_list p q tasks (same_tasks knows.settling.0.leads beside.owned.tasks) knows.listed;
  }

module _ (law : DownsKeepSettlings) (up : Hosts) (h g : ℕ) (d e : Content) (p q : Pool) (stands : Stands up d p) (leaves : DownLeaves d h e) (down : DownPool h p q) (apart : g ≢ h) where
  leads_down : Leads p g → Leads q g
  leads_down (m, (r, master, sector, owner)) = (m, (r, down.master ∙ master, ap (λ (s : Id → ℕ → Sector). s m 0) down.sector ∙ sector, owner))

  pub downs_keep : (master : Id) (tasks : List Noted) (r : PoolRecovery) → Knows g master tasks r d p → Knows g master tasks r e q
  downs_keep master tasks (Listing l) knows = record {
    leads = leads_down knows.leads;
    domain = knows.domain;
    listing = listing.downs_keep h p q l down knows.listing;
  }
  downs_keep master tasks (Settling t s) knows = record {
    domain = knows.domain;
    task = knows.task;
    settling = law up h g d e p q s stands leaves down apart knows.settling;
    listed = same_list p q tasks (λ t. ap (λ (f : Id → Option Task). f t) down.task) knows.listed;
  }
