-- A step of a freeing is made of changes of the pool's machine.
use Rattle.std.proofs.Common.{◌≡◌, ◌⊎◌, ℕ, Option, Some, None, refl, sym, ap, subst, ◌∙◌, inl, inr}
use Rattle.sd_names.specs.UpSet.{Hosts}
use Rattle.sd_names.specs.declared.id.Id.{Id}
use Rattle.sd_names.specs.declared.place.Dir.TheVariants as dir
use Rattle.sd_names.specs.declared.place.Name.{Name}
use Rattle.sd_names.specs.declared.turn.Turn.TheVariants.{More, Done, Ended}
use Rattle.shared_disk.specs.Calls.{IsSame}
use Rattle.shared_disk.specs.Content.{Content}
use Rattle.shared_disk.specs.WellFormed.{IsWellFormed}
use Rattle.domain_meta.specs.declared.record.DomainRecord.{DomainRecord}
use Rattle.lease_area.specs.Hold.{IsMoved}
use Rattle.lease_area.specs.Move.{freed}
use Rattle.lease_area.specs.Sector.{sector_in}
use Rattle.lease_area.specs.declared.sector.LeaseRecord.{LeaseRecord}
use Rattle.lease_area.specs.declared.sector.Sector.{Sector}
use Rattle.lease_area.specs.declared.sector.Sector.TheVariants.{Empty, Lease}
use Rattle.pool_model.specs.Leases.{NamesAt}
use Rattle.pool_model.specs.Marks.{liberate}
use Rattle.pool_model.specs.Owned.{OwnedChange, OwnedPool}
use Rattle.pool_model.specs.Pool.{Pool}
use Rattle.pool_model.specs.Rules.{IsListed, Spent, here, spent}
use Rattle.pool_model.specs.Standing.{Stands}
use Rattle.pool_model.specs.Verb.{Verb}
use Rattle.pool_model.proofs.Kept.{standing_keeps}
use Rattle.pool_model.proofs.OneDomain.{bare_here}
use Rattle.pool_model.proofs.Roles.{nothing_changed, nothing_owned}
use Rattle.task_settling.proofs.Stable.{lease_reads, read_lease}
use Rattle.sector_freeing.specs.Freeing.{FreeTurn, domain_of, stage_of}
use Rattle.sector_freeing.specs.Knowing.{AreSynced, HasNoneBelow, HasTask, IsReady}
use Rattle.sector_freeing.specs.Managing.{IsOnly, KnowsDomain, NoneTasked}
use Rattle.sector_freeing.specs.Stepped.{After, FreesInPool, FreesOnly, Passes, Stepped}
use Rattle.sector_freeing.specs.Steps.{After as AfterStep, FreesSectors, IsSynced, StepsIn}
use Rattle.sector_freeing.specs.declared.freeing.SectorFreeing.{SectorFreeing}
use Rattle.sector_freeing.specs.declared.freeing.Stage.{Stage}
use Rattle.sector_freeing.specs.declared.freeing.Stage.TheVariants.{Looking, Listing, Syncing, Freeing}
use Rattle.sector_freeing.proofs.Liberated.{frees_only, leads_stay, liberated, liberated_changed, liberated_passes}
use Rattle.sector_freeing.proofs.Standing.{freeing_owned, freeing_stands}
use Rattle.sector_freeing.proofs.Syncing.{syncing_owned, syncing_stands}

-- What a step did to the pool.
pub record Did (h : ℕ) (up : Hosts) (sd : Id) (d : Content) (p : Pool) (e : Content) (q : Pool) : Type 0 where
  pub passes : Passes p q
  pub stands : Stands up e q
  pub known : KnowsDomain h sd q
  pub owned : (v : Verb) → OwnedChange h up v p d e
  pub changes : OwnedPool h up p q
  pub sectors : (a : Id) (k : ℕ) → FreesOnly sd a k (p.sector a k) (q.sector a k)
  pub images : (a i : Id) → q.image a i ≡ p.image a i
  pub tasks : (t : Id) → q.task t ≡ p.task t

-- ---- nothing is left

-- no sector of the domain that stands for the pool
pub none_tasked : (up : Hosts) (e : Content) (q : Pool) (h : ℕ) (sd : Id) → Stands up e q → KnowsDomain h sd q → HasNoneBelow sd 1024 e → NoneTasked sd q
none_tasked up e q h sd stands known none i (k, (r, names, held)) =
    none.none k r names.slot names.slot.high (lease_reads up e q sd known.listed.0 stands known.listed.1 none.file none.there k r names.slot names.lease) held

-- and none of the pool, where it is so for each domain
pub all_spent : (up : Hosts) (e : Content) (q : Pool) → Stands up e q → ((a : Id) → IsListed q a → NoneTasked a q) → Spent liberate q
all_spent up e q stands none a i (k, (r, names, held)) = go (q.domain a) refl
  where
    not_empty : (s : Sector) → s ≡ Empty → s ≡ Lease r → ⊥
    not_empty s is so = cc

    go : (o : Option DomainRecord) → q.domain a ≡ o → ⊥
    go None unlisted = not_empty (q.sector a k) ((bare_here up e q a stands unlisted).sector k) names.lease
    go (Some x) listed = none a (x, listed) i (k, (r, names, held))

only_spent : (up : Hosts) (e : Content) (q : Pool) (sd : Id) → Stands up e q → NoneTasked sd q → IsOnly sd q → Spent liberate q
only_spent up e q sd stands none only = all_spent up e q stands (λ a listed. subst (λ (b : Id). NoneTasked b q) (sym (only a listed)) none)

-- ---- what each stage does

module _ (h : ℕ) (up : Hosts) (sd : Id) (faults : ℕ) (d e : Content) (p : Pool) (stands : Stands up d p) (known : KnowsDomain h sd p) (well : IsWellFormed e) where
  did_nothing : IsSame d e → Did h up sd d p e p
  did_nothing same = record {
    passes = record { stays = λ c ms n. here; ends = λ nothing c ms n. spent nothing here };
    stands = subst (λ (x : Content). Stands up x p) (sym same) stands;
    known = known;
    owned = λ v. subst (λ (x : Content). OwnedChange h up v p d x) (sym same) (nothing_owned h up v p d);
    changes = nothing_changed h up p;
    sectors = λ a k. inl refl;
    images = λ a i. refl;
    tasks = λ t. refl;
  }

  module _ (slot : ℕ) (r : LeaseRecord) (task : HasTask sd slot r d) where
    names : NamesAt p sd r.image slot r
    names = record {
      slot = task.slot_is;
      lease = read_lease up d p sd known.listed.0 stands known.listed.1 task.below.file task.below.there slot r task.slot_is (ap sector_in task.bytes ∙ task.reads);
      image = refl;
    }

    did_sync : (n : Name) → IsSynced h sd r.image n d e → Did h up sd d p e p
    did_sync n (f, was, put) = record {
      passes = record { stays = λ c ms m. here; ends = λ nothing c ms m. spent nothing here };
      stands = syncing_stands h up d e p sd r.image n f stands known.listed (slot, (r, names)) was put;
      known = known;
      owned = λ v. syncing_owned h up d e p sd r.image n f stands known.listed (slot, (r, names)) was put v (inr (known.leads, (slot, (r, names, task.held))));
      changes = nothing_changed h up p;
      sectors = λ a k. inl refl;
      images = λ a i. refl;
      tasks = λ t. refl;
    }

    did_free : IsMoved d sd slot (Lease (freed r)) e → AreSynced h sd r.image e → Did h up sd d p e (liberated p sd slot r)
    did_free moved are = record {
      passes = liberated_passes p sd r.image slot r names task.held;
      stands = freeing_stands h up d e p sd r.image slot r stands known.listed known.idle known.leads names task.held moved are well;
      known = record { leads = leads_stay p sd r.image slot r names h known.leads; listed = known.listed; idle = λ t x opened. known.idle t x opened };
      owned = λ v. freeing_owned h up d e p sd r.image slot r stands known.listed known.idle known.leads names task.held moved are well v;
      changes = liberated_changed p sd r.image slot r names task.held up h known.leads;
      sectors = frees_only p sd r.image slot r names task.held;
      images = λ a i. refl;
      tasks = λ t. refl;
    }

  -- ---- the turn

  after_turn : (turn : FreeTurn) (q : Pool) → Stands up e q → KnowsDomain h sd q → AfterStep h sd faults turn e → After h sd faults turn e q
  after_turn (More next) q stood now after = (subst (λ (a : Id). KnowsDomain h a q) (sym after.0) now, after.1.1)
  after_turn (Done u) q stood now after = let none = none_tasked up e q h sd stood now after in (now, (none, only_spent up e q sd stood none))
  after_turn (Ended u refusal) q stood now after = after

  stepped : (turn : FreeTurn) (q : Pool) → Did h up sd d p e q → AfterStep h sd faults turn e → Stepped h up sd faults turn d p e
  stepped turn q did after = record {
    pool = q;
    passes = did.passes;
    stands = did.stands;
    after = after_turn turn q did.stands did.known after;
    keeps = standing_keeps up e q did.stands;
    owned = did.owned;
    changes = did.changes;
    sectors = did.sectors;
    images = did.images;
    tasks = did.tasks;
  }

  by_stage : (s : Stage) (turn : FreeTurn) → IsReady s h sd d → StepsIn s h sd faults turn d e → Stepped h up sd faults turn d p e
  by_stage (Looking from) turn ready steps = stepped turn p (did_nothing steps.changes) steps.after
  by_stage (Listing slot r after) turn ready steps = stepped turn p (did_nothing steps.changes) steps.after
  by_stage (Syncing slot r n) turn ready steps = go steps.changes
    where
      go : IsSame d e ⊎ IsSynced h sd r.image n d e → Stepped h up sd faults turn d p e
      go (inl same) = stepped turn p (did_nothing same) steps.after
      go (inr synced) = stepped turn p (did_sync slot r ready.0 n synced) steps.after
  by_stage (Freeing slot r) turn ready steps = go steps.changes
    where
      go : IsSame d e ⊎ (IsMoved d sd slot (Lease (freed r)) e × AreSynced h sd r.image e) → Stepped h up sd faults turn d p e
      go (inl same) = stepped turn p (did_nothing same) steps.after
      go (inr moved) = stepped turn (liberated p sd slot r) (did_free slot r ready.0 moved.0 moved.1) steps.after

pub pool_step : (s : SectorFreeing) (h faults : ℕ) (turn : FreeTurn) (d e : Content) → IsWellFormed e → FreesSectors s h faults turn d e → FreesInPool s h faults turn d e
pool_step s h faults turn d e well frees up p stands ids known =
    by_stage h up (domain_of s) faults d e p stands known.0 well (stage_of s) turn known.1 (frees ((λ image n shows. ids (dir.Image (domain_of s) image) n shows), known.1))
