-- What the manager of a pool knows while it frees sectors stays true beside other hosts.
use Rattle.std.proofs.Common.{◌≡◌, ◌⊎◌, ℕ, ◌<◌, ◌==◌, Bool, true, List, Option, Some, None, refl, sym, ap, subst, ◌∙◌, inl, inr, arith}
use Rattle.std.proofs.lemmas.Bool.{false≢true}
use Rattle.std.specs.Prelude.{Contains, MatchBool}
use Rattle.sd_names.specs.UpSet.{Hosts}
use Rattle.sd_names.specs.declared.id.Id.{Id}
use Rattle.sd_names.specs.declared.place.Dir.TheVariants as dir
use Rattle.sd_names.specs.declared.place.Name.{Name}
use Rattle.shared_disk.specs.Content.{Content, File, Loose}
use Rattle.shared_disk.specs.Crash.{DownLeaves, IsAlso, IsDownFile, IsSettledFor}
use Rattle.shared_disk.specs.NameCalls.{IsNameAbove, place_in}
use Rattle.shared_disk.proofs.Outcomes.{unless_some, without_among}
use Rattle.shared_disk.proofs.Toolkit.{down_leaves_file}
use Rattle.domain_meta.specs.declared.record.DomainRecord.{DomainRecord}
use Rattle.task_store.specs.declared.task.Task.{Task}
use Rattle.lease_area.specs.Hold.{leases_of}
use Rattle.lease_area.specs.Move.{IsFreed, IsTaken, RoleMove, TaskMove, freed, may_take, taken_by}
use Rattle.lease_area.specs.Record.{IsImageSlot}
use Rattle.lease_area.specs.Sector.{sector_bytes, sector_in}
use Rattle.lease_area.specs.declared.sector.Kind.{Kind}
use Rattle.lease_area.specs.declared.sector.Kind.TheVariants as kind
use Rattle.lease_area.specs.declared.sector.LeaseRecord.{LeaseRecord}
use Rattle.lease_area.specs.declared.sector.Sector.{Sector}
use Rattle.lease_area.specs.declared.sector.Sector.TheVariants.{Lease}
use Rattle.pool_model.specs.Downs.{DownPool}
use Rattle.pool_model.specs.Leases.{Holds, Leads, NamesAt}
use Rattle.pool_model.specs.Owned.{MayChangeImage, OwnedSector}
use Rattle.pool_model.specs.Pool.{Pool}
use Rattle.pool_model.specs.Standing.{Stands}
use Rattle.pool_model.specs.Verb.{Verb}
use Rattle.pool_model.proofs.Roles.{past_first}
use Rattle.pool_model.proofs.Stable.{role_sector}
use Rattle.task_settling.specs.Laws.{IsBeside}
use Rattle.task_settling.proofs.Stable.{bytes_at, leases_at, lease_reads, may_is, one_leader, read_lease, settled_for}
use Rattle.sector_freeing.specs.Freeing.{IsAt, domain_of, stage_of}
use Rattle.sector_freeing.specs.Knowing.{AreSyncedBut, HasNoneBelow, HasTask, IsReady}
use Rattle.sector_freeing.specs.Managing.{KnowsDomain, KnowsPool, NoneTasked}
use Rattle.sector_freeing.specs.declared.freeing.SectorFreeing.{SectorFreeing}
use Rattle.sector_freeing.specs.declared.freeing.Stage.{Stage}
use Rattle.sector_freeing.specs.declared.freeing.Stage.TheVariants.{Looking, Listing, Syncing, Freeing}
use Rattle.sector_freeing.proofs.Standing.{holder_leads}

one_record : (s : Sector) (a b : LeaseRecord) → s ≡ Lease a → s ≡ Lease b → a ≡ b
one_record s a b e f = cc

no_master : (o : Option Id) (a : Id) → o ≡ None → o ≡ Some a → ⊥
no_master o a e f = cc

guest_or_task : kind.Guest ≡ kind.Task → ⊥
guest_or_task e = cc

free_or_task : kind.Free ≡ kind.Task → ⊥
free_or_task e = cc

-- ---- who doesn't lead makes and ends no lease of a task

module _ (up : Hosts) (h : ℕ) (p : Pool) (a : Id) (k : ℕ) (new : Sector) (slot : IsImageSlot k) (not_lead : Leads p h → ⊥) where
  abbrev Moves : Bool → Type 0
  Moves spm = IsTaken up h kind.Guest (p.sector a k) new ⊎ (IsFreed h kind.Guest (p.sector a k) new ⊎ ((spm ≡ true) × TaskMove up h (p.sector a k) new))

  moves_by : (spm : Bool) → MatchBool (k == 0) (RoleMove up h (p.sector a k) new) (Moves spm) → Moves spm
  moves_by spm move = subst (λ (b : Bool). MatchBool b (RoleMove up h (p.sector a k) new) (Moves spm)) (past_first k slot) move

  pub task_was : (r : LeaseRecord) → new ≡ Lease r → r.kind ≡ kind.Task → OwnedSector h up p a k new → p.sector a k ≡ Lease r
  task_was r is held (inl same) = sym same ∙ is
  task_was r is held (inr (spm, (leads_is, move))) = absurd (go (moves_by spm move))
    where
      go : Moves spm → ⊥
      go (inl (s, was, may, now)) = guest_or_task (ap (λ (l : LeaseRecord). l.kind) (one_record new (taken_by h kind.Guest (p.sector a k)) r now is) ∙ held)
      go (inr (inl (s, was, guest, owner, now))) = free_or_task (ap (λ (l : LeaseRecord). l.kind) (one_record new (freed s) r now is) ∙ held)
      go (inr (inr (led, moves))) = not_lead (leads_is led)

  pub task_stays : (r : LeaseRecord) → p.sector a k ≡ Lease r → r.kind ≡ kind.Task → OwnedSector h up p a k new → new ≡ Lease r
  task_stays r is held (inl same) = same ∙ is
  task_stays r is held (inr (spm, (leads_is, move))) = absurd (go (moves_by spm move))
    where
      go : Moves spm → ⊥
      go (inl (s, was, may, now)) =
          let same : r ≡ s = one_record (p.sector a k) r s is was in
          false≢true (sym (ap (λ (w : Kind). may_take up h w r.owner) held) ∙ ap (λ (l : LeaseRecord). may_take up h l.kind l.owner) same ∙ may)
      go (inr (inl (s, was, guest, owner, now))) = guest_or_task (sym guest ∙ ap (λ (l : LeaseRecord). l.kind) (one_record (p.sector a k) s r was is) ∙ held)
      go (inr (inr (led, moves))) = not_lead (leads_is led)

-- the sector of an image that is held for a task, as the pool has it
named_in : (up : Hosts) (d : Content) (p : Pool) (sd : Id) (x : DomainRecord) (slot : ℕ) (r : LeaseRecord) → Stands up d p → p.domain sd ≡ Some x → HasTask sd slot r d → NamesAt p sd r.image slot r
named_in up d p sd x slot r stands listed task = record {
  slot = task.slot_is;
  lease = read_lease up d p sd x stands listed task.below.file task.below.there slot r task.slot_is (ap sector_in task.bytes ∙ task.reads);
  image = refl;
}

-- ---- another host changes only what it may

module _ (up : Hosts) (v : Verb) (h g : ℕ) (d e : Content) (p q : Pool) (beside : IsBeside up v h g d e p q) (leads : Leads p g) where
  not_lead : Leads p h → ⊥
  not_lead other = beside.apart (one_leader p g h leads other)

  master_stays : (m : Id) → p.master ≡ Some m → q.master ≡ Some m
  master_stays m is = go beside.owned.master
    where
      go : (q.master ≡ p.master) ⊎ (p.master ≡ None) → q.master ≡ Some m
      go (inl same) = same ∙ is
      go (inr none) = absurd (no_master p.master m none is)

  leads_now : Leads q g
  leads_now = (
    leads.0,
    (
      leads.1.0,
      master_stays leads.0 leads.1.1,
      role_sector up d p q h g beside.stands beside.apart beside.owned beside.some beside.alive leads.0 leads.1.0 leads.1.2 leads.1.3 (beside.owned.sectors leads.0 0) ∙ leads.1.2,
      leads.1.3,
    ),
  )

  tasks_stay : (t : Id) → q.task t ≡ p.task t
  tasks_stay t = go beside.owned.tasks
    where
      go : ((u : Id) → q.task u ≡ p.task u) ⊎ Leads p h → q.task t ≡ p.task t
      go (inl same) = same t
      go (inr other) = absurd (not_lead other)

  domain_stays : (a : Id) → q.domain a ≡ p.domain a
  domain_stays a = go beside.owned.domains
    where
      go : ((b : Id) → q.domain b ≡ p.domain b) ⊎ (Leads p h ⊎ (p.master ≡ None)) → q.domain a ≡ p.domain a
      go (inl same) = same a
      go (inr (inl other)) = absurd (not_lead other)
      go (inr (inr none)) = absurd (no_master p.master leads.0 none leads.1.1)

  pub known_still : (sd : Id) → KnowsDomain g sd p → KnowsDomain g sd q
  known_still sd known = record {
    leads = leads_now;
    listed = (known.listed.0, domain_stays sd ∙ known.listed.1);
    idle = λ t x opened. known.idle t x (sym (tasks_stay t) ∙ opened.0, opened.1);
  }

  pub freed_still : (sd : Id) → NoneTasked sd p → NoneTasked sd q
  freed_still sd none i (k, (r, names, held)) =
      none i (k, (r, record { slot = names.slot; lease = task_was up h p sd k (q.sector sd k) names.slot not_lead r names.lease held (beside.owned.sectors sd k); image = names.image }, held))

  module _ (sd : Id) (x : DomainRecord) (listed : p.domain sd ≡ Some x) where
    listed_now : q.domain sd ≡ Some x
    listed_now = domain_stays sd ∙ listed

    none_still : (bound : ℕ) → HasNoneBelow sd bound d → HasNoneBelow sd bound e
    none_still bound none =
        let new = leases_at up e q sd x beside.stands_now listed_now in
        record {
          file = new.file;
          there = new.there;
          area = record { size = new.size; settled = new.settled };
          none = λ k r slot below is task.
              let now = read_lease up e q sd x beside.stands_now listed_now new.file new.there k r slot is in
              let was = task_was up h p sd k (q.sector sd k) slot not_lead r now task (beside.owned.sectors sd k) in
              none.none k r slot below (lease_reads up d p sd x beside.stands listed none.file none.there k r slot was) task;
        }

    task_still : (slot : ℕ) (r : LeaseRecord) → HasTask sd slot r d → HasTask sd slot r e
    unfolding none_still
    task_still slot r task =
        let new = leases_at up e q sd x beside.stands_now listed_now in
        let names = named_in up d p sd x slot r beside.stands listed task in
        record {
          below = none_still slot task.below;
          slot_is = task.slot_is;
          bytes = bytes_at up e q sd x beside.stands_now listed_now new.file new.there slot task.slot_is
              ∙ ap sector_bytes (task_stays up h p sd slot (q.sector sd slot) task.slot_is not_lead r names.lease task.held (beside.owned.sectors sd slot));
          reads = task.reads;
          held = task.held;
        }

    files_still : (Is : Name → Type 0) (slot : ℕ) (r : LeaseRecord) → HasTask sd slot r d → AreSyncedBut Is g (dir.Image sd r.image) d → AreSyncedBut Is g (dir.Image sd r.image) e
    files_still Is slot r task are n f there = are n f (sym (same (beside.change.files (place_in (dir.Image sd r.image) n))) ∙ there)
      where
        neither : Holds p h sd r.image ⊎ Leads p h → ⊥
        neither (inl holds) = beside.apart (sym (holder_leads up d p sd r.image slot r x beside.stands listed (named_in up d p sd x slot r beside.stands listed task) task.held g h leads holds))
        neither (inr other) = not_lead other

        same : (e.file (place_in (dir.Image sd r.image) n) ≡ d.file (place_in (dir.Image sd r.image) n))
            ⊎ MayChangeImage h p sd r.image n (d.file (place_in (dir.Image sd r.image) n)) (e.file (place_in (dir.Image sd r.image) n))
            → e.file (place_in (dir.Image sd r.image) n) ≡ d.file (place_in (dir.Image sd r.image) n)
        same (inl is) = is
        same (inr may) = absurd (neither (may_is h p sd r.image n (d.file (place_in (dir.Image sd r.image) n)) (e.file (place_in (dir.Image sd r.image) n)) may))

    ready_still : (s : Stage) → IsReady s g sd d → IsReady s g sd e
    ready_still (Looking from) none = none_still from none
    ready_still (Listing slot r after) (task, are) = (task_still slot r task, files_still (IsNameAbove after) slot r task are)
    ready_still (Syncing slot r n) (task, are) = (task_still slot r task, files_still (λ m. (m ≡ n) ⊎ IsNameAbove (Some n) m) slot r task are)
    ready_still (Freeing slot r) (task, are) = (task_still slot r task, all_still slot r task are)
      where
        nothing : (f : File) → ⊥ ⊎ IsSettledFor g f → IsSettledFor g f
        nothing f (inl none) = absurd none
        nothing f (inr is) = is

        all_still : (slot : ℕ) (r : LeaseRecord) → HasTask sd slot r d → ((n : Name) (f : File) → d.file (place_in (dir.Image sd r.image) n) ≡ Some f → IsSettledFor g f)
            → (n : Name) (f : File) → e.file (place_in (dir.Image sd r.image) n) ≡ Some f → IsSettledFor g f
        all_still slot r task are n f there = nothing f (files_still (λ m. ⊥) slot r task (λ m z at. inr (are m z at)) n f there)

pub others_keep : (up : Hosts) (v : Verb) (h g : ℕ) (d e : Content) (p q : Pool) (s : SectorFreeing) → IsBeside up v h g d e p q → KnowsPool g s d p → KnowsPool g s e q
others_keep up v h g d e p q s beside known = (
  known_still up v h g d e p q beside known.0.leads (domain_of s) known.0,
  ready_still up v h g d e p q beside known.0.leads (domain_of s) known.0.listed.0 known.0.listed.1 (stage_of s) known.1,
)

-- ---- another host goes down

settled_down : (h g : ℕ) (f z : File) → IsDownFile h f z → IsSettledFor g f → IsSettledFor g z
settled_down h g f z down is = record {
  loose = λ l among. is.loose l (without_among h f.loose l (subst (λ (ls : List Loose). Contains ls l) down.loose among));
  fresh = λ made. is.fresh (unless_some h g f.fresh (sym down.fresh ∙ made));
}

module _ (up : Hosts) (h g : ℕ) (d e : Content) (p q : Pool) (stands : Stands up d p) (leaves : DownLeaves d h e) (down : DownPool h p q) where
  known_down : (sd : Id) → KnowsDomain g sd p → KnowsDomain g sd q
  known_down sd known = record {
    leads = (known.leads.0, (known.leads.1.0, down.master ∙ known.leads.1.1, ap (λ (s : Id → ℕ → Sector). s known.leads.0 0) down.sector ∙ known.leads.1.2, known.leads.1.3));
    listed = (known.listed.0, ap (λ (f : Id → Option DomainRecord). f sd) down.domain ∙ known.listed.1);
    idle = λ t x opened. known.idle t x (sym (ap (λ (f : Id → Option Task). f t) down.task) ∙ opened.0, opened.1);
  }

  module _ (sd : Id) where
    none_down : (bound : ℕ) → HasNoneBelow sd bound d → HasNoneBelow sd bound e
    none_down bound none = record {
      file = none.file;
      there = down_leaves_file d e h (leases_of sd) none.file leaves none.there (settled_for h none.file none.area.settled);
      area = none.area;
      none = none.none;
    }

    task_down : (slot : ℕ) (r : LeaseRecord) → HasTask sd slot r d → HasTask sd slot r e
    unfolding none_down
    task_down slot r task = record { below = none_down slot task.below; slot_is = task.slot_is; bytes = task.bytes; reads = task.reads; held = task.held }

    files_down : (Is : Name → Type 0) (i : Id) → AreSyncedBut Is g (dir.Image sd i) d → AreSyncedBut Is g (dir.Image sd i) e
    files_down Is i are n z there = go (d.file (place_in (dir.Image sd i) n)) (e.file (place_in (dir.Image sd i) n)) (leaves.files (place_in (dir.Image sd i) n)) refl there
      where
        one : (x z : File) → ◌≡◌ {A = Option File} (Some x) (Some z) → x ≡ z
        one x z is = cc

        nothing : ◌≡◌ {A = Option File} None (Some z) → ⊥
        nothing is = cc

        still : (f x : File) → IsDownFile h f x → x ≡ z → Is n ⊎ IsSettledFor g f → Is n ⊎ IsSettledFor g z
        still f x is same (inl left) = inl left
        still f x is same (inr settled) = inr (subst (λ (y : File). IsSettledFor g y) same (settled_down h g f x is settled))

        go : (a b : Option File) → IsAlso (IsDownFile h) a b → d.file (place_in (dir.Image sd i) n) ≡ a → b ≡ Some z → Is n ⊎ IsSettledFor g z
        go (Some f) (Some x) is before now = still f x is (one x z now) (are n f before)
        go (Some f) None is before now = absurd is
        go None (Some x) is before now = absurd is
        go None None is before now = absurd (nothing now)

    ready_down : (s : Stage) → IsReady s g sd d → IsReady s g sd e
    ready_down (Looking from) none = none_down from none
    ready_down (Listing slot r after) (task, are) = (task_down slot r task, files_down (IsNameAbove after) r.image are)
    ready_down (Syncing slot r n) (task, are) = (task_down slot r task, files_down (λ m. (m ≡ n) ⊎ IsNameAbove (Some n) m) r.image are)
    ready_down (Freeing slot r) (task, are) = (task_down slot r task, λ n f there. nothing f (files_down (λ m. ⊥) r.image (λ m z at. inr (are m z at)) n f there))
      where
        nothing : (f : File) → ⊥ ⊎ IsSettledFor g f → IsSettledFor g f
        nothing f (inl none) = absurd none
        nothing f (inr is) = is

  pub downs_keep : (s : SectorFreeing) → KnowsPool g s d p → KnowsPool g s e q
  downs_keep s known = (known_down (domain_of s) known.0, ready_down (domain_of s) (stage_of s) known.1)

-- ---- the begin

first_none : (k : ℕ) → 0 < k → k < 1 → ⊥
first_none k low high = omega (arith, low, high)

pub begun_knows : (up : Hosts) (d : Content) (p : Pool) (h : ℕ) (sd : Id) (s : SectorFreeing) → Stands up d p → KnowsDomain h sd p → IsAt sd (Looking 1) s → KnowsPool h s d p
begun_knows up d p h sd s stands known at =
    let leases = leases_at up d p sd known.listed.0 stands known.listed.1 in (
      subst (λ (a : Id). KnowsDomain h a p) (sym at.domain) known,
      subst (λ (a : Id). IsReady (stage_of s) h a d) (sym at.domain)
          (subst (λ (z : Stage). IsReady z h sd d) (sym at.now_in) (record {
            file = leases.file;
            there = leases.there;
            area = record { size = leases.size; settled = leases.settled };
            none = λ k r slot below is. absurd (first_none k slot.low below);
          })),
    )
