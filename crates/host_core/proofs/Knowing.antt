-- What a host knows stays true beside others, and is enough to go down.
use Rattle.std.proofs.Common.{◌≡◌, ◌≢◌, ◌⊎◌, ℕ, ◌≤◌, Bool, true, false, List, [], ◌∷◌, Option, Some, None, ◌==◌, not, refl, sym, ap, subst, ◌∙◌, inl, inr}
use Rattle.std.proofs.lemmas.Bool.{false≢true}
use Rattle.std.specs.List.{filter}
use Rattle.std.specs.Prelude.{Contains, if◌then◌else◌}
use Rattle.sd_names.specs.UpSet.{Hosts, is_up}
use Rattle.sd_names.specs.declared.id.Id.{Id}
use Rattle.shared_disk.specs.Content.{Content}
use Rattle.shared_disk.specs.Crash.{DownLeaves}
use Rattle.shared_disk.proofs.Outcomes.{cons_cases, contains_here, contains_more, nothing_in}
use Rattle.domain_meta.specs.declared.record.DomainRecord.{DomainRecord}
use Rattle.lease_area.specs.Move.{owner_of}
use Rattle.lease_area.specs.declared.sector.Sector.{Sector}
use Rattle.pool_model.specs.Downs.{DownPool}
use Rattle.pool_model.specs.Laws.{IsQuiet, MakesNone}
use Rattle.pool_model.specs.Knows.{KnowsRole}
use Rattle.pool_model.specs.Leases.{IsGuest}
use Rattle.pool_model.specs.Marks.{Mark, change, clear, make_master}
use Rattle.pool_model.specs.Owned.{OwnedPool}
use Rattle.pool_model.specs.Pool.{Box, Image, Pool, Side, Torn, Writing, inbox, outbox}
use Rattle.pool_model.specs.Standing.{DomainStands, Stands}
use Rattle.pool_model.specs.State.{Kept, Opened}
use Rattle.pool_model.proofs.Downs.{down_pool, down_stands}
use Rattle.pool_model.proofs.Kept.{standing_keeps}
use Rattle.pool_model.proofs.OneDomain.{Said}
use Rattle.pool_model.proofs.Stable.{booted_know, down_lists, downs_know, lists_stay, others_know, role_sector}
use Rattle.host_core.specs.Downs.{GoesDown}
use Rattle.host_core.specs.Knows.{HostKnows, KnowsLease, KnowsPool, KnowsSteps}
use Rattle.host_core.specs.Memory.{Leader, Memory, fresh}
use Rattle.host_core.specs.State.{role_by, running_by, state_of, stop_marks}
use Rattle.host_core.specs.declared.work.Work.{Work}
use Rattle.host_core.specs.declared.work.Work.TheVariants as work

nothing_open : (o : Opened) → ◌≡◌ {A = Option Opened} None (Some o) → ⊥
nothing_open o e = cc

-- ---- going down

quiet_host : (k : Kept) (x : Memory) (p : Pool) → HostKnows k x p → IsQuiet x.id p
quiet_host k x p knows = record { images = λ sd i m guest there. none sd i m guest there m.torn refl; boxes = knows.boxes }
  where
    none : (sd i : Id) (m : Image) → IsGuest p sd i x.id → p.image sd i ≡ Some m → (o : Option Torn) → m.torn ≡ o → m.torn ≡ None
    none sd i m guest there None is = is
    none sd i m guest there (Some t) is = let at = knows.machine.torn sd i m t guest there is in absurd (nothing_open at.1.0 at.1.1.there)

pub goes_down : (x : Memory) (d e : Content) → DownLeaves d x.id e → GoesDown x d e
goes_down x d e leaves up now k p others stands knows = record {
  pool = p;
  down = down_pool x.id p (quiet_host k x p knows);
  stands = after;
  keeps = standing_keeps now e p after;
}
  where
    after : Stands now e p
    after = down_stands up now d e p x.id stands leaves others (quiet_host k x p knows)

-- ---- beside others

-- a host that gives its role back makes no pool
pub makes_none : (k : Kept) (x : Memory) (w : Option Work) → MakesNone (running_by k x w)
makes_none k x None = tt
makes_none k x (Some work.Stop) = none x.leading
  where
    none : (o : Option Leader) (r : DomainRecord) → stop_marks o ≡ change (make_master r) ∷ [] → ⊥
    none None r e = cc
    none (Some l) r e = cc
makes_none k x (Some (work.Clear t)) = none
  where
    none : (r : DomainRecord) → change (clear t) ∷ [] ≡ change (make_master r) ∷ [] → ⊥
    none r e = cc
makes_none k x (Some work.Tasks) = none
  where
    none : (r : DomainRecord) → ◌≡◌ {A = List Mark} [] (change (make_master r) ∷ []) → ⊥
    none r e = cc

steps_stay : (k : Kept) (x : Memory) (p q : Pool) (w : Option Work) → KnowsSteps x.id (running_by k x w) p → KnowsSteps x.id (running_by k x w) q
steps_stay k x p q None knows = tt
steps_stay k x p q (Some work.Stop) knows = knows
steps_stay k x p q (Some (work.Clear t)) knows = knows
steps_stay k x p q (Some work.Tasks) knows = knows

-- what is left of a box's writings was there
filtered_by : (h : ℕ) (w v : Writing) (ws : List Writing) (b : Bool) → (Contains (filter (λ u. not (u.host == h)) ws) w → Contains ws w)
    → Contains (if b then v ∷ filter (λ u. not (u.host == h)) ws else filter (λ u. not (u.host == h)) ws) w → Contains (v ∷ ws) w
filtered_by h w v ws false rest among = contains_more v w ws (rest among)
filtered_by h w v ws true rest among = first (cons_cases v w (filter (λ u. not (u.host == h)) ws) among)
  where
    first : (v ≡ w) ⊎ Contains (filter (λ u. not (u.host == h)) ws) w → Contains (v ∷ ws) w
    first (inl same) = subst (λ (u : Writing). Contains (v ∷ ws) u) same (contains_here v ws)
    first (inr more) = contains_more v w ws (rest more)

filtered : (h : ℕ) (w : Writing) (ws : List Writing) → Contains (filter (λ u. not (u.host == h)) ws) w → Contains ws w
filtered h w [] among = among
filtered h w (v ∷ ws) among = filtered_by h w v ws (not (v.host == h)) (filtered h w ws) among

module _ (up : Hosts) (d : Content) (p q : Pool) (h : ℕ) (k : Kept) (x : Memory) (stands : Stands up d p) (apart : x.id ≢ h) (knows : HostKnows k x p) where
  owner_is : (l : Leader) → KnowsRole x.id (role_by (Some l)) p → KnowsLease (Some l) p → l.lease.owner ≡ x.id
  owner_is l manager lease = ap owner_of (sym lease ∙ manager.held.sector) ∙ manager.held.owner

  module _ (owned : OwnedPool h up p q) (some : 1 ≤ x.id) (alive : is_up up x.id ≡ true) where
    lease_stays : (o : Option Leader) → KnowsRole x.id (role_by o) p → KnowsLease o p → KnowsLease o q
    lease_stays None manager lease = tt
    lease_stays (Some l) manager lease =
        role_sector up d p q h x.id stands apart owned some alive l.master l.lease lease (owner_is l manager lease) (owned.sectors l.master 0) ∙ lease

    pool_stays : (o : Option Leader) → KnowsRole x.id (role_by o) p → KnowsPool o p → KnowsPool o q
    pool_stays None manager lists = tt
    pool_stays (Some l) manager lists =
        lists_stay up d p q h x.id stands apart owned some alive (record { master = l.master; version = l.lease.version; begun = l.begun }) l.domains l.tasks
        manager lists

    box : (side : Side) (sd : Id) (g : ℕ) (w : Writing) → Contains (p.box side sd g).writings w ⊎ (w.host ≡ h) → w.host ≢ x.id
    box side sd g w (inl was) = knows.boxes side sd g w was
    box side sd g w (inr theirs) = λ mine. apart (sym mine ∙ theirs)

    pub others_keep : HostKnows k x q
    others_keep = record {
      machine = others_know up d p q h x.id stands apart owned some alive (state_of k x) (inr (makes_none k x x.work)) knows.machine;
      lease = lease_stays x.leading knows.machine.role knows.lease;
      lists = pool_stays x.leading knows.machine.role knows.lists;
      boxes = λ side sd g w among. box side sd g w (owned.boxes side sd g w among);
      steps = steps_stay k x p q x.work knows.steps;
    }

  module _ (down : DownPool h p q) where
    lease_down : (o : Option Leader) → KnowsLease o p → KnowsLease o q
    lease_down None lease = tt
    lease_down (Some l) lease = ap (λ (s : Id → ℕ → Sector). s l.master 0) down.sector ∙ lease

    pool_down : (o : Option Leader) → KnowsPool o p → KnowsPool o q
    pool_down None lists = tt
    pool_down (Some l) lists = down_lists up d p q h x.id stands apart down l.begun l.domains l.tasks lists

    pub downs_keep : HostKnows k x q
    downs_keep = record {
      machine = downs_know up d p q h x.id stands apart down (state_of k x) knows.machine;
      lease = lease_down x.leading knows.lease;
      lists = pool_down x.leading knows.lists;
      boxes = λ side sd g w among. knows.boxes side sd g w
          (filtered h w (p.box side sd g).writings (subst (λ (ws : List Writing). Contains ws w) (down.box side sd g).writings among));
      steps = steps_stay k x p q x.work knows.steps;
    }

-- ---- a host that boots

box_alive : (up : Hosts) (d : Content) (p : Pool) (sd : Id) (o : Option DomainRecord) (s : Option Said) → DomainStands up d p sd o s
    → (side : Side) (g : ℕ) (w : Writing) → Contains (p.box side sd g).writings w → is_up up w.host ≡ true
box_alive up d p sd (Some r) s x inbox g w among = x.inboxes.up_is g w among
box_alive up d p sd (Some r) s x outbox g w among = x.outboxes.up_is g w among
box_alive up d p sd None (Some t) x side g w among = absurd (nothing_in w (subst (λ (b : Box). Contains b.writings w) (x.bare.box side g) among))
box_alive up d p sd None None x side g w among = absurd (nothing_in w (subst (λ (b : Box). Contains b.writings w) (x.bare.box side g) among))

pub boots_know : (up : Hosts) (d : Content) (p : Pool) (k : Kept) (id moment : ℕ) → Stands up d p → is_up up id ≡ false → HostKnows k (fresh id moment) p
boots_know up d p k id moment stands off = record {
  machine = booted_know up d p id stands off;
  lease = tt;
  lists = tt;
  boxes = λ side sd g w among mine. false≢true (sym off
      ∙ subst (λ (a : ℕ). is_up up a ≡ true) mine (box_alive up d p sd (p.domain sd) (p.stray sd) (stands.domain sd) side g w among));
  steps = tt;
}
