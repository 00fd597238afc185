-- A step of the recovery, as one of the start.
use Rattle.std.proofs.Common.{◌≡◌, ℕ, ◌+◌, List, Some, refl, sym, ap, subst, ◌∙◌, inr, arith}
use Rattle.sd_names.specs.UpSet.{Hosts}
use Rattle.sd_names.specs.declared.id.Id.{Id}
use Rattle.sd_names.specs.declared.refusal.Refusal.{Refusal}
use Rattle.sd_names.specs.declared.turn.Turn.TheVariants.{More, Done, Ended}
use Rattle.shared_disk.specs.Content.{Content}
use Rattle.lease_area.specs.Hold.{record_of}
use Rattle.lease_area.specs.declared.lease.Lease.{Lease as Held}
use Rattle.lease_area.specs.declared.sector.LeaseRecord.{LeaseRecord}
use Rattle.lease_area.specs.declared.sector.Sector.TheVariants.{Lease}
use Rattle.spm_role.specs.Spm.{domains_of, master_of, role_of, tasks_of}
use Rattle.spm_role.specs.declared.spm.Spm.{Spm}
use Rattle.pool_model.specs.Kept.{StillKept}
use Rattle.pool_model.specs.Pool.{Pool}
use Rattle.pool_model.specs.State.{HostState, Kept}
use Rattle.pool_model.specs.Turns.{HostTurns, more}
use Rattle.role_taking.specs.Asked.{Asked, IsManagerAt}
use Rattle.role_taking.specs.Knows.{KnowsDomains, KnowsLed, KnowsManaged}
use Rattle.role_taking.specs.Marks.{next_steps, running_with, runs, verb_of}
use Rattle.pool_model.specs.Marks.{recovery}
use Rattle.pool_recovering.specs.Knowing.{Knows as KnowsRecovery}
use Rattle.pool_recovering.specs.Recovering.{IsOnlyListed, RecoveryTurn}
use Rattle.pool_recovering.specs.Steps.{Leaves, RecoversPool, Stepped as RecoveryStepped}
use Rattle.pool_recovering.specs.Turns.{RecoveriesTurn, answer_of as answer_by, running_after as running_by}
use Rattle.pool_recovering.specs.declared.recovering.PoolRecovery.{PoolRecovery}
use Rattle.task_listing.specs.Listing.{Noted}
use Rattle.task_settling.specs.Turns.{Recovers}
use Rattle.role_starting.specs.Marks.{answer_of, marks_behind, running_after}
use Rattle.role_starting.specs.Starting.{StartTurn}
use Rattle.role_starting.specs.Steps.{After, StartsRole, Stepped}
use Rattle.role_starting.specs.declared.starting.RoleStarting.TheVariants.{Recovering}
use Rattle.role_starting.proofs.Left.{recovery_left}

no_more : (n : ℕ) → 0 + n ≡ n
no_more n = omega arith

-- ---- the manager

same_role : (spm next : Spm) → IsOnlyListed spm next → role_of next ≡ role_of spm
same_role spm next only = ap (λ (l : Held). record_of l) only.lease

module _ (h : ℕ) (spm next : Spm) (only : IsOnlyListed spm next) (p q : Pool) (leaves : Leaves p q) where
  led_still : KnowsLed h spm p → KnowsLed h next q
  led_still led = record {
    master = leaves.master ∙ led.master ∙ ap (λ (i : Id). Some i) (sym only.master);
    lease = ap (λ (i : Id). q.sector i 0) only.master ∙ leaves.role (master_of spm) ∙ led.lease ∙ ap (λ (r : LeaseRecord). Lease r) (sym (same_role spm next only));
    owner = ap (λ (r : LeaseRecord). r.owner) (same_role spm next only) ∙ led.owner;
  }

  domains_still : KnowsDomains (domains_of spm) p → KnowsDomains (domains_of spm) q
  domains_still lists = record {
    rising = lists.rising;
    are = λ sd among. let is = lists.are sd among in (is.0, leaves.domains sd ∙ is.1);
    all = λ sd r is. lists.all sd r (sym (leaves.domains sd) ∙ is);
  }

  pub managed_still : KnowsManaged h spm p → KnowsManaged h next q
  managed_still (led, lists) = (led_still led, subst (λ (ids : List Id). KnowsDomains ids q) (sym only.domains) (domains_still lists))

pub asked_still : (a : Asked) (spm next : Spm) → IsOnlyListed spm next → IsManagerAt a spm → IsManagerAt a next
asked_still a spm next only is = record {
  master = only.master ∙ is.master;
  version = ap (λ (r : LeaseRecord). r.version) (same_role spm next only) ∙ is.version;
  kind = ap (λ (r : LeaseRecord). r.kind) (same_role spm next only) ∙ is.kind;
}

-- ---- the turn

recovers : (a : Asked) → Recovers (verb_of a)
recovers a = inr (a.sd, (a.prev, (a.lver, refl)))

module _ (law : RecoveriesTurn) (h : ℕ) (up : Hosts) (spm : Spm) (r : PoolRecovery) (faults : ℕ) (d e : Content) where
  abbrev Recovered : RecoveryTurn → List Noted → Type 0
  Recovered turn tasks = RecoversPool r h (master_of spm) (tasks_of spm) faults turn tasks d e

  module _ (a : Asked) (k l : Kept) (steps : ℕ) (x : HostState) (p : Pool) (still : StillKept k l) (next : Spm) (only : IsOnlyListed spm next) (managed : KnowsManaged h spm p)
      (turn : RecoveryTurn) (done : RecoveryStepped h up (master_of spm) (tasks_of next) faults turn d p e) where
    turns_by : HostTurns h up (runs x (Some (running_with a k steps recovery))) p (answer_by turn) (runs x (running_by (verb_of a) l 0 steps marks_behind turn)) done.pool
    turns_by = law h faults up (verb_of a) k l 0 steps x marks_behind (master_of spm) (tasks_of next) turn d e p (recovers a) still done

    pub managed_now : KnowsManaged h next done.pool
    managed_now = managed_still h spm next only p done.pool done.leaves managed

    pub stepped : (mine : StartTurn)
        → HostTurns h up (runs x (Some (running_with a k steps recovery))) p (answer_of mine) (runs x (running_after a l steps mine)) done.pool
        → After h mine e done.pool → Stepped h up a k l steps x recovery mine d p e
    stepped mine turns after = record {
      pool = done.pool;
      turns = turns;
      stands = done.stands;
      after = after;
      keeps = done.keeps;
      owned = done.owned (verb_of a);
      changes = done.changes;
      leaves = recovery_left p done.pool done.leaves;
    }

  pub recover_more : (next : Spm) (now : PoolRecovery) → IsOnlyListed spm next → Recovered (More now) (tasks_of next)
      → StartsRole h up (Recovering spm r) (More (Recovering next now)) d e
  recover_more next now only recovered a k l steps x p still asked up_is stands ids (managed, knows) =
      let done = recovered up p up_is stands ids knows in
      stepped a k l steps x p still next only managed (More now) done (More (Recovering next now)) (turns_by a k l steps x p still next only managed (More now) done) (
        managed_now a k l steps x p still next only managed (More now) done,
        subst (λ (m : Id). KnowsRecovery h m (tasks_of next) now e done.pool) (sym only.master) done.after,
      )

  pub recover_done : (next : Spm) (count : ℕ) → IsOnlyListed spm next → Recovered (Done count) (tasks_of next)
      → StartsRole h up (Recovering spm r) (Done (next, count)) d e
  recover_done next count only recovered a k l steps x p still asked up_is stands ids (managed, knows) =
      let done = recovered up p up_is stands ids knows in
      stepped a k l steps x p still next only managed (Done count) done (Done (next, count))
      (subst (λ (n : ℕ). HostTurns h up (runs x (Some (running_with a k steps recovery))) p more
      (runs x (Some (record { verb = verb_of a; marks = marks_behind; tally = n; steps = next_steps steps; kept = l }))) done.pool) (no_more count)
      (turns_by a k l steps x p still next only managed (Done count) done))
      (record { managed = managed_now a k l steps x p still next only managed (Done count) done; none_open = done.after.0; tasks = done.after.1 })

  pub recover_ended : (next : Spm) (refusal : Refusal) → IsOnlyListed spm next → Recovered (Ended tt refusal) (tasks_of next)
      → StartsRole h up (Recovering spm r) (Ended tt refusal) d e
  recover_ended next refusal only recovered a k l steps x p still asked up_is stands ids (managed, knows) =
      let done = recovered up p up_is stands ids knows in
      stepped a k l steps x p still next only managed (Ended tt refusal) done (Ended tt refusal) (turns_by a k l steps x p still next only managed (Ended tt refusal) done) tt
