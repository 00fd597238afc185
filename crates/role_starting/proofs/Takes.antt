-- A step of the taking, as one of the start.
use Rattle.std.proofs.Common.{ℕ}
use Rattle.sd_names.specs.UpSet.{Hosts}
use Rattle.sd_names.specs.declared.refusal.Refusal.{Refusal}
use Rattle.sd_names.specs.declared.turn.Turn.TheVariants.{More, Done, Ended}
use Rattle.shared_disk.specs.Content.{Content}
use Rattle.spm_role.specs.Spm.{master_of, role_of, tasks_of}
use Rattle.spm_role.specs.declared.spm.Spm.{Spm}
use Rattle.pool_model.specs.Leases.{Leads}
use Rattle.pool_model.specs.Pool.{Pool}
use Rattle.role_taking.specs.Knows.{KnowsLed, KnowsManaged}
use Rattle.role_taking.specs.Taking.{TakesRole}
use Rattle.role_taking.specs.declared.taking.RoleTaking.{RoleTaking}
use Rattle.pool_recovering.specs.Knowing.{Knows as KnowsRecovery}
use Rattle.pool_recovering.specs.declared.recovering.PoolRecovery.{PoolRecovery}
use Rattle.role_starting.specs.Steps.{StartsRole}
use Rattle.role_starting.specs.declared.starting.RoleStarting.TheVariants.{Taking, Recovering}
use Rattle.role_starting.proofs.Left.{taking_left}

-- whoever has the role is the manager
pub leads_of : (h : ℕ) (spm : Spm) (p : Pool) → KnowsLed h spm p → Leads p h
leads_of h spm p led = (master_of spm, (role_of spm, led.master, led.lease, led.owner))

-- a recovery that begins knows all that it has to
abbrev pub BegunKnows : Spm → PoolRecovery → Type 0
BegunKnows spm r = (h : ℕ) (d : Content) (p : Pool) → KnowsManaged h spm p → KnowsRecovery h (master_of spm) (tasks_of spm) r d p

module _ (h : ℕ) (up : Hosts) (t : RoleTaking) (d e : Content) where
  pub take_more : (next : RoleTaking) → TakesRole h up t (More next) d e → StartsRole h up (Taking t) (More (Taking next)) d e
  take_more next takes a k l steps x p still asked up_is stands ids knows =
      let done = takes a k l steps x p still asked stands knows in
      record {
        pool = done.pool;
        turns = done.turns;
        stands = done.stands;
        after = done.knows;
        keeps = done.keeps;
        owned = done.owned;
        changes = done.changes;
        leaves = taking_left a.sd p done.pool done.only;
      }

  pub take_done : (spm : Spm) (r : PoolRecovery) → BegunKnows spm r → TakesRole h up t (Done spm) d e → StartsRole h up (Taking t) (More (Recovering spm r)) d e
  take_done spm r begun takes a k l steps x p still asked up_is stands ids knows =
      let done = takes a k l steps x p still asked stands knows in
      record {
        pool = done.pool;
        turns = done.turns;
        stands = done.stands;
        after = (done.knows, begun h e done.pool done.knows);
        keeps = done.keeps;
        owned = done.owned;
        changes = done.changes;
        leaves = taking_left a.sd p done.pool done.only;
      }

  pub take_ended : (refusal : Refusal) → TakesRole h up t (Ended tt refusal) d e → StartsRole h up (Taking t) (Ended tt refusal) d e
  take_ended refusal takes a k l steps x p still asked up_is stands ids knows =
      let done = takes a k l steps x p still asked stands knows in
      record {
        pool = done.pool;
        turns = done.turns;
        stands = done.stands;
        after = tt;
        keeps = done.keeps;
        owned = done.owned;
        changes = done.changes;
        leaves = taking_left a.sd p done.pool done.only;
      }
