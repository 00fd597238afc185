-- What a host that becomes the manager has to know of the pool.
-- Claim: it is true after each of its steps, and stays true beside other hosts.
use Rattle.std.specs.Prelude.{ℕ}
use Rattle.shared_disk.specs.Content.{Content}
use Rattle.spm_role.specs.Spm.{master_of, tasks_of}
use Rattle.spm_role.specs.declared.spm.Spm.{Spm}
use Rattle.pool_model.specs.Pool.{Pool}
use Rattle.pool_model.specs.Tasks.{AreTasks, NoneOpen}
use Rattle.role_taking.specs.Knows.{KnowsManaged, KnowsTaking}
use Rattle.pool_recovering.specs.Knowing.{Knows as KnowsRecovery}
use Rattle.role_starting.specs.declared.starting.RoleStarting.{RoleStarting}
use Rattle.role_starting.specs.declared.starting.RoleStarting.TheVariants.{Taking, Recovering}

abbrev pub Knows : ℕ → RoleStarting → Content → Pool → Type 0
Knows h (Taking t) d p = KnowsTaking h t p
Knows h (Recovering spm r) d p = KnowsManaged h spm p × KnowsRecovery h (master_of spm) (tasks_of spm) r d p

-- at its end: the host has the role, its lists are the pool's, and no task is open
pub record KnowsStarted (h : ℕ) (spm : Spm) (p : Pool) : Type 0 where
  pub managed : KnowsManaged h spm p
  pub none_open : NoneOpen p
  pub tasks : AreTasks p (tasks_of spm)
