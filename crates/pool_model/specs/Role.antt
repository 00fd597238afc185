-- A host's part in the pool, as the host keeps it.
use Rattle.std.specs.Prelude.{ℕ, Option}
use Rattle.sd_names.specs.declared.id.Id.{Id}

-- The host is the manager of the pool, with the master, the version of its role, and the task that it has begun and not
-- ended: from the begin of its verb on, whether or not the task's text is there.
pub record Manager : Type 0 where
  pub master : Id
  pub version : ℕ
  pub begun : Option Id

pub data Role : Type 0 where
  outside : Role
  leads : Manager → Role
