-- What a host keeps in its memory, as contracts see it.
use Rattle.std.specs.Prelude.{◌≡◌, ℕ, true, List, [], Option, Some, None}
use Rattle.std.specs.List.{list_any}
use Rattle.sd_names.specs.declared.id.Id.{Id}
use Rattle.sd_names.specs.declared.task_state.TaskState.{TaskState}
use Rattle.shared_disk.specs.Places.{id_is}
use Rattle.lease_area.specs.declared.sector.LeaseRecord.{LeaseRecord}
use Rattle.spm_role.specs.Spm.{domains_of, master_of, role_of, tasks_of}
use Rattle.host_core.specs.declared.leading.Leading.{Leading}
use Rattle.host_core.specs.declared.work.Work.{Work}
use Rattle.host_core.specs.declared.work.Work.TheVariants as work

-- a task of a list, with its state
abbrev pub Listed : Type 0
Listed = Id × TaskState

-- The manager of a pool: the master, the lease that says so, the domains and tasks of the pool, and the task that it has
-- begun and not ended.
pub record Leader : Type 0 where
  pub master : Id
  pub lease : LeaseRecord
  pub domains : List Id
  pub tasks : List Listed
  pub begun : Option Id

abbrev pub leader_of : Leading → Leader
leader_of l = record {
  master = master_of l.spm;
  lease = role_of l.spm;
  domains = domains_of l.spm;
  tasks = tasks_of l.spm;
  begun = l.begun;
}

-- a host's number, the time of its boot in seconds since 1970, whether it is the manager, the verb that it runs, how many
-- steps that verb has had, and what the last read gave
pub record Memory : Type 0 where
  pub id : ℕ
  pub moment : ℕ
  pub leading : Option Leader
  pub work : Option Work
  pub steps : ℕ
  pub bytes : List ℕ

-- a host that was just booted
abbrev pub fresh : ℕ → ℕ → Memory
fresh id moment = record { id = id; moment = moment; leading = None; work = None; steps = 0; bytes = [] }

-- ---- what is true of each host

-- the manager's lease names the host
abbrev pub IsOwn : ℕ → Option Leader → Type 0
IsOwn id None = Unit {0}
IsOwn id (Some l) = l.lease.owner ≡ id

-- whoever gives the role back is the manager, with no task begun
abbrev pub IsStopping : Option Leader → Type 0
IsStopping None = ⊥
IsStopping (Some l) = l.begun ≡ None

-- whoever clears a task has it in its list too
abbrev pub IsClearing : Id → Option Leader → Type 0
IsClearing t None = ⊥
IsClearing t (Some l) = (l.begun ≡ None) × (list_any (λ (a : Listed). id_is a.0 t) l.tasks ≡ true)

-- whoever lists tasks is the manager
abbrev pub IsLeading : Option Leader → Type 0
IsLeading None = ⊥
IsLeading (Some l) = Unit {0}

abbrev pub IsFit : Option Work → Option Leader → Type 0
IsFit None leading = Unit {0}
IsFit (Some work.Stop) leading = IsStopping leading
IsFit (Some (work.Clear t)) leading = IsClearing t leading
IsFit (Some work.Tasks) leading = IsLeading leading

pub record IsSound (id : ℕ) (leading : Option Leader) (work : Option Work) : Type 0 where
  pub own : IsOwn id leading
  pub fit : IsFit work leading
