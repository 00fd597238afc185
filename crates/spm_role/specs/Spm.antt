-- The manager of a pool: what it holds, and the lease that says so.
use Rattle.std.specs.Prelude.{ℕ, List}
use Rattle.sd_names.specs.declared.id.Id.{Id}
use Rattle.sd_names.specs.declared.task_state.TaskState.{TaskState}
use Rattle.lease_area.specs.Hold.{record_of}
use Rattle.lease_area.specs.declared.lease.Lease.{Lease}
use Rattle.lease_area.specs.declared.sector.LeaseRecord.{LeaseRecord}
use Rattle.spm_role.specs.declared.spm.Spm.{Spm}

-- the lease of sector 0, and what the sector holds
abbrev pub lease_of : Spm → Lease
lease_of spm = spm.lease

abbrev pub role_of : Spm → LeaseRecord
role_of spm = record_of spm.lease

-- the host that has the role, and how often the role was taken
abbrev pub host_of : Spm → ℕ
host_of spm = (role_of spm).owner

abbrev pub version_of : Spm → ℕ
version_of spm = (role_of spm).version

-- the master domain, the pool, its domains and its tasks
abbrev pub master_of : Spm → Id
master_of spm = spm.master

abbrev pub pool_of : Spm → Id
pool_of spm = spm.pool

abbrev pub domains_of : Spm → List Id
domains_of spm = spm.domains

abbrev pub tasks_of : Spm → List (Id × TaskState)
tasks_of spm = spm.tasks
