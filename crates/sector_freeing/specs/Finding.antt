-- The least sector that is held for a task, in what was read.
use Rattle.std.specs.Prelude.{◌≡◌, ℕ, ◌+◌, ◌<◌, ◌≤◌, nat_lt, if◌then◌else◌, List, Option, Some, None, option_map}
use Rattle.shared_disk.specs.Content.{sector_of}
use Rattle.lease_area.specs.Move.{is_task}
use Rattle.lease_area.specs.Noted.{first_of}
use Rattle.lease_area.specs.Sector.{sector_in}
use Rattle.lease_area.specs.declared.sector.Kind.TheVariants.{Task}
use Rattle.lease_area.specs.declared.sector.LeaseRecord.{LeaseRecord}
use Rattle.lease_area.specs.declared.sector.Sector.{Sector}
use Rattle.lease_area.specs.declared.sector.Sector.TheVariants.{Lease}

-- the lease of a sector that is held for a task
abbrev pub task_lease : Option Sector → Option LeaseRecord
task_lease (Some (Lease r)) = if is_task r.kind then Some r else None
task_lease _ = None

-- with the sector's number, from a sector on
abbrev pub task_at : ℕ → ℕ → Option Sector → Option (ℕ × LeaseRecord)
task_at from slot s = if nat_lt slot from then None else option_map (λ r. (slot, r)) (task_lease s)

-- the k-th sector of what was read from the sector `base` on
abbrev pub task_of : ℕ → ℕ → List ℕ → ℕ → Option (ℕ × LeaseRecord)
task_of from base room k = task_at from (base + k) (sector_in (sector_of room k))

-- the first of so many
abbrev pub least_task : ℕ → ℕ → List ℕ → ℕ → Option (ℕ × LeaseRecord)
least_task from base room n = first_of (task_of from base room) n

-- a sector of images from this one on, held for a task
pub record IsTaskSlot (from : ℕ) (a : ℕ × LeaseRecord) : Type 0 where
  pub low : from ≤ a.0
  pub high : a.0 < 1024
  pub held : a.1.kind ≡ Task
