-- Laws of what a host knows, as statements.
use Rattle.std.specs.Prelude.{◌≡◌, ◌≢◌, ℕ, ◌≤◌, true, false}
use Rattle.sd_names.specs.UpSet.{Hosts, is_up}
use Rattle.shared_disk.specs.Content.{Content}
use Rattle.pool_model.specs.Downs.{DownPool}
use Rattle.pool_model.specs.Owned.{OwnedPool}
use Rattle.pool_model.specs.Pool.{Pool}
use Rattle.pool_model.specs.Standing.{Stands}
use Rattle.pool_model.specs.State.{Kept}
use Rattle.host_core.specs.Knows.{HostKnows}
use Rattle.host_core.specs.Memory.{Memory, fresh}

-- what a host knows stays true where another one changes only what it may
abbrev pub OwnedChangesKeep : Type 0
OwnedChangesKeep =
    (up : Hosts) (d : Content) (p q : Pool) (h : ℕ) (k : Kept) (x : Memory) → Stands up d p → OwnedPool h up p q → x.id ≢ h → 1 ≤ x.id
    → is_up up x.id ≡ true → HostKnows k x p → HostKnows k x q

-- and where another one goes down
abbrev pub DownsKeep : Type 0
DownsKeep =
    (up : Hosts) (d : Content) (p q : Pool) (h : ℕ) (k : Kept) (x : Memory) → Stands up d p → DownPool h p q → x.id ≢ h → HostKnows k x p → HostKnows k x q

-- a host that isn't up, and boots, knows all that it has to
abbrev pub BootsKnow : Type 0
BootsKnow = (up : Hosts) (d : Content) (p : Pool) (k : Kept) (id moment : ℕ) → Stands up d p → is_up up id ≡ false → HostKnows k (fresh id moment) p
