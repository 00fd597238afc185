-- A host that goes down.
-- Claim: the disk that its crash leaves stands for a pool that the machine's move gives.
use Rattle.std.specs.Prelude.{◌≡◌, ◌≢◌, ℕ, true}
use Rattle.sd_names.specs.UpSet.{Hosts, is_up}
use Rattle.shared_disk.specs.Content.{Content}
use Rattle.pool_model.specs.Covered.{Keeps}
use Rattle.pool_model.specs.Downs.{DownPool}
use Rattle.pool_model.specs.Pool.{Pool}
use Rattle.pool_model.specs.Standing.{Stands}
use Rattle.pool_model.specs.State.{Kept}
use Rattle.host_core.specs.Knows.{HostKnows}
use Rattle.host_core.specs.Memory.{Memory}

-- all hosts that were up still are, but for this one
abbrev pub AreStillUp : ℕ → Hosts → Hosts → Type 0
AreStillUp h up now = (g : ℕ) → g ≢ h → is_up up g ≡ true → is_up now g ≡ true

-- its crash took the disk to e, which stands for this pool
pub record WentDown (now : Hosts) (h : ℕ) (p : Pool) (e : Content) : Type 0 where
  pub pool : Pool
  pub down : DownPool h p pool
  pub stands : Stands now e pool
  pub keeps : Keeps now e pool

abbrev pub GoesDown : Memory → Content → Content → Type 0
GoesDown x d e = (up now : Hosts) (k : Kept) (p : Pool) → AreStillUp x.id up now → Stands up d p → HostKnows k x p → WentDown now x.id p e
