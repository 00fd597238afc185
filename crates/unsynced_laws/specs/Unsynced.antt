-- Whose unsynced writes stand in a folder.
-- Claim: behind each call they are of hosts that had some before, or of the host that made the call.
use Rattle.std.specs.Prelude.{◌≡◌, ℕ, ◌==◌, ◌&&◌, not, Bool, true, Contains, Option, Some, None}
use Rattle.sd_names.specs.declared.place.Place.{Place}
use Rattle.shared_disk.specs.Content.{Content, File, Loose}
use Rattle.shared_disk.specs.Crash.{IsSettledFor}

-- whoever has a write of the file that isn't synced, or has made it and not synced it, is one of these hosts
pub record IsOnlyOf (those : ℕ → Bool) (f : File) : Type 0 where
  pub loose : (l : Loose) → Contains f.loose l → those l.host ≡ true
  pub fresh : (h : ℕ) → f.fresh ≡ Some h → those h ≡ true

-- so in each file of the folder
abbrev pub HasOnlyOf : (ℕ → Bool) → Content → Type 0
HasOnlyOf those d = (at : Place) (f : File) → d.file at ≡ Some f → IsOnlyOf those f

-- Whichever hosts had something unsynced in the first folder, they alone have in the second.
abbrev pub LeavesOnlyOld : Content → Content → Type 0
LeavesOnlyOld d e = (those : ℕ → Bool) → HasOnlyOf those d → HasOnlyOf those e

-- they and this host alone
abbrev pub LeavesOnlyOf : ℕ → Content → Content → Type 0
LeavesOnlyOf host d e = (those : ℕ → Bool) → those host ≡ true → HasOnlyOf those d → HasOnlyOf those e

-- these hosts, but for one
abbrev pub but : (ℕ → Bool) → ℕ → ℕ → Bool
but those host h = those h && not (h == host)

-- this host has nothing unsynced in the file, where one is there
abbrev pub IsSettledAt : ℕ → Option File → Type 0
IsSettledAt host None = Unit {0}
IsSettledAt host (Some f) = IsSettledFor host f
