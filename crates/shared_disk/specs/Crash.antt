-- What crashes of hosts may leave of a folder.
use Rattle.std.specs.Prelude.{◌≡◌, ◌≢◌, ◌⊎◌, ℕ, ◌+◌, ◌-◌, ◌<◌, ◌≤◌, Bool, true, if◌then◌else◌, List, [], ◌∷◌, Option, Some, None, length, All, Contains}
use Rattle.sd_names.specs.declared.place.Dir.{Dir}
use Rattle.sd_names.specs.declared.place.Place.{Place}
use Rattle.shared_disk.specs.Content.{Content, File, Loose, IsLooseAt, without, unless_by, sector_of}
use Rattle.shared_disk.specs.Calls.{IsPut, sectors_in}
use Rattle.shared_disk.specs.Places.{place_is}
use Rattle.std.specs.Option.{option_map}

-- the 512 bytes of any sector
pub record IsSector (bytes : List ℕ) : Type 0 where
  pub len : length bytes ≡ 512
  pub fits : All (λ b. b < 256) bytes

-- a host has made the file and hasn't synced it
abbrev pub IsFreshBy : ℕ → File → Type 0
IsFreshBy host f = f.fresh ≡ Some host

-- some host has
abbrev pub IsFresh : File → Type 0
IsFresh f = (host : ℕ) × IsFreshBy host f

-- this host has this unsynced write of the sector
abbrev pub IsOwnAt : ℕ → File → ℕ → List ℕ → Type 0
IsOwnAt host f sector bytes = (l : Loose) × Contains f.loose l × (l.host ≡ host) × (l.sector ≡ sector) × (l.bytes ≡ bytes)

-- What a sector may be once a host went down: any bytes in a file that it had made and not synced. Else what was on
-- the medium, or any of its values since the last sync.
abbrev pub IsDownSector : ℕ → File → ℕ → List ℕ → Type 0
IsDownSector host f sector bytes = (IsFreshBy host f × IsSector bytes) ⊎ ((bytes ≡ f.stable sector) ⊎ IsOwnAt host f sector bytes)

-- a file once a host went down
pub record IsDownFile (host : ℕ) (f g : File) : Type 0 where
  pub size : g.size ≡ f.size
  pub sectors : (k : ℕ) → IsDownSector host f k (g.stable k)
  pub loose : g.loose ≡ without host f.loose
  pub fresh : g.fresh ≡ unless_by host f.fresh

-- two places, each with its file or without, whose files are related
abbrev pub IsAlso : (File → File → Type 0) → Option File → Option File → Type 0
IsAlso R None None = Unit {0}
IsAlso R None (Some g) = ⊥
IsAlso R (Some f) None = ⊥
IsAlso R (Some f) (Some g) = R f g

-- a folder once a host went down
pub record DownLeaves (d : Content) (host : ℕ) (e : Content) : Type 0 where
  pub dirs : (q : Dir) → e.dir q ≡ d.dir q
  pub files : (p : Place) → IsAlso (IsDownFile host) (d.file p) (e.file p)

-- a folder once these hosts went down, one after the other
abbrev pub AllDown : Content → List ℕ → Content → Type 0
AllDown d [] e = e ≡ d
AllDown d (host ∷ hosts) e = (m : Content) × DownLeaves d host m × AllDown m hosts e

-- What a sector is on some outcome: what is on the medium, any host's unsynced value or, in a file that isn't synced
-- since it was made, anything.
abbrev pub IsOutcomeSector : File → ℕ → List ℕ → Type 0
IsOutcomeSector f sector bytes = (bytes ≡ f.stable sector) ⊎ (IsLooseAt f sector bytes ⊎ (IsFresh f × IsSector bytes))

-- nothing is unsynced in the file
pub record IsSettled (f : File) : Type 0 where
  pub loose : f.loose ≡ []
  pub fresh : f.fresh ≡ None

-- a file on some outcome
pub record IsFileOutcome (f g : File) : Type 0 where
  pub size : g.size ≡ f.size
  pub sectors : (k : ℕ) → IsOutcomeSector f k (g.stable k)
  pub settled : IsSettled g

-- a folder on some outcome: what crashes of all hosts may leave
pub record IsOutcome (d e : Content) : Type 0 where
  pub dirs : (q : Dir) → e.dir q ≡ d.dir q
  pub files : (p : Place) → IsAlso IsFileOutcome (d.file p) (e.file p)

-- P holds of each outcome of a file
abbrev pub OnEach : File → (File → Type 0) → Type 0
OnEach f P = (g : File) → IsFileOutcome f g → P g

-- no host but this one has unsynced writes in the file, or has made it and not synced it
pub record IsAlone (host : ℕ) (f : File) : Type 0 where
  pub loose : without host f.loose ≡ []
  pub fresh : unless_by host f.fresh ≡ None

-- no host but this one has unsynced writes of this sector, or has made the file and not synced it
pub record IsAloneAt (host sector : ℕ) (f : File) : Type 0 where
  pub loose : (l : Loose) → Contains f.loose l → l.sector ≡ sector → l.host ≡ host
  pub fresh : unless_by host f.fresh ≡ None

-- The host has nothing unsynced in the file: no write, and it hasn't made the file.
pub record IsSettledFor (host : ℕ) (f : File) : Type 0 where
  pub loose : (l : Loose) → Contains f.loose l → l.host ≢ host
  pub fresh : f.fresh ≢ Some host

-- A sector of a piece that was written: it is in the piece's range, and was one of those that were done.
pub record IsPieceSector (did : ℕ → Bool) (at : ℕ) (bytes : List ℕ) (sector : ℕ) (is : List ℕ) : Type 0 where
  pub low : at ≤ sector
  pub high : sector < at + sectors_in bytes
  pub done : did (sector - at) ≡ true
  pub piece : is ≡ sector_of bytes (sector - at)

-- each sector of the second file is the first's, or one of the piece's that were done
pub record IsLaidOver (did : ℕ → Bool) (at : ℕ) (bytes : List ℕ) (f g : File) : Type 0 where
  pub size : g.size ≡ f.size
  pub sectors : (k : ℕ) → (g.stable k ≡ f.stable k) ⊎ IsPieceSector did at bytes k (g.stable k)

-- An outcome is one from before but for the file at a place, which is related to the one that stood there.
pub record IsFromBefore (d : Content) (p : Place) (R : File → File → Type 0) (o : Content) : Type 0 where
  pub before : Content
  pub outcome : IsOutcome d before
  pub was : File
  pub is : File
  pub there : before.file p ≡ Some was
  pub related : R was is
  pub put : IsPut before p (Some is) o

-- each host with something unsynced in the file is among these
pub record CoversFile (hosts : List ℕ) (f : File) : Type 0 where
  pub loose : (l : Loose) → Contains f.loose l → Contains hosts l.host
  pub fresh : (host : ℕ) → IsFreshBy host f → Contains hosts host

-- each host with something unsynced in the folder is among these
abbrev pub Covers : List ℕ → Content → Type 0
Covers hosts d = (p : Place) (f : File) → d.file p ≡ Some f → CoversFile hosts f

-- nothing is unsynced in the folder
abbrev pub IsAllSettled : Content → Type 0
IsAllSettled d = (p : Place) (f : File) → d.file p ≡ Some f → IsSettled f

-- the folder with this file at the place
abbrev pub with_file : Place → File → Content → Content
with_file p g o = record { dir = o.dir; file = λ q. if place_is q p then Some g else o.file q }

-- the file where nothing that is unsynced reached the medium
abbrev pub stable_file : File → File
stable_file f = record { size = f.size; stable = f.stable; loose = []; fresh = None }

-- the folder where nothing that is unsynced reached the medium
abbrev pub stable_folder : Content → Content
stable_folder d = record { dir = d.dir; file = λ p. option_map stable_file (d.file p) }
