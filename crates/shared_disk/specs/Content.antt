-- What a shared folder holds: its folders and files, and what each host has written and not yet synced.
use Rattle.std.specs.Prelude.{true, false, ◌≡◌, ◌≢◌, ◌⊎◌, ℕ, zero, suc, ◌+◌, ◌*◌, Bool, List, [], ◌∷◌, Option, Some, None, unwrap_or, take, drop, replicate, ◌&&◌, ◌==◌, if◌then◌else◌, Contains}
use Rattle.sd_names.specs.declared.place.Dir.{Dir}
use Rattle.sd_names.specs.declared.place.Dir.TheVariants.{Root}
use Rattle.sd_names.specs.declared.place.Place.{Place}

-- one write of one sector, of 512 bytes, that its host hasn't synced
pub record Loose : Type 0 where
  pub host : ℕ
  pub sector : ℕ
  pub bytes : List ℕ

-- A file of so many sectors: what is on the medium, the unsynced writes, newest first, and the host that made
-- the file and hasn't synced it.
pub record File : Type 0 where
  pub size : ℕ
  pub stable : ℕ → List ℕ
  pub loose : List Loose
  pub fresh : Option ℕ

-- which folders are there, and what stands at each place
pub record Content : Type 0 where
  pub dir : Dir → Bool
  pub file : Place → Option File

-- no file, and no folder but Root
pub record IsEmpty (d : Content) : Type 0 where
  pub root : d.dir Root ≡ true
  pub dirs : (q : Dir) → q ≢ Root → d.dir q ≡ false
  pub files : (q : Place) → d.file q ≡ None

-- a sector of zeros
unfoldable pub zero_sector : List ℕ
zero_sector = replicate 512 0

-- the k-th sector of some bytes
abbrev pub sector_of : List ℕ → ℕ → List ℕ
sector_of bytes k = take 512 (drop (512 * k) bytes)

-- the last unsynced write of a sector by a host, newest first
abbrev pub own_of : ℕ → ℕ → List Loose → Option (List ℕ)
own_of host sector [] = None
own_of host sector (l ∷ ls) = if l.host == host && l.sector == sector then Some l.bytes else own_of host sector ls

-- the unsynced writes of all other hosts
abbrev pub without : ℕ → List Loose → List Loose
without host [] = []
without host (l ∷ ls) = if l.host == host then without host ls else l ∷ without host ls

-- no host, where it was this one
abbrev pub unless_by : ℕ → Option ℕ → Option ℕ
unless_by host None = None
unless_by host (Some h) = if h == host then None else Some h

-- a sector as a host sees it that no other host is writing: its own last write, else what is on the medium
abbrev pub seen : ℕ → File → ℕ → List ℕ
seen host f sector = unwrap_or (own_of host sector f.loose) (f.stable sector)

-- some host has this unsynced write of the sector
abbrev pub IsLooseAt : File → ℕ → List ℕ → Type 0
IsLooseAt f sector bytes = (l : Loose) × Contains f.loose l × (l.sector ≡ sector) × (l.bytes ≡ bytes)

-- What a host may see of a sector: its own last write; where it has none, what is on the medium or what another host
-- is writing.
abbrev pub Sees : ℕ → File → ℕ → List ℕ → Type 0
Sees host f sector bytes = (bytes ≡ seen host f sector) ⊎ ((own_of host sector f.loose ≡ None) × IsLooseAt f sector bytes)

-- the writes of the first so many sectors of these bytes from a sector on, those that were done, the last one first
abbrev pub writes : (ℕ → Bool) → ℕ → ℕ → List ℕ → ℕ → List Loose
writes did host at bytes zero = []
writes did host at bytes (suc k) =
    if did k then record { host = host; sector = at + k; bytes = sector_of bytes k } ∷ writes did host at bytes k else writes did host at bytes k
