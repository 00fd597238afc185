-- What holds of the content of every disk that tells it.
use Rattle.std.specs.Prelude.{◌≡◌, ℕ, ◌<◌, ◌≤◌, Contains, true, Some}
use Rattle.sd_names.specs.declared.place.Dir.{Dir}
use Rattle.sd_names.specs.declared.place.Dir.TheVariants.{Root}
use Rattle.sd_names.specs.declared.place.Place.{Place}
use Rattle.sd_names.specs.Place.{parent_of}
use Rattle.shared_disk.specs.Content.{Content, File, Loose}
use Rattle.shared_disk.specs.Crash.{IsSector}

-- the number of a host
abbrev pub IsHost : ℕ → Type 0
IsHost host = (1 ≤ host) × (host ≤ 250)

-- an unsynced write in a file of so many sectors: by a host, within the file, of a sector's bytes
pub record IsWrite (size : ℕ) (l : Loose) : Type 0 where
  pub host : IsHost l.host
  pub within : l.sector < size
  pub bytes : IsSector l.bytes

-- A file whose sectors, on the medium and unsynced, have 512 bytes each. What lies past its end is a sector of bytes too.
pub record IsWellFormedFile (f : File) : Type 0 where
  pub stable : (k : ℕ) → IsSector (f.stable k)
  pub loose : (l : Loose) → Contains f.loose l → IsWrite f.size l
  pub fresh : (host : ℕ) → f.fresh ≡ Some host → IsHost host

-- A folder of which the root is there, the folder of each folder, and the folder of each file.
pub record IsWellFormed (d : Content) : Type 0 where
  pub root : d.dir Root ≡ true
  pub parents : (q : Dir) → d.dir q ≡ true → d.dir (parent_of q) ≡ true
  pub folders : (p : Place) (f : File) → d.file p ≡ Some f → d.dir p.dir ≡ true
  pub files : (p : Place) (f : File) → d.file p ≡ Some f → IsWellFormedFile f
