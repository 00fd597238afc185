-- What the calls answer and leave that change a file on the medium at once: a longer length, and an exchange of a sector.
use Rattle.std.specs.Prelude.{◌≡◌, ◌≢◌, ◌⊎◌, ℕ, ◌<◌, ◌≤◌, List, Some, None, Result, Ok, Err}
use Rattle.sd_names.specs.declared.place.Place.{Place}
use Rattle.shared_disk.specs.declared.disk.DiskAnswer.{DiskAnswer}
use Rattle.shared_disk.specs.declared.disk.DiskAnswer.TheVariants.{NoFile, Exists, OutOfFile, NotEmpty, Failed}
use Rattle.shared_disk.specs.declared.disk.Exchanged.{Exchanged}
use Rattle.shared_disk.specs.declared.disk.Exchanged.TheVariants.{Done, Found}
use Rattle.shared_disk.specs.Calls.{IsPut, IsSame}
use Rattle.shared_disk.specs.Changes.{exchanged, grown}
use Rattle.shared_disk.specs.Content.{Content, File, Sees}

-- the file has at least so many sectors
abbrev pub IsGrown : Content → Place → ℕ → Content → Type 0
IsGrown d place size e = (f : File) × (d.file place ≡ Some f) × IsPut d place (Some (grown size f)) e

-- A file's length is raised to so many sectors, where it has fewer. Where it fails, it was raised or not.
abbrev pub Grows : Content → Place → ℕ → Result (Unit {0}) DiskAnswer → Content → Type 0
Grows d place size (Ok _) e = IsGrown d place size e
Grows d place size (Err Failed) e = IsSame d e ⊎ IsGrown d place size e
Grows d place size (Err NoFile) e = IsSame d e × (d.file place ≡ None)
Grows d place size (Err Exists) e = ⊥
Grows d place size (Err OutOfFile) e = ⊥
Grows d place size (Err NotEmpty) e = ⊥

-- the host saw the expected bytes in the sector, and the next ones are on the medium
abbrev pub IsExchanged : Content → ℕ → Place → ℕ → List ℕ → List ℕ → Content → Type 0
IsExchanged d host place sector expect next e =
    (f : File) × (d.file place ≡ Some f) × (sector < f.size) × Sees host f sector expect × IsPut d place (Some (exchanged sector next f)) e

-- the host saw these bytes in the sector, which differ from the expected ones
abbrev pub IsFound : Content → ℕ → Place → ℕ → List ℕ → List ℕ → Type 0
IsFound d host place sector expect bytes = (f : File) × (d.file place ≡ Some f) × (sector < f.size) × Sees host f sector bytes × (bytes ≢ expect)

-- A sector is exchanged exactly where it is as expected. Where it fails, it was exchanged or not.
abbrev pub Exchanges : Content → ℕ → Place → ℕ → List ℕ → List ℕ → Result Exchanged DiskAnswer → Content → Type 0
Exchanges d host place sector expect next (Ok Done) e = IsExchanged d host place sector expect next e
Exchanges d host place sector expect next (Ok (Found bytes)) e = IsSame d e × IsFound d host place sector expect bytes
Exchanges d host place sector expect next (Err Failed) e = IsSame d e ⊎ IsExchanged d host place sector expect next e
Exchanges d host place sector expect next (Err NoFile) e = IsSame d e × (d.file place ≡ None)
Exchanges d host place sector expect next (Err OutOfFile) e = IsSame d e × (f : File) × (d.file place ≡ Some f) × (f.size ≤ sector)
Exchanges d host place sector expect next (Err Exists) e = ⊥
Exchanges d host place sector expect next (Err NotEmpty) e = ⊥
