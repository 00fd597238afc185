-- What a host and the medium hold of a part that a host wrote into a file.
use Rattle.std.specs.Prelude.{◌≡◌, ℕ, ◌+◌, ◌<◌, ◌≤◌, List}
use Rattle.shared_disk.specs.Calls.{sectors_in}
use Rattle.shared_disk.specs.Content.{File, seen, sector_of}
use Rattle.shared_disk.specs.Crash.{IsAloneAt}

-- the part lies within the file, from the sector `at` on, and the host sees it there
pub record SeesPart (host at : ℕ) (part : List ℕ) (f : File) : Type 0 where
  pub fits : at + sectors_in part ≤ f.size
  pub sectors : (i : ℕ) → i < sectors_in part → seen host f (at + i) ≡ sector_of part i

-- the part is on the medium, from the sector `at` on
pub record HasPart (at : ℕ) (part : List ℕ) (f : File) : Type 0 where
  pub fits : at + sectors_in part ≤ f.size
  pub sectors : (i : ℕ) → i < sectors_in part → f.stable (at + i) ≡ sector_of part i

-- no other host has an unsynced write of one of so many sectors, or has made the file and not synced it
abbrev pub IsAloneIn : ℕ → ℕ → ℕ → File → Type 0
IsAloneIn host at count f = (i : ℕ) → i < count → IsAloneAt host (at + i) f
