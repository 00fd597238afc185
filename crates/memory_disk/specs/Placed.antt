-- What a memory disk puts onto the medium, and tells of it, past all hosts.
use Rattle.std.specs.Prelude.{◌≡◌, ◌≢◌, ◌⊎◌, ℕ, zero, suc, ◌≤◌, ◌+◌, ◌-◌, ◌*◌, ◌/◌, ◌%◌, ◌<◌, min, true, List, length, drop, get_or, Option, Some, None, Result, Ok, Err}
use Rattle.sd_names.specs.declared.place.Dir.{Dir}
use Rattle.sd_names.specs.declared.place.Place.{Place}
use Rattle.sd_names.specs.Place.{parent_of}
use Rattle.shared_disk.specs.Calls.{IsSame, sectors_in}
use Rattle.shared_disk.specs.Content.{Content, File, sector_of, zero_sector}
use Rattle.shared_disk.specs.Crash.{IsSettled}

-- the file has these bytes, of whole sectors, on the medium, and nothing in it is unsynced
pub record HasBytes (bytes : List ℕ) (f : File) : Type 0 where
  pub size : f.size ≡ sectors_in bytes
  pub sectors : (k : ℕ) → k < f.size → f.stable k ≡ sector_of bytes k
  pub past : (k : ℕ) → f.size ≤ k → f.stable k ≡ zero_sector
  pub settled : IsSettled f

-- the folder so many levels above a folder
abbrev pub above : ℕ → Dir → Dir
above zero dir = dir
above (suc n) dir = parent_of (above n dir)

-- a folder is there, with those above it; every other is there where it was
pub record IsPathMade (d : Content) (dir : Dir) (e : Content) : Type 0 where
  pub path : (n : ℕ) → e.dir (above n dir) ≡ true
  pub kept : (q : Dir) → d.dir q ≡ true → e.dir q ≡ true
  pub no_more : (q : Dir) → e.dir q ≡ true → (d.dir q ≡ true) ⊎ ((n : ℕ) × (q ≡ above n dir))

-- a file with these bytes stands at the place, in a folder that is there; every other file is as it was
pub record IsPlaced (d : Content) (place : Place) (bytes : List ℕ) (e : Content) : Type 0 where
  pub file : (f : File) × (e.file place ≡ Some f) × HasBytes bytes f
  pub dirs : IsPathMade d place.dir e
  pub others : (q : Place) → q ≢ place → e.file q ≡ d.file q

-- A file is put, with the folders that it stands in. For want of memory nothing has changed.
abbrev pub Places : {E : Type 0} → Content → Place → List ℕ → Result (Unit {0}) E → Content → Type 0
Places d place bytes (Ok _) e = IsPlaced d place bytes e
Places d place bytes (Err _) e = IsSame d e

-- a byte of a file on the medium
abbrev pub byte_at : File → ℕ → ℕ
byte_at f i = get_or (f.stable (i / 512)) (i % 512) 0

-- the first so many bytes are the file's from `at` on, to the file's end or the room's, and the rest is as it was
pub record TellsBytes (f : File) (at count : ℕ) (before after : List ℕ) : Type 0 where
  pub count_is : count ≡ min (length before) (512 * f.size - at)
  pub bytes : (i : ℕ) → i < count → get_or after i 0 ≡ byte_at f (at + i)
  pub rest : drop count after ≡ drop count before

-- what is told of the medium: nothing exactly where there is no such file
abbrev pub Tells : Content → Place → ℕ → List ℕ → List ℕ → Option ℕ → Type 0
Tells d place at before after (Some count) = (f : File) × (d.file place ≡ Some f) × TellsBytes f at count before after
Tells d place at before after None = (d.file place ≡ None) × (after ≡ before)
