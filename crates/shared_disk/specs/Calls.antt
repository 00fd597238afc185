-- What each call of a disk may answer, and what it leaves.
use Rattle.std.specs.Prelude.{◌≡◌, ◌≢◌, ◌⊎◌, ℕ, ◌+◌, ◌-◌, ◌*◌, ◌/◌, ◌%◌, ◌^◌, ◌<◌, ◌≤◌, min, Bool, true, false, List, [], ◌++◌, length, drop, Option, Some, None, Result, Ok, Err, IsErrOf, unwrap_or}
use Rattle.sd_names.specs.Place.{parent_of}
use Rattle.sd_names.specs.declared.place.Dir.{Dir}
use Rattle.sd_names.specs.declared.place.Place.{Place}
use Rattle.shared_disk.specs.declared.disk.DiskAnswer.{DiskAnswer}
use Rattle.shared_disk.specs.declared.disk.DiskAnswer.TheVariants.{NoFile, Exists, OutOfFile, NotEmpty, Failed}
use Rattle.shared_disk.specs.Content.{Content, File, Sees, own_of, without, unless_by, writes, zero_sector, sector_of}

-- multiples of 512
abbrev pub IsAligned : ℕ → Type 0
IsAligned n = n % 512 ≡ 0

-- what one call carries: 512 to 65,536 bytes, a multiple of 512
abbrev pub IsPiece : ℕ → Type 0
IsPiece n = (n % 512 ≡ 0) × (512 ≤ n) × (n ≤ 65536)

-- how many sectors some bytes are
abbrev pub sectors_in : List ℕ → ℕ
sectors_in bytes = length bytes / 512

-- the second content is the first with this at the place
pub record IsPut (d : Content) (place : Place) (file : Option File) (e : Content) : Type 0 where
  pub dirs : (q : Dir) → e.dir q ≡ d.dir q
  pub here : e.file place ≡ file
  pub others : (q : Place) → q ≢ place → e.file q ≡ d.file q

-- the second content is the first with the folder there, or not
pub record IsDirPut (d : Content) (dir : Dir) (there : Bool) (e : Content) : Type 0 where
  pub files : (q : Place) → e.file q ≡ d.file q
  pub here : e.dir dir ≡ there
  pub others : (q : Dir) → q ≢ dir → e.dir q ≡ d.dir q

-- nothing has changed
abbrev pub IsSame : Content → Content → Type 0
IsSame d e = e ≡ d

-- a file after a write of those sectors that were done
abbrev pub wrote : (ℕ → Bool) → ℕ → ℕ → List ℕ → File → File
wrote did host at bytes f = record f { loose = writes did host at bytes (sectors_in bytes) ++ f.loose }

-- a file after a sync by a host: its last writes are on the medium
abbrev pub synced : ℕ → File → File
synced host f = record { size = f.size; stable = λ k. unwrap_or (own_of host k f.loose) (f.stable k); loose = without host f.loose; fresh = unless_by host f.fresh }

-- a file of zeros that a host has just made
abbrev pub created : ℕ → ℕ → File
created host size = record { size = size; stable = λ _. zero_sector; loose = []; fresh = Some host }

-- each whole sector that was read is as the host may see it, and the rest of the room is as it was
pub record ReadsAs (host : ℕ) (f : File) (at count : ℕ) (before after : List ℕ) : Type 0 where
  pub sectors : (k : ℕ) → 512 * (k + 1) ≤ count → Sees host f (at + k) (sector_of after k)
  pub rest : drop count after ≡ drop count before

-- A read of a piece from the sector `at` on; `before` and `after` are the room for it. It gives what the file has there.
abbrev pub ReadAt : Content → ℕ → Place → ℕ → List ℕ → List ℕ → Result ℕ DiskAnswer → Content → Type 0
ReadAt d host place at before after (Ok count) e =
    IsSame d e × (f : File) × (d.file place ≡ Some f) × (count ≡ min (length before) (512 * (f.size - at))) × ReadsAs host f at count before after
ReadAt d host place at before after (Err Failed) e = IsSame d e
ReadAt d host place at before after (Err NoFile) e = IsSame d e × (d.file place ≡ None)
ReadAt d host place at before after (Err Exists) e = ⊥
ReadAt d host place at before after (Err OutOfFile) e = ⊥
ReadAt d host place at before after (Err NotEmpty) e = ⊥

-- some of the sectors of the bytes were written, unsynced
abbrev pub PartWritten : Content → ℕ → Place → ℕ → List ℕ → Content → Type 0
PartWritten d host place at bytes e =
    (f : File) × (d.file place ≡ Some f) × (at + sectors_in bytes ≤ f.size) × (did : ℕ → Bool) × IsPut d place (Some (wrote did host at bytes f)) e

-- A write of a piece from the sector `at` on, inside the file. Where it fails, any of its sectors may be written.
abbrev pub WriteAt : Content → ℕ → Place → ℕ → List ℕ → Result (Unit {0}) DiskAnswer → Content → Type 0
WriteAt d host place at bytes (Ok _) e =
    (f : File) × (d.file place ≡ Some f) × (at + sectors_in bytes ≤ f.size) × IsPut d place (Some (wrote (λ _. true) host at bytes f)) e
WriteAt d host place at bytes (Err Failed) e = IsSame d e ⊎ PartWritten d host place at bytes e
WriteAt d host place at bytes (Err NoFile) e = IsSame d e × (d.file place ≡ None)
WriteAt d host place at bytes (Err OutOfFile) e = IsSame d e × (f : File) × (d.file place ≡ Some f) × (f.size < at + sectors_in bytes)
WriteAt d host place at bytes (Err Exists) e = ⊥
WriteAt d host place at bytes (Err NotEmpty) e = ⊥

-- A sync of a file by a host. Where it fails, nothing has changed.
abbrev pub Syncs : Content → ℕ → Place → Result (Unit {0}) DiskAnswer → Content → Type 0
Syncs d host place (Ok _) e = (f : File) × (d.file place ≡ Some f) × IsPut d place (Some (synced host f)) e
Syncs d host place (Err Failed) e = IsSame d e
Syncs d host place (Err NoFile) e = IsSame d e × (d.file place ≡ None)
Syncs d host place (Err Exists) e = ⊥
Syncs d host place (Err OutOfFile) e = ⊥
Syncs d host place (Err NotEmpty) e = ⊥

-- the file was made
pub record IsCreated (d : Content) (host : ℕ) (place : Place) (size : ℕ) (e : Content) : Type 0 where
  pub folder : d.dir place.dir ≡ true
  pub free : d.file place ≡ None
  pub put : IsPut d place (Some (created host size)) e

-- A file of so many sectors is made. Where it fails, it was made or not.
abbrev pub Creates : Content → ℕ → Place → ℕ → Result (Unit {0}) DiskAnswer → Content → Type 0
Creates d host place size (Ok _) e = IsCreated d host place size e
Creates d host place size (Err Failed) e = IsSame d e ⊎ IsCreated d host place size e
Creates d host place size (Err NoFile) e = IsSame d e × (d.dir place.dir ≡ false)
Creates d host place size (Err Exists) e = IsSame d e × (d.dir place.dir ≡ true) × (f : File) × (d.file place ≡ Some f)
Creates d host place size (Err OutOfFile) e = ⊥
Creates d host place size (Err NotEmpty) e = ⊥

-- The length of a file, in bytes.
abbrev pub HasLength : Content → Place → Result ℕ DiskAnswer → Content → Type 0
HasLength d place (Ok n) e = IsSame d e × (f : File) × (d.file place ≡ Some f) × (n ≡ 512 * f.size)
HasLength d place (Err Failed) e = IsSame d e
HasLength d place (Err NoFile) e = IsSame d e × (d.file place ≡ None)
HasLength d place (Err Exists) e = ⊥
HasLength d place (Err OutOfFile) e = ⊥
HasLength d place (Err NotEmpty) e = ⊥

-- the folder was made
pub record IsDirMade (d : Content) (dir : Dir) (e : Content) : Type 0 where
  pub above : d.dir (parent_of dir) ≡ true
  pub free : d.dir dir ≡ false
  pub put : IsDirPut d dir true e

-- A folder is made. Where it fails, it was made or not.
abbrev pub MakesDir : Content → Dir → Result (Unit {0}) DiskAnswer → Content → Type 0
MakesDir d dir (Ok _) e = IsDirMade d dir e
MakesDir d dir (Err Failed) e = IsSame d e ⊎ IsDirMade d dir e
MakesDir d dir (Err NoFile) e = IsSame d e × (d.dir (parent_of dir) ≡ false)
MakesDir d dir (Err Exists) e = IsSame d e × (d.dir (parent_of dir) ≡ true) × (d.dir dir ≡ true)
MakesDir d dir (Err OutOfFile) e = ⊥
MakesDir d dir (Err NotEmpty) e = ⊥

-- What a disk told of itself before a call it tells after it, and the two are related.
abbrev pub Told : {A : Type 0} → Option A → Option A → (A → A → Type 0) → Type 0
Told {A} before after R = (d : A) → before ≡ Some d → (e : A) × (after ≡ Some e) × R d e

-- a count that rose, or stands at its end
abbrev pub Rose : ℕ → ℕ → Type 0
Rose before after = (before < after) ⊎ (after ≡ 2 ^ 64 - 1)

-- The count of faults never falls and never passes 2^64 - 1. `Failed` is answered only where it rose, and a call that
-- answers anything else, above all one that did its work, leaves the count as it was.
pub record HasCause {T : Type 0} (before after : ℕ) (result : Result T DiskAnswer) : Type 0 where
  pub no_less : before ≤ after
  pub fits : after < 2 ^ 64
  pub failed : IsErrOf result Failed → Rose before after
  pub uncounted : (IsErrOf result Failed → ⊥) → after ≡ before
