-- What a memory disk holds, as a content.
use Rattle.std.specs.Prelude.{◌≡◌, ◌≢◌, ℕ, ◌+◌, ◌<◌, ◌≤◌, ◌==◌, ◌&&◌, ◌||◌, get_or, Contains, Bool, true, not, if◌then◌else◌, List, [], ◌∷◌, reverse, filter, Option, Some, None, unwrap_or}
use Rattle.std.specs.Option.{option_map}
use Rattle.std.specs.List.{list_any}
use Rattle.sd_names.specs.declared.place.Dir.{Dir}
use Rattle.sd_names.specs.declared.place.Dir.TheVariants.{Root}
use Rattle.sd_names.specs.declared.place.Place.{Place}
use Rattle.memory_disk.specs.declared.entry.FileEntry.{FileEntry}
use Rattle.memory_disk.specs.declared.entry.Write.{Write}
use Rattle.memory_disk.specs.declared.sector_map.Sectors.{Sectors}
use Rattle.shared_disk.specs.Content.{Content, File, Loose, zero_sector}
use Rattle.shared_disk.specs.Places.{dir_is, place_is}
use Rattle.memory_disk.specs.Sectors.{sector_at}

-- Root, and the folders that were made
abbrev pub has_dir : List Dir → Dir → Bool
has_dir dirs q = dir_is Root q || list_any (λ r. dir_is r q) dirs

-- the file of a number, where the number isn't free
abbrev pub slot : ℕ → List (Option FileEntry) → Option FileEntry
slot n slots = get_or slots n None

-- how many sectors it has
abbrev pub slot_size : Option FileEntry → ℕ
slot_size None = 0
slot_size (Some f) = f.size

-- the number of the file at a place, counted from n on, and its entry
abbrev pub found : Place → ℕ → List (Option FileEntry) → Option (ℕ × FileEntry)
found p n [] = None
found p n (None ∷ slots) = found p (n + 1) slots
found p n (Some f ∷ slots) = if place_is f.place p then Some (n, f) else found p (n + 1) slots

-- no two files stand at one place
abbrev pub AreApart : List (Option FileEntry) → Type 0
AreApart slots = (i j : ℕ) (f g : FileEntry) → slot i slots ≡ Some f → slot j slots ≡ Some g → f.place ≡ g.place → i ≡ j

-- the second files are the first with this at the number
abbrev pub IsSlotPut : ℕ → Option FileEntry → List (Option FileEntry) → List (Option FileEntry) → Type 0
IsSlotPut n new before after = (i : ℕ) → slot i after ≡ (if i == n then new else slot i before)

-- the unsynced writes of one file, of those of all files, newest first
abbrev pub loose_in : ℕ → List Write → List Loose
loose_in n [] = []
loose_in n (w ∷ ws) = if w.file == n then record { host = w.host; sector = w.sector; bytes = w.bytes } ∷ loose_in n ws else loose_in n ws

-- the unsynced writes of one file, of a log of those of all files, which has the oldest first
abbrev pub loose_of : ℕ → List Write → List Loose
loose_of n log = loose_in n (reverse log)

-- whether a write is by a host in a file
abbrev pub is_by : ℕ → ℕ → Write → Bool
is_by host n w = w.host == host && w.file == n

-- the writes but those in a file
abbrev pub outside_of : ℕ → List Write → List Write
outside_of n log = filter (λ w. not (w.file == n)) log

-- whether a write is of a sector of a file
abbrev pub is_at : ℕ → ℕ → Write → Bool
is_at n sector w = w.file == n && w.sector == sector

-- the writes but those of a sector of a file
abbrev pub apart_of : ℕ → ℕ → List Write → List Write
apart_of n sector log = filter (λ w. not (is_at n sector w)) log

-- the writes but those by a host
abbrev pub not_by : ℕ → List Write → List Write
not_by host log = filter (λ w. not (w.host == host)) log

-- the writes but those by a host in a file
abbrev pub others_of : ℕ → ℕ → List Write → List Write
others_of host n log = filter (λ w. not (is_by host n w)) log

-- the first of two that is there
abbrev pub or_else : {A : Type 0} → Option A → Option A → Option A
or_else (Some x) o = Some x
or_else None o = o

-- a file by its number
abbrev pub file_of : Sectors → List Write → ℕ → FileEntry → File
file_of stable log n f = record { size = f.size; stable = λ k. unwrap_or (sector_at stable 0 n k) zero_sector; loose = loose_of n log; fresh = f.fresh }

-- the content of these folders, files, stable sectors and unsynced writes
abbrev pub content_of : List Dir → List (Option FileEntry) → Sectors → List Write → Content
content_of dirs slots stable log =
    record { dir = λ q. has_dir dirs q; file = λ p. option_map (λ (r : ℕ × FileEntry). file_of stable log r.0 r.1) (found p 0 slots) }

-- The file at the place is gone, if there was one. All other files are as they were.
pub record IsCleared (p : Place) (slots : List (Option FileEntry)) (stable : Sectors) (log : List Write) (slots1 : List (Option FileEntry)) (stable1 : Sectors) (log1 : List Write) : Type 0 where
  pub kept : (n : ℕ) (f : FileEntry) → slot n slots1 ≡ Some f → (slot n slots ≡ Some f) × (f.place ≢ p)
  pub others : (n : ℕ) (f : FileEntry) → slot n slots ≡ Some f → f.place ≢ p → slot n slots1 ≡ Some f
  pub same : (n : ℕ) (f : FileEntry) → slot n slots1 ≡ Some f → file_of stable1 log1 n f ≡ file_of stable log n f

-- no sector is kept past the size of its file
abbrev pub IsStableWithin : List (Option FileEntry) → Sectors → Type 0
IsStableWithin slots stable = (n k : ℕ) → slot_size (slot n slots) ≤ k → sector_at stable 0 n k ≡ None

-- no unsynced write lies past the size of its file
abbrev pub IsLogWithin : List (Option FileEntry) → List Write → Type 0
IsLogWithin slots log = (n : ℕ) (l : Loose) → Contains (loose_of n log) l → l.sector < slot_size (slot n slots)

-- each file stands in a folder that is there
abbrev pub AreHoused : List Dir → List (Option FileEntry) → Type 0
AreHoused dirs slots = (n : ℕ) (f : FileEntry) → slot n slots ≡ Some f → has_dir dirs f.place.dir ≡ true
