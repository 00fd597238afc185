-- The least name and the least folder above one, among lists of files and folders.
use Rattle.std.specs.Prelude.{◌≡◌, ◌≢◌, ◌⊎◌, List, Option, Some, None, Contains, if◌then◌else◌}
use Rattle.std.specs.declared.cmp.Ordering.{Ordering}
use Rattle.std.specs.declared.cmp.Ordering.TheVariants.{Greater}
use Rattle.sd_names.specs.Place.{dir_cmp, name_cmp}
use Rattle.sd_names.specs.declared.place.Dir.{Dir}
use Rattle.sd_names.specs.declared.place.Dir.TheVariants.{Root}
use Rattle.sd_names.specs.declared.place.Name.{Name}
use Rattle.sd_names.specs.Place.{parent_of}
use Rattle.shared_disk.specs.NameCalls.{IsDirAbove, IsNameAbove, place_in}
use Rattle.shared_disk.specs.Places.{dir_is}
use Rattle.memory_disk.specs.declared.entry.FileEntry.{FileEntry}

-- a file of this name in the folder is among these
abbrev pub HasName : List (Option FileEntry) → Dir → Name → Type 0
HasName slots dir name = (f : FileEntry) × Contains slots (Some f) × (f.place ≡ place_in dir name)

-- this folder, in the folder, is among these
abbrev pub HasDir : List Dir → Dir → Dir → Type 0
HasDir dirs dir q = Contains dirs q × (q ≢ Root) × (parent_of q ≡ dir)

-- the least of those that have both properties, or that there is none
abbrev pub IsLeast : {K : Type 0} → (K → Type 0) → (K → Type 0) → (K → K → Ordering) → Option K → Type 0
IsLeast {K} S P R None = (x : K) → S x → P x → ⊥
IsLeast {K} S P R (Some next) = S next × P next × ((x : K) → S x → P x → R next x ≢ Greater)

abbrev pub IsLeastName : List (Option FileEntry) → Dir → Option Name → Option Name → Type 0
IsLeastName slots dir after least = IsLeast (HasName slots dir) (IsNameAbove after) name_cmp least

abbrev pub IsLeastDir : List Dir → Dir → Option Dir → Option Dir → Type 0
IsLeastDir dirs dir after least = IsLeast (HasDir dirs dir) (IsDirAbove after) dir_cmp least

-- one of the two that isn't above the other; the second, where there is no first
abbrev pub IsLesser : {K : Type 0} → (K → K → Ordering) → Option K → K → K → Type 0
IsLesser R None x is = is ≡ x
IsLesser R (Some least) x is = ((is ≡ least) × (R least x ≢ Greater)) ⊎ ((is ≡ x) × (R least x ≡ Greater))

-- the second folder in place of the first
abbrev pub dir_moved : Dir → Dir → Dir → Dir
dir_moved from to d = if dir_is d from then to else d
