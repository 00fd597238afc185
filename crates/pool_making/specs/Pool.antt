-- What a folder holds of a new domain: so much of it, and the whole.
use Rattle.std.specs.Prelude.{◌≡◌, ◌⊎◌, ℕ, ◌<◌, true, List, Some, None}
use Rattle.sd_names.specs.declared.id.Id.{Id}
use Rattle.sd_names.specs.declared.place.Dir.{Dir}
use Rattle.sd_names.specs.declared.place.Dir.TheVariants as dir
use Rattle.shared_disk.specs.Content.{Content}
use Rattle.shared_disk.specs.Crash.{IsOutcome}
use Rattle.shared_disk.specs.NameCalls.{ShowsDir}
use Rattle.whole_file.specs.Text.{HasText}
use Rattle.pool_making.specs.Layout.{area_place, area_size, folder_of, metadata_of, zeros}
use Rattle.pool_making.specs.declared.layout.Area.{Area}
use Rattle.pool_making.specs.declared.layout.Area.TheVariants as area
use Rattle.pool_making.specs.declared.layout.Folder.{Folder}
use Rattle.pool_making.specs.declared.layout.Folder.TheVariants as folder

-- how many folders, and how many files of zeros, are made before this one
abbrev pub folder_rank : Folder → ℕ
folder_rank folder.Domain = 0
folder_rank folder.DomMd = 1
folder_rank folder.Images = 2
folder_rank folder.Master = 3
folder_rank folder.Tasks = 4

abbrev pub area_rank : Area → ℕ
area_rank area.Leases = 0
area_rank area.Inbox = 1
area_rank area.Outbox = 2

-- the first so many folders are there, and the first so many files, which are zeros on the medium
abbrev pub HasFolders : ℕ → Id → Content → Type 0
HasFolders n sd d = (f : Folder) → folder_rank f < n → d.dir (folder_of sd f) ≡ true

abbrev pub HasAreas : ℕ → Id → Content → Type 0
HasAreas n sd d = (a : Area) → area_rank a < n → d.file (area_place sd a) ≡ Some (zeros (area_size a))

-- no image has a folder in the domain
abbrev pub HasNoImages : Id → Content → Type 0
HasNoImages sd d = (q : Dir) → ShowsDir d (dir.Images sd) q → ⊥

-- the domain doesn't count: it has no text
abbrev pub IsNoDomain : Id → Content → Type 0
IsNoDomain sd d = d.file (metadata_of sd) ≡ None

-- so much of the domain is there, and it doesn't count yet
pub record IsPart (sd : Id) (folders areas : ℕ) (d : Content) : Type 0 where
  pub none : IsNoDomain sd d
  pub empty : HasNoImages sd d
  pub dirs : HasFolders folders sd d
  pub files : HasAreas areas sd d

-- The domain is there, whole: its text, its five folders, and leases, inbox and outbox as zeros, all on the medium; and it
-- has no images.
pub record IsDomain (sd : Id) (new : List ℕ) (d : Content) : Type 0 where
  pub text : HasText d (metadata_of sd) new
  pub empty : HasNoImages sd d
  pub dirs : HasFolders 5 sd d
  pub files : HasAreas 3 sd d

-- the domain doesn't count, or is there, whole
abbrev pub IsNoneOrWhole : Id → List ℕ → Content → Type 0
IsNoneOrWhole sd text d = IsNoDomain sd d ⊎ IsDomain sd text d

-- so now, and whatever crashes leave
pub record IsNoneOrWholeOnEach (sd : Id) (new : List ℕ) (d : Content) : Type 0 where
  pub now : IsNoneOrWhole sd new d
  pub outcomes : (o : Content) → IsOutcome d o → IsNoneOrWhole sd new o
