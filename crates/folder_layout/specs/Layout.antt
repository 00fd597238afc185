-- Which files and folders a folder of the store may hold.
use Rattle.std.specs.Prelude.{◌≡◌, ◌≢◌, ℕ, List, ◌∷◌, ◌++◌}
use Rattle.sd_names.specs.Place.{dir_path, name_text, DirHasIds, NameHasIds}
use Rattle.sd_names.specs.declared.place.Dir.{Dir}
use Rattle.sd_names.specs.declared.place.Dir.TheVariants.{Root, DomMd, Image, Removed, Tasks}
use Rattle.sd_names.specs.declared.place.Name.{Name}
use Rattle.sd_names.specs.declared.place.Name.TheVariants.{Metadata, MetadataNew, Leases, Inbox, Outbox, Volume, Meta, MetaNew, MetaVolatile, VolumeLease, Task, TaskNew}
use Rattle.sd_names.specs.Place.{parent_of}

-- the names of a domain's own files, of the files of an image, and of tasks
abbrev pub IsDomainFile : Name → Type 0
IsDomainFile Metadata = Unit {0}
IsDomainFile MetadataNew = Unit {0}
IsDomainFile Leases = Unit {0}
IsDomainFile Inbox = Unit {0}
IsDomainFile Outbox = Unit {0}
IsDomainFile _ = ⊥

abbrev pub IsVolumeFile : Name → Type 0
IsVolumeFile (Volume _) = Unit {0}
IsVolumeFile (Meta _) = Unit {0}
IsVolumeFile (MetaNew _) = Unit {0}
IsVolumeFile (MetaVolatile _) = Unit {0}
IsVolumeFile (VolumeLease _) = Unit {0}
IsVolumeFile _ = ⊥

abbrev pub IsTaskFile : Name → Type 0
IsTaskFile (Task _) = Unit {0}
IsTaskFile (TaskNew _) = Unit {0}
IsTaskFile _ = ⊥

-- the names that a folder may hold
abbrev pub HoldsName : Dir → Name → Type 0
HoldsName (DomMd _) name = IsDomainFile name
HoldsName (Image _ _) name = IsVolumeFile name
HoldsName (Removed _ _) name = IsVolumeFile name
HoldsName (Tasks _) name = IsTaskFile name
HoldsName _ name = ⊥

-- the text is that of a name of this kind
pub record IsNamed (Kind : Name → Type 0) (text : List ℕ) (name : Name) : Type 0 where
  pub ids : NameHasIds name
  pub kind : Kind name
  pub spelled : name_text name ≡ text

-- the path of what stands in a folder under a text
abbrev pub entry_path : Dir → List ℕ → List ℕ
entry_path Root text = text
entry_path dir text = dir_path dir ++ 47 ∷ text

-- the folder stands in the first one under the text
pub record IsFolderIn (dir : Dir) (text : List ℕ) (q : Dir) : Type 0 where
  pub ids : DirHasIds q
  pub other : q ≢ Root
  pub inside : parent_of q ≡ dir
  pub path : dir_path q ≡ entry_path dir text
