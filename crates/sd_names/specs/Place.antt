-- The paths of folders and files, and their order.
use Rattle.std.specs.Prelude.{ℕ, List, [], ◌∷◌, ◌++◌, ◌==◌, length, if◌then◌else◌, codes}
use Rattle.std.specs.Ordering.{nat_cmp, ordering_then}
use Rattle.std.specs.Cmp.Lexicographic.{slice_cmp}
use Rattle.std.specs.declared.cmp.Ordering.{Ordering}
use Rattle.sd_names.specs.Id.{IsIdBytes, id_text}
use Rattle.sd_names.specs.declared.place.Dir.{Dir}
use Rattle.sd_names.specs.declared.place.Dir.TheVariants.{Root, Domain, DomMd, Images, Image, Removed, Master, Tasks}
use Rattle.sd_names.specs.declared.place.Name.{Name}
use Rattle.sd_names.specs.declared.place.Name.TheVariants.{Metadata, MetadataNew, Leases, Inbox, Outbox, Volume, Meta, MetaNew, MetaVolatile, VolumeLease, Task, TaskNew}
use Rattle.sd_names.specs.declared.place.Place.{Place}

-- the path of a folder below the shared folder, whose own is empty
abbrev pub dir_path : Dir → List ℕ
dir_path Root = []
dir_path (Domain sd) = id_text sd.0
dir_path (DomMd sd) = id_text sd.0 ++ codes "/dom_md"
dir_path (Images sd) = id_text sd.0 ++ codes "/images"
dir_path (Image sd image) = id_text sd.0 ++ codes "/images/" ++ id_text image.0
dir_path (Removed sd image) = id_text sd.0 ++ codes "/images/_remove_" ++ id_text image.0
dir_path (Master sd) = id_text sd.0 ++ codes "/master"
dir_path (Tasks sd) = id_text sd.0 ++ codes "/master/tasks"

-- the folder in which a folder stands: the shared folder stands in itself
abbrev pub parent_of : Dir → Dir
parent_of Root = Root
parent_of (Domain sd) = Root
parent_of (DomMd sd) = Domain sd
parent_of (Images sd) = Domain sd
parent_of (Image sd image) = Images sd
parent_of (Removed sd image) = Images sd
parent_of (Master sd) = Domain sd
parent_of (Tasks sd) = Master sd

-- the text of a file's name
abbrev pub name_text : Name → List ℕ
name_text Metadata = codes "metadata"
name_text MetadataNew = codes "metadata.new"
name_text Leases = codes "leases"
name_text Inbox = codes "inbox"
name_text Outbox = codes "outbox"
name_text (Volume v) = id_text v.0
name_text (Meta v) = id_text v.0 ++ codes ".meta"
name_text (MetaNew v) = id_text v.0 ++ codes ".meta.new"
name_text (MetaVolatile v) = id_text v.0 ++ codes ".meta.volatile"
name_text (VolumeLease v) = id_text v.0 ++ codes ".lease"
name_text (Task t) = id_text t.0
name_text (TaskNew t) = id_text t.0 ++ codes ".new"

-- the path of a file: its folder's, a slash where that isn't empty, and its name
abbrev pub place_path : Place → List ℕ
place_path p =
    if length (dir_path p.dir) == 0 then name_text p.name
    else dir_path p.dir ++ 47 ∷ name_text p.name

-- a volume's name and a task's can be one text, though not in one folder: the volume comes first
abbrev pub name_rank : Name → ℕ
name_rank (Task t) = 1
name_rank _ = 0

-- the order of folders, of names and of files: that of the bytes of their paths
abbrev pub path_cmp : List ℕ → List ℕ → Ordering
path_cmp = slice_cmp nat_cmp

abbrev pub dir_cmp : Dir → Dir → Ordering
dir_cmp a b = path_cmp (dir_path a) (dir_path b)

abbrev pub name_cmp : Name → Name → Ordering
name_cmp a b = ordering_then (path_cmp (name_text a) (name_text b)) (nat_cmp (name_rank a) (name_rank b))

abbrev pub place_cmp : Place → Place → Ordering
place_cmp a b = ordering_then (path_cmp (place_path a) (place_path b)) (nat_cmp (name_rank a.name) (name_rank b.name))

-- a folder and a name whose identifiers have sixteen bytes, as all of a program have
abbrev pub DirHasIds : Dir → Type 0
DirHasIds Root = Unit {0}
DirHasIds (Domain sd) = IsIdBytes sd.0
DirHasIds (DomMd sd) = IsIdBytes sd.0
DirHasIds (Images sd) = IsIdBytes sd.0
DirHasIds (Image sd image) = IsIdBytes sd.0 × IsIdBytes image.0
DirHasIds (Removed sd image) = IsIdBytes sd.0 × IsIdBytes image.0
DirHasIds (Master sd) = IsIdBytes sd.0
DirHasIds (Tasks sd) = IsIdBytes sd.0

abbrev pub NameHasIds : Name → Type 0
NameHasIds Metadata = Unit {0}
NameHasIds MetadataNew = Unit {0}
NameHasIds Leases = Unit {0}
NameHasIds Inbox = Unit {0}
NameHasIds Outbox = Unit {0}
NameHasIds (Volume v) = IsIdBytes v.0
NameHasIds (Meta v) = IsIdBytes v.0
NameHasIds (MetaNew v) = IsIdBytes v.0
NameHasIds (MetaVolatile v) = IsIdBytes v.0
NameHasIds (VolumeLease v) = IsIdBytes v.0
NameHasIds (Task t) = IsIdBytes t.0
NameHasIds (TaskNew t) = IsIdBytes t.0

abbrev pub PlaceHasIds : Place → Type 0
PlaceHasIds p = DirHasIds p.dir × NameHasIds p.name
