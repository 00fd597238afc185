-- What is known of an image's folder while it is gathered.
use Rattle.std.specs.Prelude.{◌≡◌, ◌≢◌, ℕ, ◌^◌, ◌<◌, ◌≤◌, true, List, [], ◌∷◌, ◌++◌, length, map, take, Contains, Option, Some, None, Ok}
use Rattle.std.specs.List.Sorted.{IsStrictlySortedBy}
use Rattle.std.specs.Option.{is_some}
use Rattle.std.specs.declared.cmp.Ordering.TheVariants.{Greater}
use Rattle.sd_names.specs.Place.{NameHasIds, name_cmp}
use Rattle.sd_names.specs.declared.id.Id.{Id}
use Rattle.sd_names.specs.declared.place.Dir.{Dir}
use Rattle.sd_names.specs.declared.place.Name.{Name}
use Rattle.sd_names.specs.declared.place.Name.TheVariants as name
use Rattle.sd_names.specs.declared.refusal.Refusal.{Refusal}
use Rattle.shared_disk.specs.Content.{Content, File}
use Rattle.shared_disk.specs.Crash.{IsAlone, IsSettled}
use Rattle.shared_disk.specs.NameCalls.{IsNameAbove, ShowsName, place_in}
use Rattle.chain_model.specs.Folder.{Volumes, folder_of, volumes_of}
use Rattle.chain_model.specs.Opening.{AreVolumes, Check, FirstRefusal, count, id_cmp, text}
use Rattle.chain_model.specs.Records.{Image, is_volume, text_of}
use Rattle.chain_records.specs.Records.{ids_of}
use Rattle.chain_gathering.specs.Kept.{ids_found}
use Rattle.chain_gathering.specs.Names.{IsPassed, name_of}
use Rattle.chain_gathering.specs.Stages.{dir_in, image_in}
use Rattle.chain_gathering.specs.declared.found.Found.{Found}
use Rattle.chain_gathering.specs.declared.gathered.Gathered.{Gathered}
use Rattle.chain_gathering.specs.declared.names.VolumeName.{VolumeName}
use Rattle.chain_records.specs.declared.volume.Volume.{Volume}
use Rattle.chain_gathering.specs.declared.stages.Seen.{Seen}
use Rattle.chain_gathering.specs.declared.stages.Stage.{Stage}
use Rattle.chain_gathering.specs.declared.stages.Stage.TheVariants.{Listing, Syncing, Reading}
use Rattle.chain_gathering.specs.declared.stages.Target.{Target}

-- the files of the volumes in a folder
abbrev pub volumes_in : Dir → Content → Volumes
volumes_in dir d = volumes_of (folder_of dir d)

-- this file of a volume is there
abbrev pub IsThere : Dir → VolumeName → Content → File → Type 0
IsThere dir o d f = d.file (place_in dir (name_of o)) ≡ Some f

-- What a host has to know of an image's folder to gather it: the folder is there; no other host has anything unsynced in
-- the volumes' files and texts; their identifiers have sixteen bytes, as all of a program have; and there are fewer than
-- 2^64 texts, so that they can be counted.
pub record KnowsFolder (dir : Dir) (host : ℕ) (d : Content) : Type 0 where
  pub there : d.dir dir ≡ true
  pub alone : (o : VolumeName) (f : File) → IsThere dir o d f → IsAlone host f
  pub ids : (o : VolumeName) (f : File) → IsThere dir o d f → NameHasIds (name_of o)
  pub few : (vs : List Id) → IsStrictlySortedBy id_cmp vs → ((v : Id) → Contains vs v → is_volume (volumes_in dir d) v ≡ true) → length vs < 2 ^ 64

-- nothing is unsynced in the volumes' files and texts: in those that were passed, and in all
abbrev pub AreSettledTo : Dir → Option Name → Content → Type 0
AreSettledTo dir after d = (o : VolumeName) (f : File) → IsThere dir o d f → IsPassed after (name_of o) → IsSettled f

abbrev pub AreSettled : Dir → Content → Type 0
AreSettled dir d = (o : VolumeName) (f : File) → IsThere dir o d f → IsSettled f

-- exactly the volumes whose texts were passed, in order of their identifiers
pub record AreVolumesTo (x : Volumes) (after : Option Name) (vs : List Id) : Type 0 where
  pub rising : IsStrictlySortedBy id_cmp vs
  pub each : (v : Id) → Contains vs v → is_volume x v ≡ true
  pub passed : (v : Id) → Contains vs v → IsPassed after (name.Meta v)
  pub all : (v : Id) → is_volume x v ≡ true → IsPassed after (name.Meta v) → Contains vs v

-- a volume is told to have its file exactly where it is there
abbrev pub AreThere : Volumes → List Found → Type 0
AreThere x ws = (w : Found) → Contains ws w → w.has_file ≡ is_some (x.file w.id)

-- the last volume file that was passed
abbrev pub IsLastFile : Volumes → Option Name → Option Id → Type 0
IsLastFile x after None = (w : Id) → is_some (x.file w) ≡ true → IsPassed after (name.Volume w) → ⊥
IsLastFile x after (Some v) =
    (is_some (x.file v) ≡ true) × IsPassed after (name.Volume v)
    × ((w : Id) → is_some (x.file w) ≡ true → IsPassed after (name.Volume w) → id_cmp w v ≢ Greater)

-- what a listing knows once it has come to a name: of more than 32 volumes it keeps the first 32
pub record KnowsListing (dir : Dir) (host : ℕ) (seen : Seen) (kept : Gathered) (d : Content) : Type 0 where
  pub folder : KnowsFolder dir host d
  pub settled : AreSettledTo dir seen.after d
  pub volumes : List Id
  pub are : AreVolumesTo (volumes_in dir d) seen.after volumes
  pub count : seen.count ≡ length volumes
  pub found : ids_found kept.found ≡ take 32 volumes
  pub files : AreThere (volumes_in dir d) kept.found
  pub last : IsLastFile (volumes_in dir d) seen.after seen.file
  pub unread : kept.records ≡ []

-- the least of the volumes' files and texts above the name that a listing has come to
pub record IsNextFile (dir : Dir) (after : Option Name) (o : VolumeName) (d : Content) : Type 0 where
  pub shows : ShowsName d dir (name_of o)
  pub above : IsNameAbove after (name_of o)
  pub least : (p : VolumeName) → ShowsName d dir (name_of p) → IsNameAbove after (name_of p) → name_cmp (name_of o) (name_of p) ≢ Greater

-- All is settled, these are the volumes, and each record is that of its text. They may be fewer than the volumes.
pub record IsRead (t : Target) (kept : Gathered) (d : Content) : Type 0 where
  pub settled : AreSettled (dir_in t) d
  pub are : AreVolumes (volumes_in (dir_in t) d) (ids_found kept.found)
  pub few : length kept.found ≤ 32
  pub files : AreThere (volumes_in (dir_in t) d) kept.found
  pub short : length kept.records ≤ length kept.found
  pub order : ids_of kept.records ≡ take (length kept.records) (ids_found kept.found)
  pub texts : (r : Volume) → Contains kept.records r → text_of (image_in t) (volumes_in (dir_in t) d) r.id ≡ Some (Ok r.meta)
  pub own : (r : Volume) → Contains kept.records r → r.has_file ≡ is_some ((volumes_in (dir_in t) d).file r.id)

-- what is known in each stage
abbrev pub KnowsStage : Target → Gathered → ℕ → Content → Stage → Type 0
KnowsStage t kept host d (Listing seen) = KnowsListing (dir_in t) host seen kept d
KnowsStage t kept host d (Syncing seen o) = KnowsListing (dir_in t) host seen kept d × IsNextFile (dir_in t) seen.after o d
KnowsStage t kept host d Reading = KnowsFolder (dir_in t) host d × IsRead t kept d

-- the first checks of an opening: that the volumes aren't too many, and that each text can be read
abbrev pub first_checks : List Id → List Check → List Check
first_checks vs rest = count ∷ map text vs ++ rest

-- the refusal is that of the first of these checks that refuses, whichever checks follow them
abbrev pub IsFirst : Image → Volumes → Refusal → Type 0
IsFirst i x e = (vs : List Id) × AreVolumes x vs × ((rest : List Check) → FirstRefusal i x vs (first_checks vs rest) e)

-- None of them refuses: the first refusal is that of the checks that follow them.
abbrev pub ArePassed : Image → Volumes → List Id → Type 0
ArePassed i x vs = (rest : List Check) (e : Refusal) → FirstRefusal i x vs rest e → FirstRefusal i x vs (first_checks vs rest) e

-- An image that was gathered: all is settled, the volumes are exactly these, and so are their records and files.
pub record IsGathered (t : Target) (kept : Gathered) (d : Content) : Type 0 where
  pub settled : AreSettled (dir_in t) d
  pub are : AreVolumes (volumes_in (dir_in t) d) (ids_found kept.found)
  pub few : length kept.found ≤ 32
  pub files : AreThere (volumes_in (dir_in t) d) kept.found
  pub order : ids_of kept.records ≡ ids_found kept.found
  pub texts : (r : Volume) → Contains kept.records r → text_of (image_in t) (volumes_in (dir_in t) d) r.id ≡ Some (Ok r.meta)
  pub own : (r : Volume) → Contains kept.records r → r.has_file ≡ is_some ((volumes_in (dir_in t) d).file r.id)
  pub passed : ArePassed (image_in t) (volumes_in (dir_in t) d) (ids_found kept.found)
