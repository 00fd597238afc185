-- Laws of disks that stand for a pool, as statements.
use Rattle.std.specs.Prelude.{◌≡◌, ◌≢◌, ◌⊎◌, Option, ℕ, ◌*◌, ◌<◌, ◌≤◌, true, false, List, [], ◌∷◌, length, Contains, not, Some, None, Ok}
use Rattle.std.specs.List.{filter}
use Rattle.sd_names.specs.UpSet.{Hosts, is_up}
use Rattle.sd_names.specs.declared.id.Id.{Id}
use Rattle.sd_names.specs.Id.{zero_id}
use Rattle.sd_names.specs.declared.kinds.Format.TheVariants.{Raw}
use Rattle.sd_names.specs.declared.kinds.Legality.TheVariants.{Legal}
use Rattle.sd_names.specs.declared.kinds.Role.TheVariants.{Master}
use Rattle.sd_names.specs.declared.kinds.VolType.TheVariants.{Leaf}
use Rattle.sd_names.specs.declared.place.Dir.TheVariants as dir
use Rattle.sd_names.specs.declared.place.Name.{Name}
use Rattle.sd_names.specs.declared.place.Name.TheVariants as name
use Rattle.sd_names.specs.declared.place.Place.{Place}
use Rattle.script_lines.specs.declared.event.Line.TheVariants as line
use Rattle.script_lines.specs.declared.reply.Reply.TheVariants as reply
use Rattle.shared_disk.specs.Content.{Content, File, IsEmpty, zero_sector}
use Rattle.shared_disk.specs.Crash.{DownLeaves, IsAllSettled, IsAlone, IsOutcome, IsSettled}
use Rattle.shared_disk.specs.Calls.{IsPut}
use Rattle.shared_disk.specs.NameCalls.{place_in}
use Rattle.shared_disk.specs.Places.{id_is}
use Rattle.folder_layout.specs.Layout.{HoldsName}
use Rattle.volume_meta.specs.Read.{read_volume}
use Rattle.volume_meta.specs.declared.record.VolumeRecord.{VolumeRecord}
use Rattle.domain_meta.specs.declared.record.DomainRecord.{DomainRecord}
use Rattle.lease_area.specs.Hold.{IsMoved}
use Rattle.lease_area.specs.Sector.{IsRecord}
use Rattle.lease_area.specs.declared.sector.Kind.TheVariants.{Task}
use Rattle.lease_area.specs.declared.sector.LeaseRecord.{LeaseRecord}
use Rattle.lease_area.specs.declared.sector.Sector.TheVariants.{Lease}
use Rattle.chain_model.specs.Chain.{IsBelow, counting}
use Rattle.chain_model.specs.Flat.{IsSectorOf, flat}
use Rattle.chain_model.specs.Folder.{Folder, Volumes, folder_of, volumes_of}
use Rattle.chain_model.specs.Reading.{IsReading}
use Rattle.chain_model.specs.Records.{Image as ImageIn, records_of, stored_text}
use Rattle.pool_model.specs.Covered.{Covered, Keeps}
use Rattle.pool_model.specs.ImageStands.{FolderMeans, IsImage}
use Rattle.pool_model.specs.Downs.{DownPool}
use Rattle.pool_model.specs.Kept.{IsKept}
use Rattle.pool_model.specs.Knows.{Knows, KnowsLists, KnowsManager}
use Rattle.pool_model.specs.Role.{Manager}
use Rattle.sd_names.specs.declared.task_state.TaskState.{TaskState}
use Rattle.pool_model.specs.Leases.{Holds, IsGuest, IsNamed, NamesAt}
use Rattle.pool_model.specs.Lines.{Moves}
use Rattle.pool_model.specs.Marks.{change, make_master}
use Rattle.pool_model.specs.Made.{base_image, master_pool}
use Rattle.pool_model.specs.Owned.{AlsoLonger, OwnedImages, OwnedPool}
use Rattle.pool_model.specs.Pool.{History, Image, Pool, Side, Volume, Writing, no_pool, put_sector, put_task}
use Rattle.pool_model.specs.Reading.{records_in}
use Rattle.pool_model.specs.Same.{SamePool}
use Rattle.pool_model.specs.Sizes.{Sizes}
use Rattle.pool_model.specs.Standing.{HasDomainText, HasFolders, ImageStands, IsAlive, IsVolumeName, IsZeroFile, ShowsImage, Stands, box_sectors, file_in, lease_sectors, metadata_of}
use Rattle.pool_model.specs.State.{HostState, Kept, Running, State, booted}
use Rattle.pool_model.specs.Tasks.{IsMaking, NoneOpen}

-- ---- the empty disk

abbrev pub EmptyStands : Type 0
EmptyStands = (up : Hosts) (d : Content) (history : History) → IsEmpty d → Stands up d (no_pool history)

-- ---- what each standing disk has

abbrev pub StandingIsCovered : Type 0
StandingIsCovered = (up : Hosts) (d : Content) (p : Pool) → Stands up d p → Covered d p

abbrev pub StandingKeeps : Type 0
StandingKeeps = (up : Hosts) (d : Content) (p : Pool) → Stands up d p → Keeps up d p

abbrev pub Nobody : Hosts → Type 0
Nobody up = (h : ℕ) → is_up up h ≡ false

abbrev pub NobodySettles : Type 0
NobodySettles = (up : Hosts) (d : Content) (p : Pool) → Nobody up → Stands up d p → IsAllSettled d

-- an image of a listed domain that is named, and that no open task makes or removes: more is claimed of it than its sector
pub record IsClaimed (p : Pool) (sd i : Id) (r : DomainRecord) (m : Image) : Type 0 where
  pub listed : p.domain sd ≡ Some r
  pub named : IsNamed p sd i
  pub idle : IsMaking p sd i → ⊥
  pub image : p.image sd i ≡ Some m

abbrev pub NobodyTears : Type 0
NobodyTears = (up : Hosts) (d : Content) (p : Pool) (sd i : Id) (r : DomainRecord) (m : Image) → Nobody up → Stands up d p → IsClaimed p sd i r m
    → m.torn ≡ None

-- a host that boots changes nothing of that
abbrev pub BootsStand : Type 0
BootsStand = (up now : Hosts) (d : Content) (p : Pool) → ((h : ℕ) → is_up up h ≡ true → is_up now h ≡ true) → Stands up d p → Stands now d p

-- ---- one disk, one pool

abbrev pub OnePool : Type 0
OnePool = (up : Hosts) (d : Content) (p q : Pool) → Nobody up → Stands up d p → Stands up d q → SamePool p q

-- ---- what the flat lists mean

-- the volumes of an image, and the image as their texts are read
abbrev pub volumes_in : Content → Id → Id → Volumes
volumes_in d sd i = volumes_of (folder_of (dir.Image sd i) d)

abbrev pub image_in : Id → Id → DomainRecord → ImageIn
image_in sd i r = record { domain = sd; id = i; version = r.version }

-- the volume reads as this list, sector by sector, through the chain of volumes below it
abbrev pub ReadsThrough : ImageIn → Volumes → Id → (ℕ → List ℕ) → Type 0
ReadsThrough i x v list =
    (vs : List Id) × IsBelow (records_of i x) v vs × ((k : ℕ) → IsSectorOf (records_of i x) v k → flat (records_of i x) x v vs k ≡ list k)

abbrev pub FlatListsAreRead : Type 0
FlatListsAreRead =
    (up : Hosts) (d o : Content) (p : Pool) (sd i v : Id) (r : DomainRecord) (m : Image) (w : Volume) (y : VolumeRecord) → Stands up d p
    → IsClaimed p sd i r m → m.fault ≡ None → m.torn ≡ None → m.volume v ≡ Some w → w.says ≡ Ok y → y.legality ≡ Legal → IsOutcome d o
    → ReadsThrough (image_in sd i r) (volumes_in o sd i) v w.flat

-- ---- a made pool

-- A disk with one domain: its text, which reads as this master's record, its folders, leases and boxes of zeros, and no image's
-- folder, no task and no other domain's text anywhere.
pub record HoldsMaster (up : Hosts) (d : Content) (r : DomainRecord) : Type 0 where
  pub role : r.role ≡ Master
  pub lists : r.domains ≡ r.sduuid ∷ []
  pub version : (r.version ≡ 4) ⊎ (r.version ≡ 5)
  pub text : HasDomainText d r.sduuid (Ok r)
  pub folders : HasFolders d r.sduuid
  pub leases : IsZeroFile lease_sectors (file_in r.sduuid name.Leases d)
  pub inboxes : IsZeroFile box_sectors (file_in r.sduuid name.Inbox d)
  pub outboxes : IsZeroFile box_sectors (file_in r.sduuid name.Outbox d)
  pub images : (sd i : Id) → (d.dir (dir.Image sd i) ≡ false) × (d.dir (dir.Removed sd i) ≡ false)
  pub no_files : (sd i : Id) (n : Name) → (d.file (place_in (dir.Image sd i) n) ≡ None) × (d.file (place_in (dir.Removed sd i) n) ≡ None)
  pub tasks : (sd t : Id) → d.file (place_in (dir.Tasks sd) (name.Task t)) ≡ None
  pub texts : (sd : Id) → sd ≢ r.sduuid → d.file (metadata_of sd) ≡ None
  pub alive : (q : Place) (f : File) → d.file q ≡ Some f → IsAlive up f
  pub layout : (q : Place) (f : File) → d.file q ≡ Some f → HoldsName q.dir q.name

abbrev pub MadePoolsStand : Type 0
MadePoolsStand = (up : Hosts) (d : Content) (r : DomainRecord) (history : History) → HoldsMaster up d r → Stands up d (master_pool r (no_pool history))

-- ---- a pool that is being made

-- From d to e nothing has changed but folders and files of the domain itself, and of no domain an image's folder.
pub record ChangesDomain (up : Hosts) (d e : Content) (sd : Id) : Type 0 where
  pub files : (at : Place) → at.dir ≢ dir.DomMd sd → e.file at ≡ d.file at
  pub dirs : (a i : Id) → (e.dir (dir.Image a i) ≡ d.dir (dir.Image a i)) × (e.dir (dir.Removed a i) ≡ d.dir (dir.Removed a i))
  pub own : (at : Place) (f : File) → at.dir ≡ dir.DomMd sd → e.file at ≡ Some f → IsAlive up f × HoldsName at.dir at.name

-- as long as the domain has no text, the disk stands for the pool that isn't made
abbrev pub MakingStands : Type 0
MakingStands =
    (up : Hosts) (d e : Content) (p : Pool) (sd : Id) → Stands up d p → p.master ≡ None → ChangesDomain up d e sd → e.file (metadata_of sd) ≡ None
    → Stands up e p

-- The domain's text is there, and reads as this master's, beside folders, leases and boxes of zeros; and no image has a folder.
pub record HoldsNewMaster (e : Content) (r : DomainRecord) : Type 0 where
  pub role : r.role ≡ Master
  pub lists : r.domains ≡ r.sduuid ∷ []
  pub version : (r.version ≡ 4) ⊎ (r.version ≡ 5)
  pub text : HasDomainText e r.sduuid (Ok r)
  pub folders : HasFolders e r.sduuid
  pub leases : IsZeroFile lease_sectors (file_in r.sduuid name.Leases e)
  pub inboxes : IsZeroFile box_sectors (file_in r.sduuid name.Inbox e)
  pub outboxes : IsZeroFile box_sectors (file_in r.sduuid name.Outbox e)
  pub unseen : ShowsImage e r.sduuid → ⊥
  pub folder_of : (at : Place) (f : File) → e.file at ≡ Some f → e.dir at.dir ≡ true

-- then it stands for the pool that was made
abbrev pub PoolsAreMade : Type 0
PoolsAreMade =
    (up : Hosts) (d e : Content) (p : Pool) (r : DomainRecord) → Stands up d p → p.master ≡ None → ChangesDomain up d e r.sduuid → HoldsNewMaster e r
    → Stands up e (master_pool r p)

-- ---- what a made image means

-- nothing in the folder is unsynced
abbrev pub IsSettledFolder : Folder → Type 0
IsSettledFolder F = (n : Name) (f : File) → F n ≡ Some f → IsSettled f

abbrev pub SettledFoldersMean : Type 0
SettledFoldersMean = (i : ImageIn) (m : Image) (F : Folder) → IsSettledFolder F → IsImage i (volumes_of F) m → FolderMeans i m F

-- The folder has one volume: its text, which gives the record of a raw LEGAL volume without a parent, as a new one's is, and a
-- file of zeros as long as its capacity.
pub record HoldsRawBase (i : ImageIn) (F : Folder) (v : Id) (y : VolumeRecord) : Type 0 where
  pub settled : IsSettledFolder F
  pub text : File
  pub text_is : F (name.Meta v) ≡ Some text
  pub reads : read_volume i.version i.domain i.id (stored_text text) ≡ Ok y
  pub file : File
  pub file_is : F (name.Volume v) ≡ Some file
  pub zeros : (k : ℕ) → k < file.size → file.stable k ≡ zero_sector
  pub size : y.capacity ≡ 512 * file.size
  pub format : y.format ≡ Raw
  pub legal : y.legality ≡ Legal
  pub base : y.parent ≡ zero_id
  pub leaf : y.voltype ≡ Leaf
  pub others : (w : Id) → w ≢ v → F (name.Meta w) ≡ None

abbrev pub RawBasesMean : Type 0
RawBasesMean = (i : ImageIn) (F : Folder) (v : Id) (y : VolumeRecord) → HoldsRawBase i F v y → FolderMeans i (base_image y v) F

-- ---- the reading volume

-- the reading volume of the files is that of the pool's image, whose records have the parents that count
abbrev pub ReadingAgrees : Type 0
ReadingAgrees =
    (i : ImageIn) (x : Volumes) (m : Image) (v : Id) (vs : List Id) → IsImage i x m → IsReading (records_of i x) v vs
    → IsReading (records_in m) v (counting (records_of i x) vs)

-- ---- what changes elsewhere leave

-- From d to e, and from p to q, nothing of the image has changed: not its folders, what the pool says of it, the sectors that
-- name it, or the tasks that make or remove it; and each host that is up holds it still, where it did.
pub record LeavesImage (up : Hosts) (d e : Content) (p q : Pool) (sd i : Id) : Type 0 where
  pub image : q.image sd i ≡ p.image sd i
  pub folder : e.dir (dir.Image sd i) ≡ d.dir (dir.Image sd i)
  pub removed : e.dir (dir.Removed sd i) ≡ d.dir (dir.Removed sd i)
  pub files : (n : Name) → folder_of (dir.Image sd i) e n ≡ folder_of (dir.Image sd i) d n
  pub removed_files : (n : Name) → folder_of (dir.Removed sd i) e n ≡ folder_of (dir.Removed sd i) d n
  pub named : (k : ℕ) (r : LeaseRecord) → NamesAt p sd i k r → NamesAt q sd i k r
  pub was_named : (k : ℕ) (r : LeaseRecord) → NamesAt q sd i k r → NamesAt p sd i k r
  pub making : IsMaking p sd i → IsMaking q sd i
  pub was_making : IsMaking q sd i → IsMaking p sd i
  pub holds : (h : ℕ) → is_up up h ≡ true → Holds p h sd i → Holds q h sd i

-- each unsynced write is of a host that is up
abbrev pub AreAlive : Hosts → Content → Type 0
AreAlive up d = (at : Place) (f : File) → d.file at ≡ Some f → IsAlive up f

abbrev pub ImageFrame : Type 0
ImageFrame =
    (up : Hosts) (d e : Content) (p q : Pool) (sd i : Id) (version : ℕ) → AreAlive up d → LeavesImage up d e p q sd i → ImageStands up d p sd version i
    → ImageStands up e q sd version i

-- ---- what a move of sector 0 leaves

-- sector 0 of a domain is this lease
abbrev pub with_role : Pool → Id → LeaseRecord → Pool
with_role p m new = put_sector p m 0 (Lease new)

-- By one exchange sector 0 of the master is another lease, for no task; and whoever is up and holds an image still does.
abbrev pub RoleFrame : Type 0
RoleFrame =
    (up : Hosts) (d e : Content) (p : Pool) (m : Id) (new : LeaseRecord) → Stands up d p → p.master ≡ Some m → IsMoved d m 0 (Lease new) e
    → IsRecord new → new.kind ≢ Task → ((sd i : Id) (h : ℕ) → is_up up h ≡ true → Holds p h sd i → Holds (with_role p m new) h sd i)
    → Stands up e (with_role p m new)

-- ---- what owned changes leave

abbrev pub GuestsKeepImages : Type 0
GuestsKeepImages =
    (up : Hosts) (d : Content) (p q : Pool) (h g : ℕ) (sd i : Id) (r : DomainRecord) → Stands up d p → OwnedImages h p q → p.domain sd ≡ Some r
    → IsGuest p sd i g → g ≢ h → (q.image sd i ≡ p.image sd i) ⊎ AlsoLonger (p.image sd i) (q.image sd i)

-- whoever holds an image that has a guest is the guest
abbrev pub GuestsHoldAlone : Type 0
GuestsHoldAlone =
    (up : Hosts) (d : Content) (p : Pool) (h g : ℕ) (sd i : Id) (r : DomainRecord) → Stands up d p → p.domain sd ≡ Some r
    → IsGuest p sd i g → Holds p h sd i → h ≡ g

-- and no other host has anything unsynced in its volumes' files and texts
abbrev pub GuestsWriteAlone : Type 0
GuestsWriteAlone =
    (up : Hosts) (d : Content) (p : Pool) (g : ℕ) (sd i : Id) (r : DomainRecord) (n : Name) (f : File) → Stands up d p → p.domain sd ≡ Some r
    → IsGuest p sd i g → IsVolumeName n → folder_of (dir.Image sd i) d n ≡ Some f → IsAlone g f

-- ---- what a verb keeps

-- in each pool, whatever the sizes
abbrev pub BeginsKeep : Type 0
BeginsKeep = (h : ℕ) (p : Pool) (s : Sizes) → (k : Kept) × IsKept h p k × (k.sizes ≡ s)

-- ---- a boot

-- a host that a boot answers ok is up, where the list has its number, as the first state's has
abbrev pub BootedAreUp : Type 0
BootedAreUp = (s t : State) (n m h : ℕ) (bytes : List ℕ) → h < length s.up → Moves (line.Boot h) s n (Some reply.Plain) bytes t m → is_up t.up h ≡ true

-- ---- what a host knows, and others

-- no pool is about to be made by this verb
abbrev pub MakesNone : Option Running → Type 0
MakesNone None = Unit {0}
MakesNone (Some run) = (r : DomainRecord) → run.marks ≡ change (make_master r) ∷ [] → ⊥

-- What a host that is up knows stays true where another host changes only what it may; the two don't make a pool at once.
abbrev pub OthersKnow : Type 0
OthersKnow =
    (up : Hosts) (d : Content) (p q : Pool) (h g : ℕ) (x : HostState) → Stands up d p → OwnedPool h up p q → g ≢ h → 1 ≤ g → is_up up g ≡ true
    → (q.master ≡ p.master) ⊎ MakesNone x.running → Knows g x p → Knows g x q

-- and so do a manager's lists
abbrev pub OthersKnowLists : Type 0
OthersKnowLists =
    (up : Hosts) (d : Content) (p q : Pool) (h g : ℕ) (m : Manager) (domains : List Id) (tasks : List (Id × TaskState)) → Stands up d p → OwnedPool h up p q
    → g ≢ h → 1 ≤ g → is_up up g ≡ true → KnowsManager g m p → KnowsLists domains tasks m.begun p → KnowsLists domains tasks m.begun q

-- and where another host goes down
abbrev pub DownsKnow : Type 0
DownsKnow = (up : Hosts) (d : Content) (p q : Pool) (h g : ℕ) (x : HostState) → Stands up d p → DownPool h p q → g ≢ h → Knows g x p → Knows g x q

-- a host that isn't up, and boots, knows what a booted host has to
abbrev pub BootedKnow : Type 0
BootedKnow = (up : Hosts) (d : Content) (p : Pool) (h : ℕ) → Stands up d p → is_up up h ≡ false → Knows h booted p

-- ---- a host that goes down

-- The host has no write under way: none is mixed into an image of which it is the guest, and none into a box.
pub record IsQuiet (h : ℕ) (p : Pool) : Type 0 where
  pub images : (sd i : Id) (m : Image) → IsGuest p sd i h → p.image sd i ≡ Some m → m.torn ≡ None
  pub boxes : (side : Side) (sd : Id) (g : ℕ) (w : Writing) → Contains (p.box side sd g).writings w → w.host ≢ h

-- where such a host goes down, and the others stay up, the disk that its crash leaves stands for the pool that it stood for
abbrev pub QuietDowns : Type 0
QuietDowns =
    (up now : Hosts) (d e : Content) (p : Pool) (h : ℕ) → Stands up d p → DownLeaves d h e → ((g : ℕ) → g ≢ h → is_up up g ≡ true → is_up now g ≡ true)
    → IsQuiet h p → Stands now e p × DownPool h p p

-- ---- a task goes

-- tasks but for this one
abbrev pub tasks_without : Id → List (Id × TaskState) → List (Id × TaskState)
tasks_without t ts = filter (λ (a : Id × TaskState). not (id_is a.0 t)) ts

-- Where no task is open and the file of one is removed, the disk stands for the pool without it.
abbrev pub TasksGo : Type 0
TasksGo =
    (up : Hosts) (d e : Content) (p : Pool) (m t : Id) → Stands up d p → p.master ≡ Some m → NoneOpen p
    → IsPut d (place_in (dir.Tasks m) (name.Task t)) None e → Stands up e (put_task p t None)
