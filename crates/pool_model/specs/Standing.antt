-- When a disk stands for a pool, over every outcome of crashes of the hosts that are up.
-- Claim: after every call of every host, and any crash there, the disk stands for a state of the machine.
use Rattle.std.specs.Prelude.{◌≡◌, ◌≢◌, ◌⊎◌, ◌↔◌, ℕ, ◌+◌, ◌*◌, ◌/◌, ◌%◌, ◌<◌, ◌≤◌, true, false, List, length, Contains, take, drop, Option, Some, None, Result, Ok}
use Rattle.sd_names.specs.Id.{zero_id}
use Rattle.sd_names.specs.UpSet.{Hosts, is_up}
use Rattle.sd_names.specs.declared.fault.DomainFault.{DomainFault}
use Rattle.sd_names.specs.declared.fault.LayerFault.{LayerFault}
use Rattle.sd_names.specs.declared.id.Id.{Id}
use Rattle.sd_names.specs.declared.kinds.Role.TheVariants.{Master, Regular}
use Rattle.sd_names.specs.declared.place.Dir.TheVariants as dir
use Rattle.sd_names.specs.declared.place.Name.{Name}
use Rattle.sd_names.specs.declared.place.Name.TheVariants as name
use Rattle.sd_names.specs.declared.place.Place.{Place}
use Rattle.sd_names.specs.declared.refusal.Refusal.TheVariants.{LayerRefused}
use Rattle.sd_names.specs.declared.task_state.TaskState.{TaskState}
use Rattle.shared_disk.specs.Content.{Content, File, Loose, zero_sector}
use Rattle.shared_disk.specs.Crash.{IsOutcomeSector, IsSettled}
use Rattle.shared_disk.specs.NameCalls.{place_in}
use Rattle.folder_layout.specs.Layout.{HoldsName}
use Rattle.whole_file.specs.Text.{longest}
use Rattle.mail_box.specs.Spelling.{message_of}
use Rattle.mail_box.specs.declared.message.Message.{Message}
use Rattle.domain_meta.specs.Read.{read_domain}
use Rattle.domain_meta.specs.declared.record.DomainRecord.{DomainRecord}
use Rattle.task_store.specs.ReadTask.{task_of}
use Rattle.task_store.specs.declared.task.Task.{Task}
use Rattle.lease_area.specs.Record.{IsImageSlot}
use Rattle.lease_area.specs.Sector.{IsSector, sector_bytes}
use Rattle.lease_area.specs.declared.sector.Kind.TheVariants as kind
use Rattle.lease_area.specs.declared.sector.LeaseRecord.{LeaseRecord}
use Rattle.lease_area.specs.declared.sector.Sector.{Sector}
use Rattle.lease_area.specs.declared.sector.Sector.TheVariants.{Empty, Lease}
use Rattle.chain_model.specs.Folder.{folder_of}
use Rattle.chain_model.specs.Records.{stored_text}
use Rattle.pool_model.specs.ImageStands.{FolderMeans}
use Rattle.pool_model.specs.Leases.{Holds, IsGuest, IsNamed, IsUnnamed, NamesAt}
use Rattle.pool_model.specs.Pool.{Box, Image, Pool, Side, Torn, Writing, empty_box, inbox, outbox}
use Rattle.pool_model.specs.Tasks.{AreTasks, IsBuiltOpen, IsMaking, IsOpen}

abbrev pub metadata_of : Id → Place
metadata_of sd = place_in (dir.DomMd sd) name.Metadata

abbrev pub file_in : Id → Name → Content → Option File
file_in sd name d = d.file (place_in (dir.DomMd sd) name)

-- ---- unsynced writes

-- whoever has an unsynced write in the file, or has made it and not synced it, is up
pub record IsAlive (up : Hosts) (f : File) : Type 0 where
  pub loose : (l : Loose) → Contains f.loose l → is_up up l.host ≡ true
  pub fresh : (h : ℕ) → f.fresh ≡ Some h → is_up up h ≡ true

-- or holds the image
pub record IsHeldFile (p : Pool) (sd i : Id) (f : File) : Type 0 where
  pub loose : (l : Loose) → Contains f.loose l → Holds p l.host sd i
  pub fresh : (h : ℕ) → f.fresh ≡ Some h → Holds p h sd i

-- the file of a volume or of its text; temporary names are free
abbrev pub IsVolumeName : Name → Type 0
IsVolumeName (name.Volume v) = Unit {0}
IsVolumeName (name.Meta v) = Unit {0}
IsVolumeName _ = ⊥

-- ---- the files of a listed domain

-- a text that each host reads, whatever crashes follow: its file has nothing unsynced
pub record HasStored (d : Content) (place : Place) (text : List ℕ) : Type 0 where
  pub file : File
  pub there : d.file place ≡ Some file
  pub settled : IsSettled file
  pub stored : stored_text file ≡ text

-- the domain's text, which reads as this
abbrev pub HasDomainText : Content → Id → Result DomainRecord DomainFault → Type 0
HasDomainText d sd t = (text : List ℕ) × HasStored d (metadata_of sd) text × (read_domain sd text ≡ t)

abbrev pub lease_sectors : ℕ
lease_sectors = 1024

-- The leases file has the pool's sectors, and nothing unsynced. Sector 0 is held for no task. No image is named twice, and
-- none that is named has the identifier of zeros.
pub record LeasesStand (sector : ℕ → Sector) (o : Option File) : Type 0 where
  pub file : File
  pub there : o ≡ Some file
  pub settled : IsSettled file
  pub size : file.size ≡ lease_sectors
  pub each : (k : ℕ) → k < lease_sectors → file.stable k ≡ sector_bytes (sector k)
  pub fits : (k : ℕ) → IsSector (sector k)
  pub past : (k : ℕ) → lease_sectors ≤ k → sector k ≡ Empty
  pub role : (r : LeaseRecord) → sector 0 ≡ Lease r → r.kind ≢ kind.Task
  pub once : (j k : ℕ) (r s : LeaseRecord) → IsImageSlot j → IsImageSlot k → sector j ≡ Lease r → sector k ≡ Lease s → r.image ≡ s.image → j ≡ k
  pub set : (k : ℕ) (r : LeaseRecord) → IsImageSlot k → sector k ≡ Lease r → r.image ≢ zero_id

-- what sector k of a box may be: the pool's, or one of a writing that runs or was cut
abbrev pub MayHold : Box → ℕ → List ℕ → Type 0
MayHold b k bytes = (bytes ≡ b.sector k) ⊎ ((w : Writing) × Contains b.writings w × (bytes ≡ w.sector k))

-- a box file of 251 boxes of 8 sectors, box 0 unused
abbrev pub box_sectors : ℕ
box_sectors = 2008

-- The boxes, on every outcome; and what is unsynced is of hosts that write that box, and are up.
pub record BoxesStand (up : Hosts) (box : ℕ → Box) (o : Option File) : Type 0 where
  pub file : File
  pub there : o ≡ Some file
  pub made : file.fresh ≡ None
  pub size : file.size ≡ box_sectors
  pub each : (h k : ℕ) → h < 251 → k < 8 → (bytes : List ℕ) → IsOutcomeSector file (8 * h + k) bytes → MayHold (box h) k bytes
  pub past : (h : ℕ) → 251 ≤ h → box h ≡ empty_box
  pub loose : (l : Loose) → Contains file.loose l → (w : Writing) × Contains (box (l.sector / 8)).writings w × (w.host ≡ l.host)
  pub up_is : (h : ℕ) (w : Writing) → Contains (box h).writings w → is_up up w.host ≡ true

-- the four folders of a domain, and its own
pub record HasFolders (d : Content) (sd : Id) : Type 0 where
  pub own : d.dir (dir.Domain sd) ≡ true
  pub md : d.dir (dir.DomMd sd) ≡ true
  pub images : d.dir (dir.Images sd) ≡ true
  pub master : d.dir (dir.Master sd) ≡ true
  pub tasks : d.dir (dir.Tasks sd) ≡ true

-- the domain's images folder shows a folder
abbrev pub ShowsImage : Content → Id → Type 0
ShowsImage d sd = (i : Id) × ((d.dir (dir.Image sd i) ≡ true) ⊎ (d.dir (dir.Removed sd i) ≡ true))

pub record ListedStands (up : Hosts) (d : Content) (p : Pool) (sd : Id) (r : DomainRecord) : Type 0 where
  pub text : HasDomainText d sd (Ok r)
  pub version : (r.version ≡ 4) ⊎ (r.version ≡ 5)
  pub folders : HasFolders d sd
  pub leases : LeasesStand (p.sector sd) (file_in sd name.Leases d)
  pub inboxes : BoxesStand up (p.box inbox sd) (file_in sd name.Inbox d)
  pub outboxes : BoxesStand up (p.box outbox sd) (file_in sd name.Outbox d)
  pub stray : p.stray sd ≡ None
  pub shows : p.shows sd ≡ false

-- ---- other domains

-- a file of so many sectors of zeros, with nothing unsynced
pub record IsZeroFile (size : ℕ) (o : Option File) : Type 0 where
  pub file : File
  pub there : o ≡ Some file
  pub settled : IsSettled file
  pub size_is : file.size ≡ size
  pub zeros : (k : ℕ) → k < size → file.stable k ≡ zero_sector

-- of a domain that isn't listed the pool has no leases, boxes and images
pub record IsBare (d : Content) (p : Pool) (sd : Id) : Type 0 where
  pub sector : (k : ℕ) → p.sector sd k ≡ Empty
  pub box : (side : Side) (h : ℕ) → p.box side sd h ≡ empty_box
  pub image : (i : Id) → p.image sd i ≡ None
  pub shown : p.shows sd ≡ true → ShowsImage d sd
  pub hidden : p.shows sd ≡ false → ShowsImage d sd → ⊥

-- One whose text is there isn't a master. Its leases and boxes are zeros, and it has no image's folder.
pub record StrayStands (d : Content) (p : Pool) (sd : Id) (t : Result DomainRecord DomainFault) : Type 0 where
  pub text : HasDomainText d sd t
  pub role : (r : DomainRecord) → t ≡ Ok r → r.role ≡ Regular
  pub leases : IsZeroFile lease_sectors (file_in sd name.Leases d)
  pub inboxes : IsZeroFile box_sectors (file_in sd name.Inbox d)
  pub outboxes : IsZeroFile box_sectors (file_in sd name.Outbox d)
  pub none : p.shows sd ≡ false
  pub bare : IsBare d p sd

-- Of any other one nothing else is said.
pub record AbsentStands (d : Content) (p : Pool) (sd : Id) : Type 0 where
  pub text : d.file (metadata_of sd) ≡ None
  pub bare : IsBare d p sd

abbrev pub DomainStands : Hosts → Content → Pool → Id → Option DomainRecord → Option (Result DomainRecord DomainFault) → Type 0
DomainStands up d p sd (Some r) stray = ListedStands up d p sd r
DomainStands up d p sd None (Some t) = StrayStands d p sd t
DomainStands up d p sd None None = AbsentStands d p sd

-- ---- the master

-- The master lists itself and the others, and is the only master.
pub record MasterLists (p : Pool) (m : Id) : Type 0 where
  pub is : DomainRecord
  pub listed : p.domain m ≡ Some is
  pub role : is.role ≡ Master
  pub lists : (sd : Id) → Contains is.domains sd ↔ ((r : DomainRecord) × (p.domain sd ≡ Some r))
  pub others : (sd : Id) (r : DomainRecord) → sd ≢ m → p.domain sd ≡ Some r → r.role ≡ Regular

-- without one there is no domain with a text
pub record IsUnmade (p : Pool) : Type 0 where
  pub domain : (sd : Id) → p.domain sd ≡ None
  pub stray : (sd : Id) → p.stray sd ≡ None

abbrev pub MasterStands : Pool → Option Id → Type 0
MasterStands p None = IsUnmade p
MasterStands p (Some m) = MasterLists p m

-- ---- tasks

-- a task's text is there, and is the task's
pub record HasTask (d : Content) (sd t : Id) (x : Task) : Type 0 where
  pub text : List ℕ
  pub stored : HasStored d (place_in (dir.Tasks sd) (name.Task t)) text
  pub short : length text ≤ longest
  pub reads : task_of t text ≡ Some x

abbrev pub TaskAt : Content → Id → Id → Option Task → Type 0
TaskAt d sd t None = d.file (place_in (dir.Tasks sd) (name.Task t)) ≡ None
TaskAt d sd t (Some x) = HasTask d sd t x

-- The tasks of the master, at most 128, of which one at most is open, of a verb that is built. No other domain has one.
pub record TasksStand (d : Content) (p : Pool) : Type 0 where
  pub each : (m t : Id) → p.master ≡ Some m → TaskAt d m t (p.task t)
  pub elsewhere : (sd t : Id) → p.master ≢ Some sd → d.file (place_in (dir.Tasks sd) (name.Task t)) ≡ None
  pub unmade : p.master ≡ None → (t : Id) → p.task t ≡ None
  pub listed : List (Id × TaskState)
  pub are : AreTasks p listed
  pub few : length listed ≤ 128
  pub one : (t u : Id) (x y : Task) → IsOpen p t x → IsOpen p u y → t ≡ u
  pub built : (t : Id) (x : Task) → IsOpen p t x → IsBuiltOpen x.verb x.steps
  pub inside : (sd i : Id) → IsMaking p sd i → (r : DomainRecord) × (p.domain sd ≡ Some r)

-- ---- images of a listed domain

-- nothing stands for the image
pub record IsGone (d : Content) (p : Pool) (sd i : Id) : Type 0 where
  pub image : p.image sd i ≡ None
  pub folder : d.dir (dir.Image sd i) ≡ false
  pub removed : d.dir (dir.Removed sd i) ≡ false

-- a name of the volume of zeros
abbrev pub HasZeroName : Name → Type 0
HasZeroName (name.Volume v) = v ≡ zero_id
HasZeroName (name.Meta v) = v ≡ zero_id
HasZeroName (name.MetaNew v) = v ≡ zero_id
HasZeroName (name.MetaVolatile v) = v ≡ zero_id
HasZeroName (name.VolumeLease v) = v ≡ zero_id
HasZeroName _ = ⊥

-- A write runs or was cut only under the lease of a guest that is up.
abbrev pub IsTornBy : Hosts → Pool → Id → Id → Option Torn → Type 0
IsTornBy up p sd i None = Unit {0}
IsTornBy up p sd i (Some t) = (h : ℕ) × IsGuest p sd i h × (is_up up h ≡ true)

-- The image's folder is there, and its files mean the pool's image. Each volume's file has its text, and none has the name of
-- zeros.
pub record IsThere (up : Hosts) (d : Content) (p : Pool) (sd : Id) (version : ℕ) (i : Id) (m : Image) : Type 0 where
  pub image : p.image sd i ≡ Some m
  pub folder : d.dir (dir.Image sd i) ≡ true
  pub removed : d.dir (dir.Removed sd i) ≡ false
  pub means : FolderMeans (record { domain = sd; id = i; version = version }) m (folder_of (dir.Image sd i) d)
  pub texts : (v : Id) (f : File) → folder_of (dir.Image sd i) d (name.Volume v) ≡ Some f
      → (g : File) × (folder_of (dir.Image sd i) d (name.Meta v) ≡ Some g)
  pub zeros : (n : Name) (f : File) → HasZeroName n → folder_of (dir.Image sd i) d n ≡ Some f → ⊥
  pub torn : IsTornBy up p sd i m.torn

-- Of an image that an open task makes or removes only the sector is compared: it is held for a task, or there is none.
pub record ImageStands (up : Hosts) (d : Content) (p : Pool) (sd : Id) (version : ℕ) (i : Id) : Type 0 where
  pub gone : IsUnnamed p sd i → IsGone d p sd i
  pub there : IsNamed p sd i → (IsMaking p sd i → ⊥) → (m : Image) × IsThere up d p sd version i m
  pub making : IsMaking p sd i → (k : ℕ) (r : LeaseRecord) → NamesAt p sd i k r → r.kind ≡ kind.Task
  pub held : (n : Name) (f : File) → IsVolumeName n
      → (d.file (place_in (dir.Image sd i) n) ≡ Some f) ⊎ (d.file (place_in (dir.Removed sd i) n) ≡ Some f) → IsHeldFile p sd i f

-- ---- boxes and images together

-- slot k, of 0 to 62, of a box whose sectors are these
abbrev pub slot_bytes : (ℕ → List ℕ) → ℕ → List ℕ
slot_bytes sector k = take 64 (drop (64 * (k % 8)) (sector (k / 8)))

-- No request waits for a longer file of a volume whose layer is refused, since the longer file might be sound.
pub record IsUnasked (p : Pool) (sd i : Id) : Type 0 where
  pub none : (m : Image) (v : Id) (fault : LayerFault) → (IsMaking p sd i → ⊥) → p.image sd i ≡ Some m → m.fault ≡ Some (LayerRefused v fault)
      → (h k : ℕ) (sector : ℕ → List ℕ) (asked : Message) → k < 63 → ((j : ℕ) → j < 8 → MayHold (p.box inbox sd h) j (sector j))
      → message_of (slot_bytes sector k) ≡ Some asked → asked.image ≡ i → asked.volume ≢ v

-- ---- the whole

pub record Stands (up : Hosts) (d : Content) (p : Pool) : Type 0 where
  pub master : MasterStands p p.master
  pub domain : (sd : Id) → DomainStands up d p sd (p.domain sd) (p.stray sd)
  pub tasks : TasksStand d p
  pub image : (sd : Id) (r : DomainRecord) → p.domain sd ≡ Some r → (i : Id) → ImageStands up d p sd r.version i
  pub unasked : (sd : Id) (r : DomainRecord) → p.domain sd ≡ Some r → (i : Id) → IsUnasked p sd i
  pub alive : (q : Place) (f : File) → d.file q ≡ Some f → IsAlive up f
  -- files stand only where the layout has them, so that a folder is empty once its listed names are gone
  pub layout : (q : Place) (f : File) → d.file q ≡ Some f → HoldsName q.dir q.name
