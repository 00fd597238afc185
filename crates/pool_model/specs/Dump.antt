-- The dump: what host 1 sees of all domains, as JSON. It prints a text's own parent and its place in the chain, which the pool
-- doesn't have.
-- Claim: `dump` prints this value of the disk, and changes nothing.
use Rattle.std.specs.Prelude.{◌≡◌, ◌≢◌, ◌⊎◌, ℕ, ◌<◌, ◌==◌, ◌||◌, nat_le, Bool, true, false, if◌then◌else◌, List, [], ◌∷◌, codes, length, Contains, Option, Some, None, Result, Ok, Err}
use Rattle.std.specs.List.Sorted.{IsStrictlySortedBy}
use Rattle.std.specs.declared.cmp.Ordering.TheVariants.{Less}
use Rattle.serde_json.specs.Data.{Data, Items, array, boolean, item, member, no_items, no_members, null, number, object, string, unsigned}
use Rattle.sd_names.specs.Id.{id_text}
use Rattle.sd_names.specs.declared.fault.DomainFault.{DomainFault}
use Rattle.sd_names.specs.declared.fault.VolumeFault.{VolumeFault}
use Rattle.sd_names.specs.declared.id.Id.{Id}
use Rattle.sd_names.specs.declared.kinds.Role.TheVariants.{Master}
use Rattle.sd_names.specs.declared.place.Dir.{Dir}
use Rattle.sd_names.specs.declared.place.Dir.TheVariants as dir
use Rattle.sd_names.specs.declared.place.Name.{Name}
use Rattle.sd_names.specs.declared.place.Name.TheVariants as name
use Rattle.sd_names.specs.declared.task_state.TaskState.{TaskState}
use Rattle.sd_names.specs.declared.task_state.TaskState.TheVariants as state
use Rattle.shared_disk.specs.Content.{Content, File, seen}
use Rattle.shared_disk.specs.NameCalls.{place_in}
use Rattle.whole_file.specs.Text.{longest, text_of}
use Rattle.volume_meta.specs.Read.{read_volume}
use Rattle.volume_meta.specs.Text.{format_text, legality_text, voltype_text}
use Rattle.volume_meta.specs.declared.record.VolumeRecord.{VolumeRecord}
use Rattle.domain_meta.specs.Read.{read_domain}
use Rattle.domain_meta.specs.Text.{role_text}
use Rattle.domain_meta.specs.declared.record.DomainRecord.{DomainRecord}
use Rattle.task_store.specs.ReadTask.{task_of}
use Rattle.task_store.specs.declared.task.Task.{Task}
use Rattle.lease_area.specs.Move.{owner_of, version_of}
use Rattle.lease_area.specs.Record.{IsImageSlot}
use Rattle.lease_area.specs.Sector.{sector_in}
use Rattle.lease_area.specs.declared.sector.Kind.{Kind}
use Rattle.lease_area.specs.declared.sector.Kind.TheVariants as kind
use Rattle.lease_area.specs.declared.sector.LeaseRecord.{LeaseRecord}
use Rattle.lease_area.specs.declared.sector.Sector.{Sector}
use Rattle.lease_area.specs.declared.sector.Sector.TheVariants.{Lease}
use Rattle.chain_model.specs.Opening.{id_cmp}

-- the host as which the disk is read
abbrev pub dumper : ℕ
dumper = 1

-- ---- values

abbrev pub id_data : Id → Data
id_data i = string (id_text i.0)

abbrev pub number_data : ℕ → Data
number_data n = number (unsigned n)

-- an array of values, one for each identifier of a list
abbrev pub items_of : List Data → Items
items_of [] = no_items
items_of (d ∷ ds) = item d (items_of ds)

-- the values of identifiers, one after the other
abbrev pub Each : (Id → Data → Type 0) → List Id → List Data → Type 0
Each Is [] ds = ds ≡ []
Each Is (i ∷ is) [] = ⊥
Each Is (i ∷ is) (d ∷ ds) = Is i d × Each Is is ds

-- exactly the identifiers with a property, in their order
pub record AreIds (Has : Id → Type 0) (is : List Id) : Type 0 where
  pub rising : IsStrictlySortedBy id_cmp is
  pub each : (i : Id) → Contains is i → Has i
  pub all : (i : Id) → Has i → Contains is i

-- the array of their values
abbrev pub IsArray : (Id → Type 0) → (Id → Data → Type 0) → Data → Type 0
IsArray Has Is value = (is : List Id) × ((ds : List Data) × AreIds Has is × Each Is is ds × (value ≡ array (items_of ds)))

-- ---- volumes

abbrev pub fault_data : ℕ → Id → Data
fault_data n i = object (member (codes "fault") (number_data n) (member (codes "id") (id_data i) no_members))

abbrev pub volume_data : Id → VolumeRecord → Data
volume_data v y = object
    (member (codes "capacity") (number_data y.capacity)
    (member (codes "format") (string (format_text y.format))
    (member (codes "generation") (number_data y.generation)
    (member (codes "id") (id_data v)
    (member (codes "legality") (string (legality_text y.legality))
    (member (codes "merged") (boolean y.merged)
    (member (codes "parent") (id_data y.parent)
    (member (codes "voltype") (string (voltype_text y.voltype)) no_members))))))))

abbrev pub volume_value : Id → Result VolumeRecord VolumeFault → Data
volume_value v (Ok y) = volume_data v y
volume_value v (Err fault) = fault_data 65 v

abbrev pub HasFile : Content → Dir → Name → Type 0
HasFile d q n = (f : File) × (d.file (place_in q n) ≡ Some f)

-- what a text file's bytes are to the dumper
abbrev pub ShowsText : Content → Dir → Name → List ℕ → Type 0
ShowsText d q n text = (f : File) × (d.file (place_in q n) ≡ Some f) × (text ≡ text_of dumper f)

abbrev pub IsVolumeValue : Content → Id → ℕ → Id → Id → Data → Type 0
IsVolumeValue d sd version i v value =
    (text : List ℕ) × ShowsText d (dir.Image sd i) (name.Meta v) text × (value ≡ volume_value v (read_volume version sd i text))

-- ---- images

-- sector k of the domain's leases as the dumper sees it
abbrev pub ShowsSector : Content → Id → ℕ → Option Sector → Type 0
ShowsSector d sd k s = (f : File) × (d.file (place_in (dir.DomMd sd) name.Leases) ≡ Some f) × (k < f.size) × (s ≡ sector_in (seen dumper f k))

-- the least sector that names the image
pub record IsLeastNaming (d : Content) (sd i : Id) (r : LeaseRecord) : Type 0 where
  pub at : ℕ
  pub slot : IsImageSlot at
  pub names : ShowsSector d sd at (Some (Lease r))
  pub image : r.image ≡ i
  pub least : (k : ℕ) (s : LeaseRecord) → IsImageSlot k → k < at → ShowsSector d sd k (Some (Lease s)) → s.image ≢ i

abbrev pub IsImageName : Content → Id → Id → Type 0
IsImageName d sd i = (r : LeaseRecord) × IsLeastNaming d sd i r

abbrev pub kind_word : Kind → List ℕ
kind_word kind.Free = codes "free"
kind_word kind.Guest = codes "guest"
kind_word kind.Task = codes "task"

abbrev pub image_data : Id → LeaseRecord → Data → Data
image_data i r volumes = object
    (member (codes "id") (id_data i)
    (member (codes "lease") (string (kind_word r.kind))
    (member (codes "owner") (number_data r.owner)
    (member (codes "volumes") volumes no_members))))

abbrev pub IsImageValue : Content → Id → ℕ → Id → Data → Type 0
IsImageValue d sd version i value =
    (r : LeaseRecord) × ((volumes : Data) × IsLeastNaming d sd i r
    × IsArray (λ v. HasFile d (dir.Image sd i) (name.Meta v)) (IsVolumeValue d sd version i) volumes × (value ≡ image_data i r volumes))

-- ---- domains

abbrev pub HasMetadata : Content → Id → Type 0
HasMetadata d sd = HasFile d (dir.DomMd sd) name.Metadata

abbrev pub domain_data : Id → DomainRecord → Data → Data
domain_data sd r images = object
    (member (codes "id") (id_data sd)
    (member (codes "images") images
    (member (codes "role") (string (role_text r.role))
    (member (codes "version") (number_data r.version) no_members))))

abbrev pub known_version : ℕ → Bool
known_version n = n == 4 || n == 5

abbrev pub IsDomainRead : Content → Id → Result DomainRecord DomainFault → Data → Type 0
IsDomainRead d sd (Err fault) value = value ≡ fault_data 34 sd
IsDomainRead d sd (Ok r) value =
    ((known_version r.version ≡ false) × (value ≡ fault_data 35 sd))
    ⊎ ((known_version r.version ≡ true) × ((images : Data) × IsArray (IsImageName d sd) (IsImageValue d sd r.version) images
    × (value ≡ domain_data sd r images)))

abbrev pub IsDomainValue : Content → Id → Data → Type 0
IsDomainValue d sd value = (text : List ℕ) × ShowsText d (dir.DomMd sd) name.Metadata text × IsDomainRead d sd (read_domain sd text) value

-- ---- the master

abbrev pub IsMaster : Content → Id → Type 0
IsMaster d m = (text : List ℕ) × ((r : DomainRecord) × ShowsText d (dir.DomMd m) name.Metadata text × (read_domain m text ≡ Ok r) × (r.role ≡ Master))

pub record IsLeastMaster (d : Content) (m : Id) : Type 0 where
  pub is : IsMaster d m
  pub least : (sd : Id) → IsMaster d sd → id_cmp sd m ≢ Less

abbrev pub spm_data : Sector → Data
spm_data s = object (member (codes "lver") (number_data (version_of s)) (member (codes "owner") (number_data (owner_of s)) no_members))

-- null where sector 0 isn't a lease sector, or isn't there
abbrev pub IsRoleValue : Content → Id → Data → Type 0
IsRoleValue d m value =
    ((s : Sector) × ShowsSector d m 0 (Some s) × (value ≡ spm_data s)) ⊎ (((s : Sector) → ShowsSector d m 0 (Some s) → ⊥) × (value ≡ null))

abbrev pub state_word : TaskState → List ℕ
state_word state.Open = codes "open"
state_word state.Done = codes "done"
state_word state.Undone = codes "undone"

abbrev pub task_word : Option Task → List ℕ
task_word (Some x) = state_word x.state
task_word None = codes "corrupt"

abbrev pub task_data : Id → List ℕ → Data
task_data t word = object (member (codes "id") (id_data t) (member (codes "state") (string word) no_members))

-- a text that is longer than a text of this store may be says no task
abbrev pub task_shown : Id → List ℕ → Option Task
task_shown t text = if nat_le (length text) longest then task_of t text else None

abbrev pub IsTaskValue : Content → Id → Id → Data → Type 0
IsTaskValue d m t value = (text : List ℕ) × ShowsText d (dir.Tasks m) (name.Task t) text × (value ≡ task_data t (task_word (task_shown t text)))

-- ---- the whole

abbrev pub dump_data : Data → Data → Data → Data
dump_data domains spm tasks =
    object (member (codes "domains") domains (member (codes "spm") spm (member (codes "tasks") tasks no_members)))

-- the role and the tasks are those of the least master
abbrev pub IsRoleAndTasks : Content → Data → Data → Type 0
IsRoleAndTasks d spm tasks =
    ((m : Id) × IsLeastMaster d m × IsRoleValue d m spm × IsArray (λ t. HasFile d (dir.Tasks m) (name.Task t)) (IsTaskValue d m) tasks)
    ⊎ (((m : Id) → IsMaster d m → ⊥) × (spm ≡ null) × (tasks ≡ array no_items))

abbrev pub DumpOf : Content → Data → Type 0
DumpOf d value =
    (domains : Data) × ((spm : Data) × ((tasks : Data) × IsArray (HasMetadata d) (IsDomainValue d) domains × IsRoleAndTasks d spm tasks
    × (value ≡ dump_data domains spm tasks)))
