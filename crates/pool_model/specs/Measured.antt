-- The counts that a verb's bound goes by are those of the disk, as its host sees it, in the moment in which the verb took its
-- lease, or began where it takes none.
use Rattle.std.specs.Prelude.{◌≡◌, ◌⊎◌, ℕ, ◌||◌, Bool, true, false, List, [], ◌∷◌, length, Contains, Option, Some, None}
use Rattle.std.specs.List.{list_any, sum}
use Rattle.std.specs.Option.{option_map}
use Rattle.std.specs.List.Sorted.{IsStrictlySortedBy}
use Rattle.std.specs.Ordering.{ordering_then}
use Rattle.sd_names.specs.declared.id.Id.{Id}
use Rattle.sd_names.specs.declared.place.Dir.{Dir}
use Rattle.sd_names.specs.declared.place.Dir.TheVariants as dir
use Rattle.sd_names.specs.declared.place.Name.{Name}
use Rattle.sd_names.specs.declared.place.Name.TheVariants as name
use Rattle.shared_disk.specs.Content.{Content, File, seen}
use Rattle.shared_disk.specs.NameCalls.{place_in}
use Rattle.volume_meta.specs.declared.record.VolumeRecord.{VolumeRecord}
use Rattle.domain_meta.specs.declared.record.DomainRecord.{DomainRecord}
use Rattle.task_store.specs.declared.task.Task.{Task}
use Rattle.task_store.specs.declared.undo.Undo.{Undo}
use Rattle.task_store.specs.declared.undo.Undo.TheVariants as undo
use Rattle.chain_model.specs.Chain.{path_of}
use Rattle.chain_model.specs.Folder.{Volumes}
use Rattle.chain_model.specs.Opening.{AreVolumes, id_cmp}
use Rattle.chain_model.specs.Reading.{HasNoReading, IsReading}
use Rattle.chain_model.specs.Records.{Image as ImageIn, Records, records_of}
use Rattle.pool_model.specs.Leases.{IsTasked}
use Rattle.pool_model.specs.Most.{most_open}
use Rattle.pool_model.specs.Marks.{Mark, change, lead}
use Rattle.pool_model.specs.Pool.{Pool}
use Rattle.pool_model.specs.Sizes.{AreFolders, AreNames, HasNames, HasTables, Sizes, clusters_of}
use Rattle.pool_model.specs.State.{Running}
use Rattle.pool_model.specs.Tasks.{IsOpen, NoneOpen}
use Rattle.pool_model.specs.Turns.{is_take}
use Rattle.pool_model.specs.Verb.{Verb}
use Rattle.pool_model.specs.Verb as verb

-- ---- an image as a host sees it

abbrev pub seen_file : ℕ → File → File
seen_file h f = record { size = f.size; stable = seen h f; loose = []; fresh = None }

abbrev pub seen_volumes : ℕ → Content → Id → Id → Volumes
seen_volumes h d sd i = record {
  text = λ v. option_map (seen_file h) (d.file (place_in (dir.Image sd i) (name.Meta v)));
  file = λ v. option_map (seen_file h) (d.file (place_in (dir.Image sd i) (name.Volume v)));
}

-- the sectors of one volume's tables, none where there is no record or no file
abbrev pub TablesAt : Option VolumeRecord → Option File → ℕ → Type 0
TablesAt (Some y) (Some f) n = HasTables y.format y f n
TablesAt _ file n = n ≡ 0

-- and of several, one after the other
abbrev pub TablesOf : Records → Volumes → List Id → List ℕ → Type 0
TablesOf r x [] ns = ns ≡ []
TablesOf r x (v ∷ vs) [] = ⊥
TablesOf r x (v ∷ vs) (n ∷ ns) = TablesAt (r v) (x.file v) n × TablesOf r x vs ns

abbrev pub clusters_at : Option VolumeRecord → Option File → Option ℕ
clusters_at (Some y) (Some f) = clusters_of y.format y f
clusters_at _ file = None

abbrev pub clusters_along : Records → Volumes → List Id → List (Option ℕ)
clusters_along r x [] = []
clusters_along r x (v ∷ vs) = clusters_at (r v) (x.file v) ∷ clusters_along r x vs

-- the path of the reading volume, where there is one
abbrev pub HasPath : Records → Volumes → List (Option ℕ) → Type 0
HasPath r x path =
    ((v : Id) × ((vs : List Id) × IsReading r v vs × (path ≡ clusters_along r x (path_of r v vs)))) ⊎ (HasNoReading r × (path ≡ []))

pub record MeasuresImage (h : ℕ) (d : Content) (i : ImageIn) (s : Sizes) : Type 0 where
  pub names : HasNames d i.domain i.id s.names
  pub all : List Id
  pub are : AreVolumes (seen_volumes h d i.domain i.id) all
  pub volumes : s.volumes ≡ length all
  pub each : List ℕ
  pub tables_of : TablesOf (records_of i (seen_volumes h d i.domain i.id)) (seen_volumes h d i.domain i.id) all each
  pub tables : s.tables ≡ sum each
  pub path : HasPath (records_of i (seen_volumes h d i.domain i.id)) (seen_volumes h d i.domain i.id) s.path

-- the bound of an opening of an image
abbrev pub ImageTakes : ℕ → Content → Pool → Id → Id → ℕ → Type 0
ImageTakes h d p sd i n =
    (s : Sizes) × ((r : DomainRecord) × (p.domain sd ≡ Some r) × MeasuresImage h d (record { domain = sd; id = i; version = r.version }) s × (n ≡ most_open s))

-- ---- the pool

abbrev pub HasFoldersCount : Content → ℕ → Type 0
HasFoldersCount d n = (qs : List Dir) × AreFolders d dir.Root qs × (n ≡ length qs)

-- the names in the tasks folder of the master, none where there is no pool
abbrev pub HasTaskNames : Content → Option Id → ℕ → Type 0
HasTaskNames d None n = n ≡ 0
HasTaskNames d (Some m) n = (ns : List Name) × AreNames d (dir.Tasks m) ns × (n ≡ length ns)

abbrev pub HasDomains : Pool → Option Id → ℕ → Type 0
HasDomains p None n = n ≡ 0
HasDomains p (Some m) n = (r : DomainRecord) × (p.domain m ≡ Some r) × (n ≡ length r.domains)

pub record MeasuresPool (d : Content) (p : Pool) (s : Sizes) : Type 0 where
  pub tasks : HasTaskNames d p.master s.tasks
  pub domains : HasDomains p p.master s.domains

-- the images that a task holds, each once, and the names in their folders
pub record AreHeld (p : Pool) (is : List (Id × Id)) : Type 0 where
  pub rising : IsStrictlySortedBy (λ (a b : Id × Id). ordering_then (id_cmp a.0 b.0) (id_cmp a.1 b.1)) is
  pub each : (sd i : Id) → Contains is (sd, i) → IsTasked p sd i
  pub all : (sd i : Id) → IsTasked p sd i → Contains is (sd, i)

abbrev pub NamesOf : Content → List (Id × Id) → List ℕ → Type 0
NamesOf d [] ns = ns ≡ []
NamesOf d (i ∷ is) [] = ⊥
NamesOf d (i ∷ is) (n ∷ ns) = HasNames d i.0 i.1 n × NamesOf d is ns

-- what a step of an open task may take beside its own calls: an opening of its image, and zeros, of which a removal has none
abbrev pub StepTakes : ℕ → Content → Pool → Undo → ℕ → Type 0
StepTakes h d p (undo.RemoveImage sd i) n = ImageTakes h d p sd i n
StepTakes h d p (undo.FinishRemove sd i) n = ImageTakes h d p sd i n
StepTakes h d p _ n = ⊥

abbrev pub StepsTake : ℕ → Content → Pool → List Undo → List ℕ → Type 0
StepsTake h d p [] ns = ns ≡ []
StepsTake h d p (step ∷ steps) [] = ⊥
StepsTake h d p (step ∷ steps) (n ∷ ns) = StepTakes h d p step n × StepsTake h d p steps ns

abbrev pub OpenTakes : ℕ → Content → Pool → List ℕ → Type 0
OpenTakes h d p ns = ((t : Id) × ((x : Task) × IsOpen p t x × StepsTake h d p x.steps ns)) ⊎ (NoneOpen p × (ns ≡ []))

-- what recovery counts
pub record MeasuresRecovery (h : ℕ) (d : Content) (p : Pool) (s : Sizes) : Type 0 where
  pub pool : MeasuresPool d p s
  pub images : List (Id × Id)
  pub are : AreHeld p images
  pub held : NamesOf d images s.held
  pub steps : OpenTakes h d p s.open_steps

-- what each verb counts
abbrev pub Measured : ℕ → Verb → Content → Pool → Sizes → Type 0
Measured h (verb.make_pool pool sd version text) d p s = HasFoldersCount d s.folders
Measured h (verb.spm_start sd prev lver) d p s = MeasuresRecovery h d p s
Measured h verb.spm_stop d p s = MeasuresPool d p s
Measured h (verb.create t sd i v format kind capacity text) d p s = Unit {0}
Measured h (verb.delete_image t sd i) d p s = HasNames d sd i s.names
Measured h (verb.open_image sd i) d p s =
    (r : DomainRecord) × (p.domain sd ≡ Some r) × MeasuresImage h d (record { domain = sd; id = i; version = r.version }) s
Measured h (verb.close_image sd i) d p s = HasNames d sd i s.names
Measured h (verb.read sd i at count) d p s =
    (r : DomainRecord) × (p.domain sd ≡ Some r) × MeasuresImage h d (record { domain = sd; id = i; version = r.version }) s
Measured h (verb.write sd i at bytes) d p s =
    (r : DomainRecord) × (p.domain sd ≡ Some r) × MeasuresImage h d (record { domain = sd; id = i; version = r.version }) s
Measured h verb.tasks d p s = MeasuresPool d p s
Measured h (verb.clear_task t) d p s = MeasuresPool d p s
Measured h verb.recover d p s = MeasuresRecovery h d p s
Measured h _ d p s = ⊥

-- ---- when it is counted

-- the verb takes its lease, or the role, where these marks were left before and those after
abbrev pub is_lead : Mark → Bool
is_lead (change (lead sd prev lver)) = true
is_lead _ = false

abbrev pub awaits_lease : List Mark → Bool
awaits_lease ns = list_any is_take ns || list_any is_lead ns

-- what is counted before the lease is taken: nothing, so that a verb can't run on without it
abbrev pub no_sizes : Sizes
no_sizes = record {
  names = 0;
  volumes = 0;
  tables = 0;
  path = [];
  folders = 0;
  domains = 0;
  tasks = 0;
  held = [];
  open_steps = [];
}

-- At a begin, where the verb waits for no lease; and in the step in which it takes the lease, on the disk after it.
abbrev pub MeasuredAtBegin : Bool → ℕ → Verb → Content → Pool → Sizes → Type 0
MeasuredAtBegin true h v d p s = s ≡ no_sizes
MeasuredAtBegin false h v d p s = Measured h v d p s

abbrev pub MeasuredInStep : Bool → Bool → ℕ → Verb → Content → Pool → Sizes → Sizes → Type 0
MeasuredInStep true false h v d p before after = Measured h v d p after
MeasuredInStep _ _ h v d p before after = after ≡ before

abbrev pub BeginsMeasured : ℕ → Running → Content → Pool → Type 0
BeginsMeasured h run d p = MeasuredAtBegin (awaits_lease run.marks) h run.verb d p run.kept.sizes

abbrev pub StepsMeasured : ℕ → Running → Running → Content → Pool → Type 0
StepsMeasured h run next d p =
    MeasuredInStep (awaits_lease run.marks) (awaits_lease next.marks) h run.verb d p run.kept.sizes next.kept.sizes
