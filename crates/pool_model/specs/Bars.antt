-- The begin of a verb: what is decided before it, without a call of the disk.
-- Claim: the first check that holds is the reply, and nothing has changed; else the verb runs.
use Rattle.std.specs.Prelude.{◌≡◌, ◌≢◌, ◌⊎◌, ℕ, ◌+◌, ◌-◌, ◌^◌, ◌%◌, ◌<◌, ◌≤◌, min, nat_lt, if◌then◌else◌, List, [], ◌∷◌, length, Contains, Some, None, Result, Ok, Err}
use Rattle.sd_names.specs.UpSet.{Hosts, IsLeastBut}
use Rattle.sd_names.specs.declared.id.Id.{Id}
use Rattle.sd_names.specs.declared.refusal.Refusal.{Refusal}
use Rattle.sd_names.specs.declared.refusal.Refusal.TheVariants.{BadCapacity, ImageBroken, ImageNotOpen, ImageOpen, MergeRunning, NoDomain, NoTask, NotSpm, OthersUp, OutOfMemory, OutOfRange, SpmHeld, TaskExists, TaskOpen, TasksFull, TooManyOpen, Unaligned}
use Rattle.sd_names.specs.declared.task_state.TaskState.{TaskState}
use Rattle.task_store.specs.Values.{IsCapacity}
use Rattle.task_store.specs.declared.task.Task.{Task}
use Rattle.volume_meta.specs.declared.record.VolumeRecord.{VolumeRecord}
use Rattle.pool_model.specs.Kept.{IsKept}
use Rattle.pool_model.specs.Marks.{HasMarks, Mark}
use Rattle.pool_model.specs.Pool.{Image, Pool, Volume}
use Rattle.pool_model.specs.Reading.{ReadsAs}
use Rattle.pool_model.specs.Role.{Manager, Role, leads, outside}
use Rattle.pool_model.specs.State.{HostState, Kept, OpenAt, Opened, Phase, SameOpen, copied, filling, none, places, prepared, synced, HasOpen}
use Rattle.pool_model.specs.Tasks.{AreTasks}
use Rattle.pool_model.specs.Verb.{IsBuilt, TakesMemory, Verb}
use Rattle.pool_model.specs.Verb as verb

-- What a begin decides, with the number of its refusal.
pub data Bar : Type 0 where
  alone : Bar  -- 25
  not_leading : Bar  -- 41
  leading : Bar  -- 40
  none_begun : Bar  -- 101
  new_task_id : (task : Id) → Bar  -- 102
  few_tasks : Bar  -- 103
  listed : (sd : Id) → Bar  -- 32
  capacity : (asked : ℕ) → Bar  -- 69
  not_open : (sd image : Id) → Bar  -- 55
  few_open : Bar  -- 56
  is_opened : (sd image : Id) → Bar  -- 53
  unbroken : (sd image : Id) → Bar  -- 121
  aligned : (at count : ℕ) → Bar  -- 72
  inside : (sd image : Id) (at count : ℕ) → Bar  -- 70
  no_merge : (sd image : Id) → Bar  -- 91
  has_task : (task : Id) → Bar  -- 100

-- the greatest capacity, 1 TiB, and the end of the numbers of 64 bits
abbrev pub most_capacity : ℕ
most_capacity = 2 ^ 40

abbrev pub last_number : ℕ
last_number = 2 ^ 64 - 1

-- the base of a cold merge, which a guest's write waits for
abbrev pub MergesCold : Phase → Id → Type 0
MergesCold (prepared base top) v = v ≡ base
MergesCold (copied base top) v = v ≡ base
MergesCold none v = ⊥
MergesCold (filling base top front end) v = ⊥
MergesCold (synced base top) v = ⊥

abbrev pub IsLeading : Role → Type 0
IsLeading outside = ⊥
IsLeading (leads m) = Unit {0}

-- the refusal of a check before the begin, for this host in this pool
abbrev pub Bars : ℕ → Hosts → HostState → Bar → Refusal → Pool → Type 0
Bars h up x alone e p = (g : ℕ) × IsLeastBut up h g × (e ≡ OthersUp g)
Bars h up x not_leading e p = (m : Manager) × (x.role ≡ leads m) × (e ≡ SpmHeld h m.version)
Bars h up x leading e p = (x.role ≡ outside) × (e ≡ NotSpm)
Bars h up x none_begun e p = (m : Manager) × ((t : Id) × (x.role ≡ leads m) × (m.begun ≡ Some t) × (e ≡ TaskOpen t))
Bars h up x (new_task_id t) e p = (y : Task) × (p.task t ≡ Some y) × (e ≡ TaskExists t)
Bars h up x few_tasks e p = (ts : List (Id × TaskState)) × AreTasks p ts × (128 ≤ length ts) × (e ≡ TasksFull)
Bars h up x (listed sd) e p = (p.domain sd ≡ None) × (e ≡ NoDomain)
Bars h up x (capacity asked) e p = (IsCapacity asked → ⊥) × (e ≡ BadCapacity asked (if nat_lt most_capacity asked then most_capacity else 512))
Bars h up x (not_open sd i) e p = HasOpen x sd i × (e ≡ ImageOpen)
Bars h up x few_open e p = ((s : ℕ) → s < places → x.opened s ≢ None) × (e ≡ TooManyOpen)
Bars h up x (is_opened sd i) e p = (HasOpen x sd i → ⊥) × (e ≡ ImageNotOpen)
Bars h up x (unbroken sd i) e p = (s : ℕ) × ((o : Opened) × ((n : ℕ) × OpenAt x sd i s o × (o.broken ≡ Some n) × (e ≡ ImageBroken n)))
Bars h up x (aligned at count) e p = ((at % 512 ≢ 0) ⊎ (count % 512 ≢ 0)) × (e ≡ Unaligned at count)
Bars h up x (inside sd i at count) e p =
    (m : Image) × ((v : Id) × ((w : Volume) × ((y : VolumeRecord) × (p.image sd i ≡ Some m) × ReadsAs m v w y × (y.capacity < at + count)
    × (e ≡ OutOfRange (min (at + count) last_number) y.capacity))))
Bars h up x (no_merge sd i) e p = (s : ℕ) × ((o : Opened) × ((v : Id) × OpenAt x sd i s o × MergesCold o.phase v × (e ≡ MergeRunning v)))
Bars h up x (has_task t) e p = (p.task t ≡ None) × (e ≡ NoTask)

-- what a verb of the manager with a task asks first
abbrev pub task_bars : Id → Id → List Bar → List Bar
task_bars t sd bars = leading ∷ none_begun ∷ new_task_id t ∷ few_tasks ∷ listed sd ∷ bars

-- The checks of each verb, in order. The verbs that aren't built have none, since they don't begin.
abbrev pub bars_of : Verb → List Bar
bars_of (verb.make_pool pool sd version text) = alone ∷ []
bars_of (verb.spm_start sd prev lver) = not_leading ∷ []
bars_of verb.spm_stop = leading ∷ none_begun ∷ []
bars_of (verb.create t sd i v format kind asked text) = task_bars t sd (capacity asked ∷ [])
bars_of (verb.delete_image t sd i) = task_bars t sd (not_open sd i ∷ [])
bars_of (verb.open_image sd i) = not_open sd i ∷ few_open ∷ []
bars_of (verb.close_image sd i) = is_opened sd i ∷ []
bars_of (verb.read sd i at count) = is_opened sd i ∷ unbroken sd i ∷ aligned at count ∷ inside sd i at count ∷ []
bars_of (verb.write sd i at bytes) =
    is_opened sd i ∷ unbroken sd i ∷ aligned at (length bytes) ∷ inside sd i at (length bytes) ∷ no_merge sd i ∷ []
bars_of verb.tasks = leading ∷ []
bars_of (verb.clear_task t) = leading ∷ none_begun ∷ has_task t ∷ []
bars_of verb.recover = leading ∷ []
bars_of _ = []

-- the first check that holds
abbrev pub FirstBar : ℕ → Hosts → HostState → List Bar → Refusal → Pool → Type 0
FirstBar h up x [] e p = ⊥
FirstBar h up x (b ∷ bs) e p = Bars h up x b e p ⊎ (((other : Refusal) → Bars h up x b other p → ⊥) × FirstBar h up x bs e p)

-- none holds
abbrev pub NoBar : ℕ → Hosts → HostState → List Bar → Pool → Type 0
NoBar h up x bs p = (b : Bar) → Contains bs b → (e : Refusal) → Bars h up x b e p → ⊥

-- the host once it has begun a verb: a task that it begins is its open one from now on
abbrev pub begun_by : Verb → Manager → Manager
begun_by (verb.create t sd i v format kind asked text) m = record m { begun = Some t }
begun_by (verb.delete_image t sd i) m = record m { begun = Some t }
begun_by _ m = m

abbrev pub role_begun : Verb → Role → Role
role_begun v outside = outside
role_begun v (leads m) = leads (begun_by v m)

-- a verb runs, none of whose marks has come to pass
pub record IsBegun (h moment : ℕ) (v : Verb) (x : HostState) (p : Pool) (y : HostState) : Type 0 where
  pub marks : List Mark
  pub kept : Kept
  pub have : HasMarks moment x.role v marks
  pub keeps : IsKept h p kept
  pub running : y.running ≡ Some (record { verb = v; marks = marks; tally = 0; steps = 0; kept = kept })
  pub role : y.role ≡ role_begun v x.role
  pub opened : SameOpen x y

-- The begin of a verb by a host that runs none: it runs, or is refused and nothing has changed. The pool is as it was.
abbrev pub Begins : ℕ → Hosts → ℕ → Verb → HostState → Pool → Result (Unit {0}) Refusal → HostState → Type 0
Begins h up moment v x p (Ok _) y = IsBuilt v × NoBar h up x (bars_of v) p × IsBegun h moment v x p y
Begins h up moment v x p (Err OutOfMemory) y = IsBuilt v × NoBar h up x (bars_of v) p × TakesMemory v × (y ≡ x)
Begins h up moment v x p (Err e) y = IsBuilt v × FirstBar h up x (bars_of v) e p × (y ≡ x)
