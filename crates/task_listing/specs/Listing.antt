-- Listing the tasks of a pool: what is known on the way, and what each step leaves.
-- Claim: at its end the list is that of the pool, in order, with the open task.
use Rattle.std.specs.Prelude.{◌≡◌, ◌≢◌, ◌⊎◌, ℕ, List, [], ◌∷◌, ◌++◌, Contains, Option, Some, None}
use Rattle.std.specs.List.Sorted.{IsStrictlySortedBy}
use Rattle.std.specs.declared.cmp.Ordering.TheVariants.{Less}
use Rattle.sd_names.specs.Place.{NameHasIds}
use Rattle.sd_names.specs.Turn.{MatchTurn}
use Rattle.sd_names.specs.UpSet.{Hosts}
use Rattle.sd_names.specs.declared.id.Id.{Id}
use Rattle.sd_names.specs.declared.place.Dir.TheVariants as dir
use Rattle.sd_names.specs.declared.place.Name.{Name}
use Rattle.sd_names.specs.declared.place.Name.TheVariants as name
use Rattle.sd_names.specs.declared.refusal.Refusal.{Refusal}
use Rattle.sd_names.specs.declared.refusal.Refusal.TheVariants.{DiskFault, OutOfMemory}
use Rattle.sd_names.specs.declared.task_state.TaskState.{TaskState}
use Rattle.sd_names.specs.declared.task_state.TaskState.TheVariants as state
use Rattle.sd_names.specs.declared.turn.Turn.{Turn}
use Rattle.shared_disk.specs.Calls.{IsSame}
use Rattle.shared_disk.specs.Content.{Content}
use Rattle.shared_disk.specs.NameCalls.{IsNameAbove, ShowsName}
use Rattle.shared_disk.specs.Step.{IsDiskRefusal}
use Rattle.task_files.specs.Read.{IsReadRefusal}
use Rattle.task_store.specs.declared.task.Task.{Task}
use Rattle.chain_model.specs.Opening.{id_cmp}
use Rattle.pool_model.specs.Pool.{Pool}
use Rattle.pool_model.specs.Standing.{Stands}
use Rattle.pool_model.specs.Tasks.{AreTasks, IsOpen, NoneOpen}
use Rattle.task_listing.specs.declared.listing.ListedTasks.{ListedTasks}
use Rattle.task_listing.specs.declared.listing.Stage.{Stage}
use Rattle.task_listing.specs.declared.listing.Stage.TheVariants.{Asking, Reading}
use Rattle.task_listing.specs.declared.listing.TaskListing.{TaskListing}

abbrev pub Noted : Type 0
Noted = Id × TaskState

abbrev pub ListingTurn : Type 0
ListingTurn = Turn TaskListing ListedTasks (Unit {0})

abbrev pub domain_of : TaskListing → Id
domain_of l = l.sd

abbrev pub stage_of : TaskListing → Stage
stage_of l = l.stage

abbrev pub tasks_of : TaskListing → List Noted
tasks_of l = l.tasks

abbrev pub open_of : TaskListing → Option Task
open_of l = l.open_task

-- ---- the stepper

pub record IsBegun (sd : Id) (l : TaskListing) : Type 0 where
  pub domain : domain_of l ≡ sd
  pub stage : stage_of l ≡ Asking None
  pub tasks : tasks_of l ≡ []
  pub none : open_of l ≡ None

-- the same listing in another stage
pub record IsAt (l : TaskListing) (stage : Stage) (next : TaskListing) : Type 0 where
  pub domain : domain_of next ≡ domain_of l
  pub now_in : stage_of next ≡ stage
  pub tasks : tasks_of next ≡ tasks_of l
  pub same_open : open_of next ≡ open_of l

abbrev pub stage_for : Name → Stage
stage_for (name.Task t) = Reading t
stage_for n = Asking (Some n)

-- the open task, once one was found
abbrev pub noted_by : TaskState → Task → Option Task → Option Task
noted_by state.Open x o = Some x
noted_by state.Done x o = o
noted_by state.Undone x o = o

abbrev pub noted : Task → Option Task → Option Task
noted x o = noted_by x.state x o

-- the same listing, with one task more
pub record IsNoted (l : TaskListing) (t : Id) (x : Task) (next : TaskListing) : Type 0 where
  pub domain : domain_of next ≡ domain_of l
  pub now_in : stage_of next ≡ Asking (Some (name.Task t))
  pub tasks : tasks_of next ≡ tasks_of l ++ (t, x.state) ∷ []
  pub now_open : open_of next ≡ noted x (open_of l)

abbrev pub HasNoted : TaskListing → Id → Task → ListingTurn → Type 0
HasNoted l t x turn = MatchTurn turn (IsNoted l t x) (λ _. ⊥) (λ _ refusal. refusal ≡ OutOfMemory)

-- ---- on every disk

-- While names are asked for, a refusal is the disk's; while a task's file is read, it is of that task's text too, or for want of memory.
abbrev pub MayRefuse : Stage → Refusal → Type 0
MayRefuse (Asking after) refusal = IsDiskRefusal refusal
MayRefuse (Reading t) refusal = IsReadRefusal t refusal

-- the name is no task's
abbrev pub IsNoTask : Name → Type 0
IsNoTask (name.Task t) = ⊥
IsNoTask n = Unit {0}

-- the names rise: of each name that is met a task's is read, and the next one is above it
abbrev pub IsNext : Stage → Stage → Type 0
IsNext (Asking after) (Asking None) = ⊥
IsNext (Asking after) (Asking (Some n)) = IsNameAbove after n × IsNoTask n
IsNext (Asking after) (Reading t) = IsNameAbove after (name.Task t)
IsNext (Reading t) (Asking after) = after ≡ Some (name.Task t)
IsNext (Reading t) (Reading u) = ⊥

abbrev pub Rises : Stage → ListingTurn → Type 0
Rises stage turn = MatchTurn turn (λ next. IsNext stage (stage_of next)) (λ _. Unit {0}) (λ _ _. Unit {0})

-- ---- on a disk that stands for a pool

-- The identifiers of the names in the folder have sixteen bytes, as all of a program have.
abbrev pub HaveIds : Id → Content → Type 0
HaveIds sd d = (n : Name) → ShowsName d (dir.Tasks sd) n → NameHasIds n

-- the task is still to come
abbrev pub IsToCome : Stage → Id → Type 0
IsToCome (Asking after) t = IsNameAbove after (name.Task t)
IsToCome (Reading u) t = (t ≡ u) ⊎ IsNameAbove (Some (name.Task u)) (name.Task t)

-- the open task is kept, or none of those that are listed is open
abbrev pub KnowsOpen : List Noted → Option Task → Pool → Type 0
KnowsOpen ts None p = (t : Id) (s : TaskState) → Contains ts (t, s) → s ≢ state.Open
KnowsOpen ts (Some x) p = IsOpen p x.id x

-- The tasks that are listed are the pool's, in order, and all others are still to come.
pub record HasListed (stage : Stage) (ts : List Noted) (kept : Option Task) (p : Pool) : Type 0 where
  pub order : IsStrictlySortedBy (λ (a b : Noted). id_cmp a.0 b.0) ts
  pub each : (t : Id) (s : TaskState) → Contains ts (t, s) → (x : Task) × (p.task t ≡ Some x) × (x.state ≡ s)
  pub all : (t : Id) (x : Task) → p.task t ≡ Some x → Contains ts (t, x.state) ⊎ IsToCome stage t
  pub below : (t u : Id) (s : TaskState) (x : Task) → Contains ts (t, s) → p.task u ≡ Some x → IsToCome stage u → id_cmp t u ≡ Less
  pub opened : KnowsOpen ts kept p

pub record KnowsListing (l : TaskListing) (p : Pool) : Type 0 where
  pub master : p.master ≡ Some (domain_of l)
  pub listed : HasListed (stage_of l) (tasks_of l) (open_of l) p

-- at its end: the pool's tasks, and the open one
abbrev pub IsOpenOne : Option Task → Pool → Type 0
IsOpenOne None p = NoneOpen p
IsOpenOne (Some x) p = IsOpen p x.id x

abbrev pub HasAll : List Noted → Option Task → Pool → Type 0
HasAll ts kept p = AreTasks p ts × IsOpenOne kept p

abbrev pub After : ℕ → ListingTurn → Pool → Type 0
After faults turn p =
    MatchTurn turn (λ next. KnowsListing next p) (λ l. HasAll l.tasks l.open_task p) (λ _ refusal. (refusal ≡ OutOfMemory) ⊎ (refusal ≡ DiskFault faults))

-- A step changes nothing. Where the disk stands for a pool of which the listing knows the truth, it does so afterwards.
abbrev pub Lists : TaskListing → ℕ → ℕ → ListingTurn → Content → Content → Type 0
Lists l host faults turn d e =
    IsSame d e × ((up : Hosts) (p : Pool) → Stands up d p → HaveIds (domain_of l) d → KnowsListing l p → After faults turn p)
