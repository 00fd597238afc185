-- The step of `tasks`: the manager's list, and the file of a task in doubt, give the pool's tasks.
use Rattle.std.proofs.Common.{◌≡◌, ◌≢◌, ◌⊎◌, ℕ, List, [], Option, Some, None, Result, Ok, Err, refl, sym, ap, subst, ◌∙◌, inl, inr}
use Rattle.std.specs.Prelude.{Contains, IfOk}
use Rattle.sd_names.specs.UpSet.{Hosts}
use Rattle.sd_names.specs.declared.id.Id.{Id}
use Rattle.sd_names.specs.declared.refusal.Refusal.{Refusal}
use Rattle.sd_names.specs.declared.refusal.Refusal.TheVariants.{DiskFault, OutOfMemory, TaskCorrupt}
use Rattle.sd_names.specs.declared.task_state.TaskState.{TaskState}
use Rattle.sd_names.specs.declared.turn.NoMemory.{NoMemory}
use Rattle.sd_names.specs.declared.verb.Payload.TheVariants as payload
use Rattle.shared_disk.specs.Content.{Content, File}
use Rattle.task_store.specs.declared.task.Task.{Task}
use Rattle.task_files.specs.Read.{Finds, ReadsTask}
use Rattle.task_files.specs.TaskFile.{task_place}
use Rattle.chain_model.proofs.Settled.{is_one}
use Rattle.pool_model.specs.Knows.{KnowsLists}
use Rattle.pool_model.specs.Pool.{Pool}
use Rattle.pool_model.specs.Rules.{here}
use Rattle.pool_model.specs.Standing.{Stands, TaskAt}
use Rattle.pool_model.specs.State.{Kept, Opened, Running}
use Rattle.pool_model.specs.Tasks.{AreTasks}
use Rattle.pool_model.specs.Turns.{Answer, HostTurns, done, refused}
use Rattle.pool_model.specs.Verb as verb
use Rattle.pool_model.proofs.Kept.{standing_keeps}
use Rattle.pool_model.proofs.Roles.{nothing_changed, nothing_owned}
use Rattle.host_core.specs.Knows.{HostKnows}
use Rattle.host_core.specs.Listed.{IsAnswered, listed_with, state_found}
use Rattle.host_core.specs.Memory.{IsFit, Leader, Listed, Memory}
use Rattle.host_core.specs.State.{state_of}
use Rattle.host_core.specs.Steps.{HostSteps, Stepped, answer_of}
use Rattle.host_core.specs.declared.progress.Progress.{Progress}
use Rattle.host_core.specs.declared.work.Work.{Work}
use Rattle.host_core.specs.declared.work.Work.TheVariants as work
use Rattle.task_listing.proofs.Reading.{found_task, is_readable, no_file_no_task}
use Rattle.host_core.proofs.Listed.{with_all, with_each, with_it, with_rises}

nothing_open : (o : Opened) → ◌≡◌ {A = Option Opened} None (Some o) → ⊥
nothing_open o e = cc

none_is : (u : Id) → ◌≢◌ {A = Option Id} None (Some u)
none_is u e = cc

some_is : (t u : Id) → ◌≡◌ {A = Option Id} (Some t) (Some u) → t ≡ u
some_is t u e = cc

one_file : (o : Option File) (f g : File) → o ≡ Some f → o ≡ Some g → f ≡ g
one_file o f g e h = cc

none_file : (o : Option File) (f : File) → o ≡ None → o ≡ Some f → ⊥
none_file o f e h = cc

one_state : {A : Type 0} (o : Option A) (a b : A) → o ≡ Some a → o ≡ Some b → a ≡ b
one_state o a b e f = cc

some_none : {A : Type 0} (o : Option A) (a : A) → o ≡ None → o ≡ Some a → ⊥
some_none o a e f = cc

-- ---- the lists

-- a manager that is in doubt of none has the pool's tasks
list_whole : (domains : List Id) (ts : List Listed) (p : Pool) → KnowsLists domains ts None p → AreTasks p ts
list_whole domains ts p x = record {
  rising = x.order;
  each = λ t s among. x.tasks_are t s (none_is t) among;
  all = λ t y is. x.all_tasks t y (none_is t) is;
}

-- one that is in doubt of this task has them with what its file says
module _ (domains : List Id) (ts : List Listed) (t : Id) (p : Pool) (x : KnowsLists domains ts (Some t) p) where
  in_doubt : (u : Id) → u ≢ t → ◌≢◌ {A = Option Id} (Some t) (Some u)
  in_doubt u apart same = apart (sym (some_is t u same))

  there : (u : Id) (s : TaskState) → Contains ts (u, s) → u ≢ t → (y : Task) × (p.task u ≡ Some y) × (y.state ≡ s)
  there u s among apart = x.tasks_are u s (in_doubt u apart) among

  found_state : (o : Option Task) (s : TaskState) → state_found o ≡ Some s → (y : Task) × (o ≡ Some y) × (y.state ≡ s)
  found_state None s e = absurd (some_none None s refl e)
  found_state (Some y) s e = (y, refl, one_state (Some y.state) y.state s refl e)

  is_each : (u : Id) (s : TaskState) → (Contains ts (u, s) × (u ≢ t)) ⊎ ((u ≡ t) × (state_found (p.task t) ≡ Some s))
      → (y : Task) × (p.task u ≡ Some y) × (y.state ≡ s)
  is_each u s (inl (among, apart)) = there u s among apart
  is_each u s (inr (same, state_is)) =
      let is = found_state (p.task t) s state_is in (is.0, ap (λ (i : Id). p.task i) same ∙ is.1, is.2)

  list_settled : AreTasks p (listed_with t (state_found (p.task t)) ts)
  list_settled = record {
    rising = with_rises t ts (state_found (p.task t)) x.order;
    each = λ u s among. is_each u s (with_each t ts (state_found (p.task t)) (u, s) among);
    all = λ u y is. all_there u y is (is_one u t);
  }
    where
      all_there : (u : Id) (y : Task) → p.task u ≡ Some y → (u ≡ t) ⊎ (u ≢ t) → Contains (listed_with t (state_found (p.task t)) ts) (u, y.state)
      all_there u y is (inr apart) = with_all t ts (state_found (p.task t)) (u, y.state) (x.all_tasks u y (in_doubt u apart) is) apart
      all_there u y is (inl same) =
          subst (λ (o : Option Task). Contains (listed_with t (state_found o) ts) (u, y.state)) (sym (ap (λ (i : Id). p.task i) (sym same) ∙ is))
          (subst (λ (i : Id). Contains (listed_with t (Some y.state) ts) (i, y.state)) (sym same) (with_it t ts y.state))

-- ---- the turns

module _ (up : Hosts) (id moment steps : ℕ) (bytes : List ℕ) (l : Leader) (k : Kept) (p : Pool) (d : Content) (stands : Stands up d p) where
  abbrev before : Memory
  before = record { id = id; moment = moment; leading = Some l; work = Some work.Tasks; steps = steps; bytes = bytes }

  abbrev after : Memory
  after = record { id = id; moment = moment; leading = Some l; work = None; steps = steps; bytes = bytes }

  abbrev run : Running
  run = record { verb = verb.tasks; marks = []; tally = 0; steps = steps; kept = k }

  module _ (knows : HostKnows k before p) where
    knows_after : HostKnows k after p
    knows_after = record {
      machine = record {
        role = knows.machine.role;
        opened = λ s x low is. absurd (nothing_open x is);
        once = λ sd i s r x y at to. absurd (nothing_open x at.there);
        torn = λ sd i m t guest is cut. let at = knows.machine.torn sd i m t guest is cut in absurd (nothing_open at.1.0 at.1.1.there);
        making = tt;
        texts = tt;
      };
      lease = knows.lease;
      lists = knows.lists;
      boxes = knows.boxes;
      steps = tt;
    }

    step : (answer : Answer) → HostTurns id up (state_of k before) p answer (state_of k after) p → Stepped up k before d p answer after d
    step answer turn = record {
      pool = p;
      kept = k;
      turns = turn;
      stands = stands;
      knows = knows_after;
      keeps = standing_keeps up d p stands;
      owned = nothing_owned id up verb.tasks p d;
      changes = nothing_changed id up p;
    }

    listed_step : (ts : List Listed) → AreTasks p ts → Stepped up k before d p (done (payload.Tasks ts) []) after d
    listed_step ts are = step (done (payload.Tasks ts) []) (
      run,
      refl,
      record { tally = 0; passing = here; running = refl; ends = (are, record { role_is = refl; opened = λ s. refl }); gives = refl },
    )

    lacking_step : Stepped up k before d p (refused OutOfMemory) after d
    lacking_step = step (refused OutOfMemory) (
      run,
      refl,
      record {
        marks = [];
        tally = 0;
        pool = p;
        passing = here;
        may = tt;
        gives = refl;
        running = refl;
        idle = record { role_is = refl; opened = λ s. refl };
      },
    )

    fault_step : (faults : ℕ) → Stepped up k before d p (refused (DiskFault faults)) after d
    fault_step faults = step (refused (DiskFault faults)) (
      run,
      refl,
      record {
        marks = [];
        tally = 0;
        pool = p;
        passing = here;
        gives = inl refl;
        running = refl;
        cut = record { role_is = refl; opened = λ s. refl };
      },
    )

    -- what a file of a task says, and what the pool has
    module _ (t : Id) where
      place_at : TaskAt d l.master t (p.task t)
      place_at = stands.tasks.each l.master t knows.machine.role.master

-- ---- a step without a doubt

-- what a list answers, and want of memory
abbrev pub AnswersList : Answer → List Listed → Type 0
AnswersList answer ts = (answer ≡ done (payload.Tasks ts) []) ⊎ (answer ≡ refused OutOfMemory)

-- the answer, by what reading the file of the task in doubt answered
abbrev pub AnswersRead : Leader → Id → Result (Option Task) Refusal → Answer → Type 0
AnswersRead l t (Ok o) answer = AnswersList answer (listed_with t (state_found o) l.tasks)
AnswersRead l t (Err r) answer = answer ≡ refused r

-- and by what listing the tasks came to
pub answers_list : (r : Result (List Listed) NoMemory) (a : Progress) (ts : List Listed) (bytes : List ℕ) → IsAnswered r a → IfOk r (λ xs. xs ≡ ts)
    → AnswersList (answer_of a bytes) ts
answers_list (Ok xs) a ts bytes is same =
    inl (ap (λ (x : Progress). answer_of x bytes) is ∙ ap (λ (ys : List Listed). done (payload.Tasks ys) []) same)
answers_list (Err e) a ts bytes is same = inr (ap (λ (x : Progress). answer_of x bytes) is)

-- the host keeps all but its verb
pub lists_now : (up : Hosts) (x y : Memory) (d e : Content) (a b : Answer) → HostSteps up x d a (record x { work = None }) e
    → y ≡ record x { work = None } → b ≡ a → HostSteps up x d b y e
lists_now up x y d e a b steps is same =
    subst (λ (m : Memory). HostSteps up x d b m e) (sym is) (subst (λ (z : Answer). HostSteps up x d z (record x { work = None }) e) (sym same) steps)

module _ (up : Hosts) (x : Memory) (l : Leader) (d : Content) (works : x.work ≡ Some work.Tasks) (leads : x.leading ≡ Some l) where
  abbrev was : Memory
  was = record { id = x.id; moment = x.moment; leading = Some l; work = Some work.Tasks; steps = x.steps; bytes = x.bytes }

  abbrev is_now : Memory
  is_now = record { id = x.id; moment = x.moment; leading = Some l; work = None; steps = x.steps; bytes = x.bytes }

  from_parts : (answer : Answer) → ((k : Kept) (p : Pool) → Stands up d p → HostKnows k was p → Stepped up k was d p answer is_now d)
      → HostSteps up x d answer (record x { work = None }) d
  from_parts answer parts =
      subst (λ (w : Option Work). HostSteps up (record x { work = w }) d answer (record x { work = None }) d) (sym works)
      (subst (λ (o : Option Leader). HostSteps up (record x { leading = o; work = Some work.Tasks }) d answer (record x { leading = o; work = None }) d)
      (sym leads) parts)

  answered : (k : Kept) (p : Pool) (stands : Stands up d p) → HostKnows k was p → (answer : Answer) (ts : List Listed) → AreTasks p ts
      → AnswersList answer ts → Stepped up k was d p answer is_now d
  answered k p stands knows answer ts are (inl said) =
      subst (λ (a : Answer). Stepped up k was d p a is_now d) (sym said)
      (listed_step up x.id x.moment x.steps x.bytes l k p d stands knows ts are)
  answered k p stands knows answer ts are (inr said) =
      subst (λ (a : Answer). Stepped up k was d p a is_now d) (sym said)
      (lacking_step up x.id x.moment x.steps x.bytes l k p d stands knows)

  pub lists_all : (answer : Answer) → l.begun ≡ None → AnswersList answer l.tasks → HostSteps up x d answer (record x { work = None }) d
  lists_all answer rests answers = from_parts answer (λ k p stands knows.
      answered k p stands knows answer l.tasks
      (list_whole l.domains l.tasks p (subst (λ (o : Option Id). KnowsLists l.domains l.tasks o p) rests knows.lists)) answers)

  -- ---- a step that reads the task in doubt

  listed : (k : Kept) (p : Pool) (stands : Stands up d p) → HostKnows k was p → (t : Id) → l.begun ≡ Some t → (o : Option Task) → p.task t ≡ o
      → (answer : Answer) → AnswersList answer (listed_with t (state_found o) l.tasks) → Stepped up k was d p answer is_now d
  listed k p stands knows t begun o is answer said =
      answered k p stands knows answer (listed_with t (state_found o) l.tasks)
      (subst (λ (y : Option Task). AreTasks p (listed_with t (state_found y) l.tasks)) is
      (list_settled l.domains l.tasks t p (subst (λ (b : Option Id). KnowsLists l.domains l.tasks b p) begun knows.lists))) said

  by_reading : (k : Kept) (p : Pool) (stands : Stands up d p) → HostKnows k was p → (faults : ℕ) (t : Id) → l.begun ≡ Some t
      → (r : Result (Option Task) Refusal) → Finds r x.id (task_place l.master t) t faults d → (answer : Answer) → AnswersRead l t r answer
      → Stepped up k was d p answer is_now d
  by_reading k p stands knows faults t begun (Ok None) none answer said =
      listed k p stands knows t begun None (no_file_no_task d l.master t x.id (p.task t) none
      (place_at up x.id x.moment x.steps x.bytes l k p d stands knows t)) answer said
  by_reading k p stands knows faults t begun (Ok (Some y)) found answer said =
      listed k p stands knows t begun (Some y) (found_task d l.master t x.id y found (p.task t)
      (place_at up x.id x.moment x.steps x.bytes l k p d stands knows t)) answer said
  by_reading k p stands knows faults t begun (Err (TaskCorrupt u)) (f, is, sees) answer said =
      absurd (is_readable d l.master t x.id f is sees (p.task t)
      (place_at up x.id x.moment x.steps x.bytes l k p d stands knows t))
  by_reading k p stands knows faults t begun (Err OutOfMemory) found answer said =
      subst (λ (a : Answer). Stepped up k was d p a is_now d) (sym said) (lacking_step up x.id x.moment x.steps x.bytes l k p d stands knows)
  by_reading k p stands knows faults t begun (Err r) fault answer said =
      subst (λ (a : Answer). Stepped up k was d p a is_now d) (sym (said ∙ ap (λ (z : Refusal). refused z) fault))
      (fault_step up x.id x.moment x.steps x.bytes l k p d stands knows faults)

  pub lists_with : (faults : ℕ) (t : Id) (result : Result (Option Task) Refusal) (answer : Answer) (e : Content) → l.begun ≡ Some t
      → ReadsTask x.id (task_place l.master t) t faults result d e → AnswersRead l t result answer → HostSteps up x d answer (record x { work = None }) e
  lists_with faults t result answer e begun (same, finds) answers =
      subst (λ (c : Content). HostSteps up x d answer (record x { work = None }) c) (sym same)
      (from_parts answer (λ k p stands knows. by_reading k p stands knows faults t begun result finds answer answers))

-- whoever lists tasks is the manager
pub listing_leads : (o : Option Leader) (w : Option Work) → IsFit w o → w ≡ Some work.Tasks → o ≡ None → ⊥
listing_leads o w fit works none = subst (λ (x : Option Leader). IsFit (Some work.Tasks) x) none (subst (λ (x : Option Work). IsFit x o) works fit)
