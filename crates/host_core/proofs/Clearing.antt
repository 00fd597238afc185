-- The step of `clear-task`: the file of a task is removed, and the turns of the machine that it is.
use Rattle.std.proofs.Common.{◌≡◌, ◌≢◌, ◌⊎◌, ℕ, Bool, not, List, [], ◌∷◌, Option, Some, None, Result, Ok, Err, refl, sym, ap, subst, ◌∙◌, inl, inr}
use Rattle.std.proofs.lemmas.Bool.{false≢true}
use Rattle.std.proofs.lemmas.List.Kept.{IsStrictlySortedBy-filter}
use Rattle.std.specs.Prelude.{Contains, if◌then◌else◌}
use Rattle.sd_names.specs.UpSet.{Hosts}
use Rattle.sd_names.specs.declared.id.Id.{Id}
use Rattle.sd_names.specs.declared.refusal.Refusal.{Refusal}
use Rattle.sd_names.specs.declared.refusal.Refusal.TheVariants.{DiskFault}
use Rattle.sd_names.specs.declared.verb.Payload.TheVariants as payload
use Rattle.shared_disk.specs.Calls.{IsPut, IsSame}
use Rattle.shared_disk.specs.Content.{Content, File}
use Rattle.shared_disk.specs.NameCalls.{Removes}
use Rattle.shared_disk.specs.Places.{id_is}
use Rattle.shared_disk.specs.Step.{ResultFollows}
use Rattle.shared_disk.specs.declared.disk.DiskAnswer.{DiskAnswer}
use Rattle.shared_disk.specs.declared.disk.DiskAnswer.TheVariants.{NoFile, Exists, OutOfFile, NotEmpty, Failed}
use Rattle.shared_disk.proofs.Places.{id_is-itself}
use Rattle.task_store.specs.declared.task.Task.{Task}
use Rattle.task_files.specs.Remove.{RemovesTask}
use Rattle.task_files.specs.TaskFile.{task_place}
use Rattle.pool_model.specs.Knows.{KnowsLists, KnowsManager, KnowsRole}
use Rattle.pool_model.specs.Laws.{tasks_without}
use Rattle.pool_model.specs.Leases.{IsGuest, IsTasked, Leads}
use Rattle.pool_model.specs.Marks.{Mark, change, clear}
use Rattle.pool_model.specs.Pool.{Pool, put_task}
use Rattle.pool_model.specs.Rules.{Passing, changed, here}
use Rattle.pool_model.specs.Standing.{Stands, TaskAt}
use Rattle.pool_model.specs.State.{Kept, Opened, Running}
use Rattle.pool_model.specs.Tasks.{NoneOpen}
use Rattle.pool_model.specs.Turns.{Answer, HostTurns, done, maker, refused}
use Rattle.pool_model.specs.Verb as verb
use Rattle.pool_model.proofs.Clearing.{clear_changed, clear_owned, clear_stands, none_opened}
use Rattle.chain_model.proofs.Settled.{is_one}
use Rattle.pool_model.proofs.Kept.{standing_keeps}
use Rattle.pool_model.proofs.Roles.{id_apart, nothing_changed, nothing_owned}
use Rattle.host_core.specs.Knows.{HostKnows, KnowsLease, KnowsPool, WritesNoBox}
use Rattle.host_core.specs.Memory.{IsClearing, IsFit, IsSound, Leader, Listed, Memory}
use Rattle.host_core.specs.State.{role_by, state_of}
use Rattle.host_core.specs.Steps.{HostSteps, Stepped, answer_of, clear_progress, cleared}
use Rattle.host_core.specs.declared.progress.Progress.{Progress}
use Rattle.host_core.specs.declared.work.Work.{Work}
use Rattle.host_core.specs.declared.work.Work.TheVariants as work
use Rattle.host_core.proofs.Barred.{listed_task, none_is}
use Rattle.host_core.proofs.Filtered.{filtered, passing}

nothing_open : (o : Opened) → ◌≡◌ {A = Option Opened} None (Some o) → ⊥
nothing_open o e = cc

some_none : (t : Id) → ◌≡◌ {A = Option Id} (Some t) None → ⊥
some_none t e = cc

no_file : (o : Option File) (f : File) → o ≡ Some f → o ≡ None → ⊥
no_file o f e g = cc

-- ---- the lists without the task

kept_entry : (t : Id) (a : Listed) (ts : List Listed) → Contains (tasks_without t ts) a → Contains ts a × (a.0 ≢ t)
kept_entry t a ts among =
    let was = filtered (λ (x : Listed). not (id_is x.0 t)) a ts among in
    (was.0, λ same. false≢true (sym (ap (λ (b : Bool). not b) (ap (λ (i : Id). id_is i t) same ∙ id_is-itself t)) ∙ was.1))

stays_entry : (t : Id) (a : Listed) (ts : List Listed) → a.0 ≢ t → Contains ts a → Contains (tasks_without t ts) a
stays_entry t a ts apart among = passing (λ (x : Listed). not (id_is x.0 t)) a ts (ap (λ (b : Bool). not b) (id_apart a.0 t apart)) among

none_some : (o : Option Task) (y : Task) → o ≡ None → o ≡ Some y → ⊥
none_some o y e f = cc

module _ (p : Pool) (t : Id) where
  other_task : (u : Id) → u ≢ t → (put_task p t None).task u ≡ p.task u
  other_task u apart = ap (λ (b : Bool). if b then None else p.task u) (id_apart u t apart)

  this_task : (put_task p t None).task t ≡ None
  this_task = ap (λ (b : Bool). if b then None else p.task t) (id_is-itself t)

  still_task : (u : Id) (y : Task) → (put_task p t None).task u ≡ Some y → (p.task u ≡ Some y) × (u ≢ t)
  still_task u y is = go (is_one u t)
    where
      go : (u ≡ t) ⊎ (u ≢ t) → (p.task u ≡ Some y) × (u ≢ t)
      go (inl same) = absurd (none_some ((put_task p t None).task u) y (ap (λ (i : Id). (put_task p t None).task i) same ∙ this_task) is)
      go (inr apart) = (sym (other_task u apart) ∙ is, apart)

  lists_without : (domains : List Id) (tasks : List Listed) (begun : Option Id) → KnowsLists domains tasks begun p
      → KnowsLists domains (tasks_without t tasks) begun (put_task p t None)
  lists_without domains tasks begun x = record {
    rising = x.rising;
    domains_are = x.domains_are;
    all_domains = x.all_domains;
    order = IsStrictlySortedBy-filter _ _ tasks x.order;
    tasks_are = λ u s other among.
        let was = kept_entry t (u, s) tasks among in let is = x.tasks_are u s other was.0 in (is.0, other_task u was.1 ∙ is.1, is.2);
    all_tasks = λ u y other is. let was = still_task u y is in stays_entry t (u, y.state) tasks was.1 (x.all_tasks u y other was.0);
  }

  -- in doubt of the task, the manager keeps its list
  lists_in_doubt : (domains : List Id) (tasks : List Listed) → KnowsLists domains tasks None p → KnowsLists domains tasks (Some t) (put_task p t None)
  lists_in_doubt domains tasks x = record {
    rising = x.rising;
    domains_are = x.domains_are;
    all_domains = x.all_domains;
    order = x.order;
    tasks_are = λ u s other among.
        let is = x.tasks_are u s (none_is u) among in (is.0, other_task u (λ same. other (ap (λ (a : Id). Some a) (sym same))) ∙ is.1, is.2);
    all_tasks = λ u y other is. x.all_tasks u y (none_is u) (still_task u y is).0;
  }

module _ (up : Hosts) (id moment steps : ℕ) (bytes : List ℕ) (l : Leader) (t : Id) (k : Kept) (p : Pool) (d e : Content)
    (own : l.lease.owner ≡ id) (fit : IsClearing t (Some l)) (stands : Stands up d p) where
  abbrev before : Memory
  before = record { id = id; moment = moment; leading = Some l; work = Some (work.Clear t); steps = steps; bytes = bytes }

  abbrev after : Leader → Memory
  after o = record { id = id; moment = moment; leading = Some o; work = None; steps = steps; bytes = bytes }

  abbrev run : Running
  run = record { verb = verb.clear_task t; marks = change (clear t) ∷ []; tally = 0; steps = steps; kept = k }

  abbrev q : Pool
  q = put_task p t None

  abbrev without : Leader
  without = record l { tasks = tasks_without t l.tasks }

  abbrev doubting : Leader
  doubting = record l { begun = Some t }

  module _ (knows : HostKnows k before p) where
    manager : KnowsManager id (record { master = l.master; version = l.lease.version; begun = l.begun }) p
    manager = knows.machine.role

    idle : NoneOpen p
    idle = manager.none_open fit.0

    lead : Leads p id
    lead = (l.master, (l.lease, manager.master, knows.lease, own))

    quiet_lists : KnowsLists l.domains l.tasks None p
    quiet_lists = subst (λ (o : Option Id). KnowsLists l.domains l.tasks o p) fit.0 knows.lists

    task_there : (x : Task) × (p.task t ≡ Some x)
    task_there =
        let at = listed_task t l.tasks fit.1 in let is = quiet_lists.tasks_are t at.0 (none_is t) at.1 in (is.0, is.1)

    file_there : d.file (task_place l.master t) ≡ None → ⊥
    file_there none = no_file (d.file (task_place l.master t)) at.stored.file at.stored.there none
      where
        at : TaskAt d l.master t (Some task_there.0)
        at = subst (λ (o : Option Task). TaskAt d l.master t o) task_there.1 (stands.tasks.each l.master t manager.master)

    -- the mark comes to pass
    passes : Passing (maker id up run) run.marks 0 p [] 0 q
    passes = changed (task_there.0, task_there.1, refl) here

    -- what the host knows, with this left of its role
    knows_after : (o : Pool) (m : Leader) → KnowsRole id (role_by (Some m)) o → KnowsLease (Some m) o → KnowsPool (Some m) o
        → ((sd i : Id) → o.image sd i ≡ p.image sd i) → ((sd i : Id) → IsGuest o sd i id → IsGuest p sd i id) → WritesNoBox id o
        → HostKnows k (after m) o
    knows_after o m role lease lists images guest boxes = record {
      machine = record {
        role = role;
        opened = λ s x low is. absurd (nothing_open x is);
        once = λ sd i s r x y at to. absurd (nothing_open x at.there);
        torn = λ sd i n u is there cut.
            let at = knows.machine.torn sd i n u (guest sd i is) (sym (images sd i) ∙ there) cut in absurd (nothing_open at.1.0 at.1.1.there);
        making = tt;
        texts = tt;
      };
      lease = lease;
      lists = lists;
      boxes = boxes;
      steps = tt;
    }

    guests : (sd i : Id) → IsGuest q sd i id → IsGuest p sd i id
    guests sd i (n, (r, x, is, owner)) = (n, (r, record { slot = x.slot; lease = x.lease; image = x.image }, is, owner))

    tasked : (sd i : Id) → IsTasked q sd i → IsTasked p sd i
    tasked sd i (n, (r, x, is)) = (n, (r, record { slot = x.slot; lease = x.lease; image = x.image }, is))

    -- its file is gone
    module _ (put : IsPut d (task_place l.master t) None e) where
      frame : Stands up e q
      frame = clear_stands up d e p l.master t stands manager.master idle put

      none_open_now : NoneOpen q
      none_open_now = none_opened up d e p l.master t stands manager.master idle put

      leads_on : (begun : Option Id) → KnowsManager id (record { master = l.master; version = l.lease.version; begun = begun }) q
      leads_on begun = record {
        master = manager.master;
        held = manager.held;
        none_open = λ none. none_open_now;
        none_held = λ none sd i is. manager.none_held fit.0 sd i (tasked sd i is);
        one_open = λ u v x is opened. absurd (none_open_now v x opened);
      }

      gone : (answer : Answer) (m : Leader) → HostKnows k (after m) q → HostTurns id up (state_of k before) p answer (state_of k (after m)) q
          → Stepped up k before d p answer (after m) e
      gone answer m known turn = record {
        pool = q;
        kept = k;
        turns = turn;
        stands = frame;
        knows = known;
        keeps = standing_keeps up e q frame;
        owned = clear_owned up d e p l.master t stands manager.master idle put id (verb.clear_task t) lead;
        changes = clear_changed id up p t lead;
      }

      known_without : HostKnows k (after without) q
      known_without = knows_after q without (leads_on l.begun) knows.lease
          (lists_without p t l.domains l.tasks l.begun knows.lists)
          (λ sd i. refl) guests knows.boxes

      known_doubting : HostKnows k (after doubting) q
      known_doubting = knows_after q doubting (leads_on (Some t)) knows.lease
          (lists_in_doubt p t l.domains l.tasks quiet_lists)
          (λ sd i. refl) guests knows.boxes

    -- its file is still there
    doubting_here : HostKnows k (after doubting) p
    doubting_here = knows_after p doubting (record {
      master = manager.master;
      held = manager.held;
      none_open = λ none. idle;
      none_held = λ none sd i is. manager.none_held fit.0 sd i is;
      one_open = λ u v x is opened. absurd (idle v x opened);
    }) knows.lease (record {
      rising = quiet_lists.rising;
      domains_are = quiet_lists.domains_are;
      all_domains = quiet_lists.all_domains;
      order = quiet_lists.order;
      tasks_are = λ u s other among. quiet_lists.tasks_are u s (none_is u) among;
      all_tasks = λ u y other is. quiet_lists.all_tasks u y (none_is u) is;
    }) (λ sd i. refl) (λ sd i guest. guest) knows.boxes

    same_step : (answer : Answer) → HostTurns id up (state_of k before) p answer (state_of k (after doubting)) p → IsSame d e
        → Stepped up k before d p answer (after doubting) e
    same_step answer turn same = subst (λ (c : Content). Stepped up k before d p answer (after doubting) c) (sym same) (record {
      pool = p;
      kept = k;
      turns = turn;
      stands = stands;
      knows = doubting_here;
      keeps = standing_keeps up d p stands;
      owned = nothing_owned id up (verb.clear_task t) p d;
      changes = nothing_changed id up p;
    })

    done_turn : HostTurns id up (state_of k before) p (done payload.ClearTask []) (state_of k (after without)) q
    done_turn = (
      run,
      refl,
      record {
        tally = 0;
        passing = passes;
        running = refl;
        ends = record { role_is = refl; opened = λ s. refl };
        gives = refl;
      },
    )

    fault_turn : (faults : ℕ) (marks : List Mark) (o : Pool) → Passing (maker id up run) run.marks 0 p marks 0 o
        → HostTurns id up (state_of k before) p (refused (DiskFault faults)) (state_of k (after doubting)) o
    fault_turn faults marks o passing = (
      run,
      refl,
      record {
        marks = marks;
        tally = 0;
        pool = o;
        passing = passing;
        gives = inl refl;
        running = refl;
        cut = record { role_is = refl; opened = λ s. refl };
      },
    )

    abbrev Goal : Result (Unit {0}) Refusal → Type 0
    Goal r = Stepped up k before d p (answer_of (clear_progress r) bytes) (after (cleared t (clear_progress r) l)) e

    clears : (faults : ℕ) (result : Result (Unit {0}) Refusal) (answer : Result (Unit {0}) DiskAnswer) → Removes d (task_place l.master t) answer e
        → ResultFollows answer faults result (λ _. result ≡ Ok tt) → Goal result
    clears faults result (Ok u) removed follows =
        subst (λ (r : Result (Unit {0}) Refusal). Goal r) (sym follows)
        (gone removed.2 (done payload.ClearTask []) without (known_without removed.2) done_turn)
    clears faults result (Err Failed) (inl same) follows =
        subst (λ (r : Result (Unit {0}) Refusal). Goal r) (sym follows)
        (same_step (refused (DiskFault faults)) (fault_turn faults run.marks p here) same)
    clears faults result (Err Failed) (inr removed) follows =
        subst (λ (r : Result (Unit {0}) Refusal). Goal r) (sym follows)
        (gone removed.2 (refused (DiskFault faults)) doubting (known_doubting removed.2) (fault_turn faults [] q passes))
    clears faults result (Err NoFile) (same, none) follows = absurd (file_there none)
    clears faults result (Err Exists) removed follows = absurd removed
    clears faults result (Err OutOfFile) removed follows = absurd removed
    clears faults result (Err NotEmpty) removed follows = absurd removed

-- the step of a host that clears a task, by what the host kept
clear_leaves : (up : Hosts) (x : Memory) (l : Leader) (t : Id) (d e : Content) (faults : ℕ) (result : Result (Unit {0}) Refusal)
    → IsSound x.id x.leading x.work → x.work ≡ Some (work.Clear t) → x.leading ≡ Some l → RemovesTask (task_place l.master t) faults result d e
    → HostSteps up x d (answer_of (clear_progress result) x.bytes)
    (record x { leading = Some (cleared t (clear_progress result) l); work = None }) e
clear_leaves up x l t d e faults result sound works leads removes =
    subst (λ (w : Option Work). HostSteps up (record x { work = w }) d (answer_of (clear_progress result) x.bytes) (record x { leading = Some (cleared t (clear_progress result) l); work = None }) e) (sym works)
    (subst (λ (o : Option Leader). HostSteps up (record x { leading = o; work = Some (work.Clear t) }) d (answer_of (clear_progress result) x.bytes) (record x { leading = Some (cleared t (clear_progress result) l); work = None }) e)
    (sym leads)
    (λ k p stands knows. clears up x.id x.moment x.steps x.bytes l t k p d e here_is.own here_is.fit stands knows faults result removes.0 removes.1 removes.2))
  where
    here_is : IsSound x.id (Some l) (Some (work.Clear t))
    here_is = subst (λ (o : Option Leader). IsSound x.id o (Some (work.Clear t))) leads (subst (λ (w : Option Work). IsSound x.id x.leading w) works sound)

-- the same, by what it answers and keeps
pub clear_steps : (up : Hosts) (x y : Memory) (l left : Leader) (t : Id) (d e : Content) (faults : ℕ) (result : Result (Unit {0}) Refusal) (r : Progress)
    → IsSound x.id x.leading x.work → x.work ≡ Some (work.Clear t) → x.leading ≡ Some l → RemovesTask (task_place l.master t) faults result d e
    → r ≡ clear_progress result → left ≡ cleared t r l → y ≡ record x { leading = Some left; work = None } → HostSteps up x d (answer_of r y.bytes) y e
clear_steps up x y l left t d e faults result r sound works leads removes answers keeps is =
    subst (λ (m : Memory). HostSteps up x d (answer_of r m.bytes) m e) (sym is)
    (subst (λ (o : Leader). HostSteps up x d (answer_of r x.bytes) (record x { leading = Some o; work = None }) e) (sym keeps)
    (subst (λ (a : Progress). HostSteps up x d (answer_of a x.bytes) (record x { leading = Some (cleared t a l); work = None }) e) (sym answers)
    (clear_leaves up x l t d e faults result sound works leads removes)))

-- whoever clears a task is the manager
pub clearing_leads : (t : Id) (o : Option Leader) (w : Option Work) → IsFit w o → w ≡ Some (work.Clear t) → o ≡ None → ⊥
clearing_leads t o w fit works none =
    subst (λ (x : Option Leader). IsFit (Some (work.Clear t)) x) none (subst (λ (x : Option Work). IsFit x o) works fit)
