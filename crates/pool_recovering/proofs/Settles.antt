-- A step of the settling of the open task, on a disk that stands for a pool.
use Rattle.std.proofs.Common.{◌≡◌, ◌≢◌, ◌⊎◌, ℕ, List, Option, Some, refl, sym, ap, subst, ◌∙◌, inl, inr}
use Rattle.std.specs.Prelude.{map}
use Rattle.sd_names.specs.UpSet.{Hosts}
use Rattle.sd_names.specs.declared.id.Id.{Id}
use Rattle.sd_names.specs.declared.refusal.Refusal.{Refusal}
use Rattle.sd_names.specs.declared.task_state.TaskState.{TaskState}
use Rattle.sd_names.specs.declared.turn.Turn.TheVariants.{More, Done, Ended}
use Rattle.shared_disk.specs.Content.{Content}
use Rattle.spm_role.specs.Lists.{with_state}
use Rattle.task_store.specs.declared.task.Task.{Task}
use Rattle.chain_model.proofs.Settled.{is_one}
use Rattle.pool_model.specs.Marks.{Mark}
use Rattle.pool_model.specs.Pool.{Pool}
use Rattle.pool_model.specs.Rules.{Maker}
use Rattle.pool_model.specs.Tasks.{AreTasks, ended_task}
use Rattle.task_listing.specs.Listing.{Noted}
use Rattle.task_settling.specs.Settling.{SettleTurn, master_of, task_of}
use Rattle.task_settling.specs.Steps.{SettlesTask, Stepped as SettlingStepped}
use Rattle.task_settling.specs.declared.settling.TaskSettling.{TaskSettling}
use Rattle.pool_recovering.specs.Knowing.{SettlesOpen}
use Rattle.pool_recovering.specs.Recovering.{RecoveryTurn}
use Rattle.pool_recovering.specs.Steps.{After, Leaves, Passes, RecoversPool, Stepped}
use Rattle.pool_recovering.specs.declared.recovering.PoolRecovery.TheVariants.{Settling}
use Rattle.pool_recovering.proofs.Left.{left_by}
use Rattle.pool_recovering.proofs.States.{tasks_with}

one_master : (o : Option Id) (a b : Id) → o ≡ Some a → o ≡ Some b → a ≡ b
one_master o a b e f = cc

-- with the same tasks the list is the same
pub same_list : (p q : Pool) (ts : List Noted) → ((t : Id) → q.task t ≡ p.task t) → AreTasks p ts → AreTasks q ts
same_list p q ts same are = record {
  rising = are.rising;
  each = λ t s among. let is = are.each t s among in (is.0, same t ∙ is.1, is.2);
  all = λ t x is. are.all t x (sym (same t) ∙ is);
}

module _ (h : ℕ) (up : Hosts) (master : Id) (before : List Noted) (t : Id) (s : TaskSettling) (faults : ℕ) (d e : Content) (p : Pool) (knows : SettlesOpen h master before t s d p) where
  left : (turn : SettleTurn) (done : SettlingStepped h up (task_of s) faults turn d p e) → Leaves p done.pool
  left turn done = left_by (task_of s) p done.pool knows.settling.0.opened done.only

  stepped : (tasks : List Noted) (turn : SettleTurn) (done : SettlingStepped h up (task_of s) faults turn d p e) (mine : RecoveryTurn)
      → ((c : Maker) (ms : List Mark) (n : ℕ) → Passes c ms n p mine done.pool) → After h master tasks faults mine e done.pool → Stepped h up master tasks faults mine d p e
  stepped tasks turn done mine passes after = record {
    pool = done.pool;
    passes = passes;
    stands = done.stands;
    after = after;
    keeps = done.keeps;
    owned = done.owned;
    changes = done.changes;
    leaves = left turn done;
  }

  -- the task is open still, and so no task has changed
  module _ (next : TaskSettling) (same : task_of next ≡ task_of s) (done : SettlingStepped h up (task_of s) faults (More next) d p e) where
    unchanged : (u : Id) → (u ≡ (task_of s).id) ⊎ (u ≢ (task_of s).id) → done.pool.task u ≡ p.task u
    unchanged u (inr apart) = done.tasks u apart
    unchanged u (inl is) = subst (λ (i : Id). done.pool.task i ≡ p.task i) (sym is)
        (subst (λ (x : Task). done.pool.task x.id ≡ Some x) same done.after.0.opened.0 ∙ sym knows.settling.0.opened.0)

    master_same : master_of next ≡ master
    master_same = one_master done.pool.master (master_of next) (master_of s) done.after.0.master_is
        ((left (More next) done).master ∙ knows.settling.0.master_is) ∙ knows.domain

    settled_on : Stepped h up master before faults (More (Settling t next)) d p e
    settled_on = stepped before (More next) done (More (Settling t next)) done.passes (record {
      domain = master_same;
      task = ap (λ (x : Task). x.id) same ∙ knows.task;
      settling = done.after;
      listed = same_list p done.pool before (λ u. unchanged u (is_one u (task_of s).id)) knows.listed;
    })

  -- the task has the state that is answered
  module _ (state : TaskState) (done : SettlingStepped h up (task_of s) faults (Done state) d p e) where
    list_now : AreTasks done.pool (map (with_state t state) before)
    list_now = tasks_with t state p done.pool (ended_task state (task_of s))
        (subst (λ (i : Id). done.pool.task i ≡ Some (ended_task state (task_of s))) knows.task done.after.1.0) refl
        (λ u apart. done.tasks u (λ is. apart (is ∙ knows.task))) before knows.listed (task_of s)
        (subst (λ (i : Id). p.task i ≡ Some (task_of s)) knows.task knows.settling.0.opened.0)

    settled_now : Stepped h up master (map (with_state t state) before) faults (Done 1) d p e
    settled_now = stepped (map (with_state t state) before) (Done state) done (Done 1) done.passes (done.after.0, list_now)

  settled_ended : (refusal : Refusal) → SettlingStepped h up (task_of s) faults (Ended tt refusal) d p e → Stepped h up master before faults (Ended tt refusal) d p e
  settled_ended refusal done = stepped before (Ended tt refusal) done (Ended tt refusal) done.passes (inr done.after)

-- ---- the arms of a step

module _ (h : ℕ) (master : Id) (before : List Noted) (t : Id) (s : TaskSettling) (faults : ℕ) (d e : Content) where
  pub settle_more : (next : TaskSettling) → task_of next ≡ task_of s → SettlesTask s h faults (More next) d e
      → RecoversPool (Settling t s) h master before faults (More (Settling t next)) before d e
  settle_more next same settles up p up_is stands ids knows = settled_on h up master before t s faults d e p knows next same (settles up p up_is stands ids knows.settling)

  pub settle_done : (state : TaskState) → SettlesTask s h faults (Done state) d e
      → RecoversPool (Settling t s) h master before faults (Done 1) (map (with_state t state) before) d e
  settle_done state settles up p up_is stands ids knows = settled_now h up master before t s faults d e p knows state (settles up p up_is stands ids knows.settling)

  pub settle_ended : (refusal : Refusal) → SettlesTask s h faults (Ended tt refusal) d e
      → RecoversPool (Settling t s) h master before faults (Ended tt refusal) before d e
  settle_ended refusal settles up p up_is stands ids knows = settled_ended h up master before t s faults d e p knows refusal (settles up p up_is stands ids knows.settling)
