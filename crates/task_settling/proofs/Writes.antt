-- A step that writes the text of the task that is settled, on a disk that stands for a pool.
use Rattle.std.proofs.Common.{◌≡◌, ◌≢◌, ◌⊎◌, ℕ, ◌+◌, ◌≤◌, Bool, true, false, List, [], ◌∷◌, Some, length, refl, sym, subst, ◌∙◌, inl, inr, arith}
use Rattle.std.specs.Prelude.{All, Contains}
use Rattle.std.proofs.lemmas.List.Elements.{All-cons, All-nil}
use Rattle.sd_names.specs.UpSet.{Hosts, is_up}
use Rattle.sd_names.specs.declared.id.Id.{Id}
use Rattle.sd_names.specs.declared.place.Place.{Place}
use Rattle.sd_names.specs.declared.task_state.TaskState.{TaskState}
use Rattle.sd_names.specs.declared.task_state.TaskState.TheVariants as state
use Rattle.sd_names.specs.declared.turn.Turn.{Turn}
use Rattle.sd_names.specs.declared.turn.Turn.TheVariants.{More, Done, Ended}
use Rattle.shared_disk.specs.Content.{Content}
use Rattle.shared_disk.specs.Step.{GoesOn}
use Rattle.shared_disk.proofs.Outcomes.{contains_here, contains_more}
use Rattle.task_store.specs.ReadTask.{task_of}
use Rattle.task_store.specs.TaskText.{IsTask, IsValid, text_of}
use Rattle.task_store.specs.Undo.{HasIds, IsStep}
use Rattle.task_store.specs.declared.task.Task.{Task}
use Rattle.task_store.specs.declared.undo.Undo.{Undo}
use Rattle.task_files.specs.TaskFile.{HasTask as HasTaskText, task_place, volatile_place}
use Rattle.task_files.specs.Write.{CallOf as WriteCall, WriteSteps, file_of}
use Rattle.task_files.specs.declared.write.TaskWrite.{TaskWrite}
use Rattle.whole_file.specs.Replace.{CallOf as ReplaceCall, IsApart as IsTextApart, stage_of as replace_stage}
use Rattle.whole_file.specs.Text.{HasNoZero}
use Rattle.whole_file.specs.declared.replace.Replace.{Replace}
use Rattle.unsynced_laws.specs.Unsynced.{LeavesOnlyOf}
use Rattle.pool_model.specs.Laws.{AreAlive}
use Rattle.pool_model.specs.Marks.{Mark}
use Rattle.pool_model.specs.Pool.{Pool, put_task}
use Rattle.pool_model.specs.Rules.{Maker, here}
use Rattle.pool_model.specs.Standing.{Stands}
use Rattle.pool_model.specs.Tasks.{NoneOpen, SettledState, ended_task, is_finish}
use Rattle.pool_model.proofs.Kept.{standing_keeps}
use Rattle.pool_model.proofs.Roles.{nothing_changed}
use Rattle.task_settling.specs.Inner.{IsSameText, IsWritten, WriteTurn, WritesText}
use Rattle.task_settling.specs.Knowing.{KnowsStage, KnowsTask, WritesSettled}
use Rattle.task_settling.specs.Settling.{IsAt, SettleTurn, settled_of, stage_of}
use Rattle.task_settling.specs.Steps.{After, Passes, Stepped}
use Rattle.task_settling.specs.declared.settling.Stage.{Stage}
use Rattle.task_settling.specs.declared.settling.Stage.TheVariants.{Writing}
use Rattle.task_settling.proofs.Machine.{settled_again, settled_passes}
use Rattle.task_settling.proofs.Owned.{settled_changed, writing_owned}
use Rattle.task_settling.proofs.Writing.{domains_kept, none_opened, other_stays, settled_stands, this_task, writing_stands}

-- ---- the state of a task that is settled isn't open

finish_or : (ss : List Undo) → All (λ s. is_finish s ≡ true) ss ⊎ ((s : Undo) × Contains ss s × (is_finish s ≡ false))
finish_or [] = inl (All-nil (λ s. is_finish s ≡ true))
finish_or (s ∷ ss) = go (is_finish s) refl (finish_or ss)
  where
    go : (b : Bool) → is_finish s ≡ b → All (λ x. is_finish x ≡ true) ss ⊎ ((x : Undo) × Contains ss x × (is_finish x ≡ false))
        → All (λ x. is_finish x ≡ true) (s ∷ ss) ⊎ ((x : Undo) × Contains (s ∷ ss) x × (is_finish x ≡ false))
    go true e (inl all) = inl (All-cons (λ x. is_finish x ≡ true) s ss e all)
    go true e (inr w) = inr (w.0, contains_more s w.0 ss w.1, w.2)
    go false e rest = inr (s, contains_here s ss, e)

pub not_open : (ss : List Undo) (s : TaskState) → SettledState ss s → s ≢ state.Open
not_open ss s settled = go (finish_or ss)
  where
    done_open : state.Done ≡ state.Open → ⊥
    done_open e = cc

    undone_open : state.Undone ≡ state.Open → ⊥
    undone_open e = cc

    go : All (λ x. is_finish x ≡ true) ss ⊎ ((x : Undo) × Contains ss x × (is_finish x ≡ false)) → s ≢ state.Open
    go (inl all) is = done_open (sym (settled.done all) ∙ is)
    go (inr w) is = undone_open (sym (settled.undone w.0 w.1 w.2) ∙ is)

-- ---- a task without steps has a text

few_none : length {A = Undo} [] ≤ 16
few_none = omega arith

is_task : (s : TaskState) (x : Task) → IsTask (ended_task s x)
is_task state.Open x = record { steps = few_none; values = All-nil IsStep }
is_task state.Done x = record { steps = refl; values = All-nil IsStep }
is_task state.Undone x = record { steps = refl; values = All-nil IsStep }

-- the laws of the work below
abbrev pub NoZeroLaw : Type 0
NoZeroLaw = (t : Task) → IsTask t → HasNoZero (text_of t)

abbrev pub ShortLaw : Type 0
ShortLaw = (t : Task) → IsTask t → length (text_of t) ≤ 8192

abbrev pub BackLaw : Type 0
BackLaw = (t : Task) → IsValid t → task_of t.id (text_of t) ≡ Some t

abbrev pub UnsyncedLaw : Type 0
UnsyncedLaw = (r : Replace) (host faults : ℕ) (text : List ℕ) (turn : Turn Replace (Unit {0}) (Unit {0})) (d e : Content) → ReplaceCall (replace_stage r) r host faults text turn d e → LeavesOnlyOf host d e

module _ (no_zero : NoZeroLaw) (short : ShortLaw) (back : BackLaw) (unsynced : UnsyncedLaw) (h : ℕ) (up : Hosts) (d e : Content) (p : Pool) (master : Id) (task : Task) (s : TaskState) (w : TaskWrite) (faults : ℕ)
    (up_is : is_up up h ≡ true) (stands : Stands up d p) (known : KnowsTask h master task p) (settled_is : SettledState task.steps s) (writes : WritesSettled h master task (ended_task s task) w d p) where
  abbrev settled : Task
  settled = ended_task s task

  alive_now : (step : WriteTurn) → WriteCall w h faults settled step d e → AreAlive up e
  alive_now step call at f there =
      let only = unsynced w.replace h faults (text_of settled) _ d e call (is_up up) up_is (λ q g is. let live = stands.alive q g is in record { loose = live.loose; fresh = live.fresh }) at f there in
      record { loose = only.loose; fresh = only.fresh }

  -- the step, where nothing but the two files changed
  module _ (step : WriteTurn) (call : WriteCall w h faults settled step d e) (steps : WriteSteps w h faults settled step d e) where
    apart : IsTextApart (task_place master task.id) (volatile_place master task.id) d e
    apart = subst (λ (q : Place). IsTextApart q (volatile_place master task.id) d e) writes.file (subst (λ (q : Place). IsTextApart (file_of w) q d e) writes.volatile steps.apart)

    alive : AreAlive up e
    alive = alive_now step call

    kept_so : (turn : SettleTurn) → e.file (file_of w) ≡ d.file (file_of w) → ((m : Maker) (ms : List Mark) (n : ℕ) → Passes m ms n p turn p) → After h task faults turn e p → Stepped h up task faults turn d p e
    kept_so turn same passes after =
        let same_task : e.file (task_place master task.id) ≡ d.file (task_place master task.id) = subst (λ (q : Place). e.file q ≡ d.file q) writes.file same in
        let now = writing_stands up d e p master task.id stands known.master_is apart alive same_task in
        record {
          pool = p;
          passes = passes;
          stands = now;
          after = after;
          keeps = standing_keeps up e p now;
          owned = λ v. writing_owned up d e p master task.id h v stands (domains_kept up d e p master task.id stands known.master_is apart alive) known.master_is apart known.leads;
          changes = nothing_changed h up p;
          images = λ a j. inl refl;
          tasks = λ t _. refl;
          only = inl refl;
        }

    settled_so : (turn : SettleTurn) → HasTaskText (file_of w) (Some settled) e
        → ((m : Maker) (ms : List Mark) (n : ℕ) → Passes m ms n p turn (put_task p task.id (Some settled))) → After h task faults turn e (put_task p task.id (Some settled)) → Stepped h up task faults turn d p e
    settled_so turn has passes after =
        let now = settled_stands up d e p master task.id stands known.master_is apart alive task s known.opened refl (not_open task.steps s settled_is) writes.behind
        (subst (λ (q : Place). HasTaskText q (Some settled) e) writes.file has) (no_zero settled (is_task s task)) (short settled (is_task s task))
        (back settled (record { task = is_task s task; ids = All-nil HasIds })) in
        record {
          pool = put_task p task.id (Some settled);
          passes = passes;
          stands = now;
          after = after;
          keeps = standing_keeps up e (put_task p task.id (Some settled)) now;
          owned = λ v. writing_owned up d e p master task.id h v stands (domains_kept up d e p master task.id stands known.master_is apart alive) known.master_is apart known.leads;
          changes = settled_changed up h p task.id settled known.leads;
          images = λ a j. inl refl;
          tasks = λ t other. other_stays up d e p master task.id stands known.master_is apart alive task s known.opened refl (not_open task.steps s settled_is) writes.behind
              (subst (λ (q : Place). HasTaskText q (Some settled) e) writes.file has) (no_zero settled (is_task s task)) (short settled (is_task s task))
              (back settled (record { task = is_task s task; ids = All-nil HasIds })) t other;
          only = inr (inr (s, refl));
        }

    -- no task is open any more
    none_now : HasTaskText (file_of w) (Some settled) e → NoneOpen (put_task p task.id (Some settled))
    none_now has = none_opened up d e p master task.id stands known.master_is apart alive task s known.opened refl (not_open task.steps s settled_is) writes.behind
        (subst (λ (q : Place). HasTaskText q (Some settled) e) writes.file has) (no_zero settled (is_task s task)) (short settled (is_task s task))
        (back settled (record { task = is_task s task; ids = All-nil HasIds }))

    task_now : HasTaskText (file_of w) (Some settled) e → (put_task p task.id (Some settled)).task task.id ≡ Some settled
    task_now has = this_task up d e p master task.id stands known.master_is apart alive task s known.opened refl (not_open task.steps s settled_is) writes.behind
        (subst (λ (q : Place). HasTaskText q (Some settled) e) writes.file has) (no_zero settled (is_task s task)) (short settled (is_task s task))
        (back settled (record { task = is_task s task; ids = All-nil HasIds }))

  written : (turn : SettleTurn) (step : WriteTurn) → WriteCall w h faults settled step d e → WriteSteps w h faults settled step d e → IsSameText w step → IsWritten master task settled step turn
      → Stepped h up task faults turn d p e
  written turn (More next) call steps same by = more turn by
    where
      writes_on : WritesSettled h master task settled next e p
      writes_on = record {
        file = same.target ∙ writes.file;
        volatile = same.volatile ∙ writes.volatile;
        behind = writes.behind;
        write = steps.after.0;
      }

      more : (turn : SettleTurn) → GoesOn (IsAt master task settled (Writing next)) turn → Stepped h up task faults turn d p e
      more (More t) at = kept_so (More next) call steps (More t) steps.after.1 (λ m ms n. here)
          (subst (λ (m : Id). KnowsTask h m t.task p × KnowsStage (stage_of t) h m t.task (settled_of t) e p) (sym at.master_is)
          (subst (λ (x : Task). KnowsTask h master x p × KnowsStage (stage_of t) h master x (settled_of t) e p) (sym at.task_is)
          (subst (λ (x : Task). KnowsTask h master task p × KnowsStage (stage_of t) h master task x e p) (sym at.settled_is)
          (known, subst (λ (z : Stage). KnowsStage z h master task settled e p) (sym at.now_in) writes_on))))
      more (Done x) at = absurd at
      more (Ended u refusal) at = absurd at
  written turn (Done u) call steps same by = subst (λ (z : SettleTurn). Stepped h up task faults z d p e) (sym by)
      (settled_so (Done u) call steps (Done s) steps.after.0
      (λ m ms n. settled_passes p task s known.opened writes.behind settled_is (none_now (Done u) call steps steps.after.0) m ms n)
      (none_now (Done u) call steps steps.after.0, (task_now (Done u) call steps steps.after.0, settled_is)))
  written turn (Ended u refusal) call steps same by = subst (λ (z : SettleTurn). Stepped h up task faults z d p e) (sym by) (ended steps.file)
    where
      ended : (e.file (file_of w) ≡ d.file (file_of w)) ⊎ HasTaskText (file_of w) (Some settled) e → Stepped h up task faults (Ended tt refusal) d p e
      ended (inl same_file) = kept_so (Ended u refusal) call steps (Ended tt refusal) same_file (λ m ms n. (n, here)) steps.after.0
      ended (inr has) = settled_so (Ended u refusal) call steps (Ended tt refusal) has (λ m ms n. (n + 1, settled_again p task s known.opened writes.behind settled_is m ms n)) steps.after.0

  pub write_step : (turn : SettleTurn) → WritesText master task settled w h faults turn d e → Stepped h up task faults turn d p e
  write_step turn (step, call, steps, same, by) = written turn step call (steps writes.write) same by
