-- What is known where a step of the task, or its text, comes next.
use Rattle.std.proofs.Common.{◌≡◌, ℕ, true, List, Option, Some, length, sym, ap, subst, ◌∙◌}
use Rattle.std.specs.Prelude.{All}
use Rattle.std.proofs.lemmas.List.Elements.{All-nil}
use Rattle.sd_names.specs.UpSet.{Hosts}
use Rattle.sd_names.specs.declared.id.Id.{Id}
use Rattle.sd_names.specs.declared.place.Dir.TheVariants as dir
use Rattle.sd_names.specs.declared.place.Place.{Place}
use Rattle.shared_disk.specs.Content.{Content}
use Rattle.task_store.specs.TaskText.{text_of}
use Rattle.task_store.specs.declared.task.Task.{Task}
use Rattle.task_store.specs.declared.undo.Undo.{Undo}
use Rattle.task_files.specs.Write.{Knows as KnowsWrite, volatile_of}
use Rattle.task_files.specs.declared.write.TaskWrite.{TaskWrite}
use Rattle.whole_file.specs.Replace.{IsReady as IsReplaceReady}
use Rattle.whole_file.specs.declared.replace.Stage.{Stage as ReplaceStage}
use Rattle.image_clearing.specs.Clearing.{domain_of}
use Rattle.image_clearing.proofs.Steps.{begun_knows}
use Rattle.pool_model.specs.Pool.{Pool}
use Rattle.pool_model.specs.Standing.{MasterLists, MasterStands, Stands}
use Rattle.pool_model.specs.Tasks.{IsStepDone}
use Rattle.pool_model.proofs.OneDomain.{listed_here}
use Rattle.task_settling.specs.Knowing.{AreDoneBehind, ClearsLast, HaveIds, Knows, KnowsStage, KnowsTask}
use Rattle.task_settling.specs.Settling.{IsBehind, IsLastBegun, IsStageBehind, IsWriteBegun, settled_of, stage_of}
use Rattle.task_settling.specs.declared.settling.Stage.{Stage}
use Rattle.task_settling.specs.declared.settling.Stage.TheVariants.{Clearing, Writing}
use Rattle.task_settling.specs.declared.settling.TaskSettling.{TaskSettling}
use Rattle.image_clearing.specs.declared.clearing.ImageClearing.{ImageClearing}
use Rattle.task_settling.proofs.Facts.{knows_image, making_of}
use Rattle.task_settling.proofs.Lists.{all_behind, drop_all}

module _ (up : Hosts) (d : Content) (p : Pool) (h : ℕ) (master : Id) (task : Task) (stands : Stands up d p) (ids : HaveIds d) (known : KnowsTask h master task p) where
  lists : MasterLists p master
  lists = subst (λ (o : Option Id). MasterStands p o) known.master_is stands.master

  tasks_there : d.dir (dir.Tasks master) ≡ true
  tasks_there = (listed_here up d p master lists.is stands lists.listed).folders.tasks

  write_knows : (settled : Task) (w : TaskWrite) → IsWriteBegun master settled w → KnowsWrite w h settled d
  write_knows settled w begun = record {
    folder = ap (λ (q : Place). d.dir q.dir) begun.file ∙ tasks_there;
    ready = subst (λ (s : ReplaceStage). IsReplaceReady s h (text_of settled) (volatile_of w) d) (sym begun.stage) tt;
  }

  clears_last : (count : ℕ) (c : ImageClearing) → AreDoneBehind count task p → IsLastBegun task.steps count c → ClearsLast count task c d p
  clears_last count c done last = record {
    step = last.step;
    last = last.last;
    clears = last.clears ∙ ap {B = Option (Id × Id)} (λ (a : Id). Some (a, last.image)) (sym last.begun.1.domain) ∙ ap {B = Option (Id × Id)} (λ (i : Id). Some (domain_of c, i)) (sym last.begun.1.image_is);
    behind = done;
    clearing = begun_knows last.sd last.image c d last.begun
        (knows_image up d p last.sd last.image stands (making_of p task count last.step last.sd last.image known.opened last.last last.clears) ids);
  }

  stage_knows : (settled : Task) (count : ℕ) (s : Stage) → AreDoneBehind count task p → IsStageBehind master task settled count s → KnowsStage s h master task settled d p
  stage_knows settled count (Clearing n c) done (same, last) = subst (λ (k : ℕ). ClearsLast k task c d p) (sym same) (clears_last count c done last)
  stage_knows settled count (Writing w) done (none, begun) = record {
    file = begun.file;
    volatile = begun.volatile;
    behind = subst (λ (l : List Undo). All (IsStepDone p) l) (all_behind task.steps count none) done;
    write = write_knows settled w begun;
  }

  pub behind_knows : (count : ℕ) (next : TaskSettling) → AreDoneBehind count task p → IsBehind master task count next → Knows h next d p
  behind_knows count next done behind =
      subst (λ (m : Id). KnowsTask h m next.task p × KnowsStage (stage_of next) h m next.task (settled_of next) d p) (sym behind.master_is)
      (subst (λ (x : Task). KnowsTask h master x p × KnowsStage (stage_of next) h master x (settled_of next) d p) (sym behind.task_is)
      (known, stage_knows (settled_of next) count (stage_of next) done behind.stage))

  pub begun_knows_pool : (t : TaskSettling) → IsBehind master task (length task.steps) t → Knows h t d p
  begun_knows_pool t behind = behind_knows (length task.steps) t (subst (λ (l : List Undo). All (IsStepDone p) l) (sym (drop_all task.steps)) (All-nil (IsStepDone p))) behind
