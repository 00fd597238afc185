-- The two texts that the task of a deletion gets.
use Rattle.std.specs.Prelude.{[], ◌∷◌}
use Rattle.sd_names.specs.declared.id.Id.{Id}
use Rattle.sd_names.specs.declared.task_state.TaskState.TheVariants as state
use Rattle.sd_names.specs.declared.verb.VerbName.TheVariants as word
use Rattle.task_store.specs.declared.task.Task.{Task}
use Rattle.task_store.specs.declared.undo.Undo.TheVariants as undo

-- open, with the one step that finishes it
abbrev pub open_task : Id → Id → Id → Task
open_task t sd image = record { id = t; verb = word.DeleteImage; state = state.Open; steps = undo.FinishRemove sd image ∷ [] }

-- done, without a step
abbrev pub done_task : Id → Task
done_task t = record { id = t; verb = word.DeleteImage; state = state.Done; steps = [] }
