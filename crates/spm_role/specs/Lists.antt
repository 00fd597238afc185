-- A task of a list, once it has another state.
use Rattle.std.specs.Prelude.{if◌then◌else◌}
use Rattle.sd_names.specs.declared.id.Id.{Id}
use Rattle.sd_names.specs.declared.task_state.TaskState.{TaskState}
use Rattle.shared_disk.specs.Places.{id_is}

-- the state is the task's, and each other task has its own
abbrev pub with_state : Id → TaskState → Id × TaskState → Id × TaskState
with_state t s a = (a.0, if id_is a.0 t then s else a.1)
