-- What `tasks` lists: the manager's list, and a task in doubt as its file says.
use Rattle.std.specs.Prelude.{◌≡◌, Bool, true, List, [], ◌∷◌, ◌++◌, Option, Some, None, Result, Ok, Err}
use Rattle.std.specs.List.{filter}
use Rattle.std.specs.Option.{option_map}
use Rattle.std.specs.Ordering.{is_lt}
use Rattle.sd_names.specs.declared.turn.NoMemory.{NoMemory}
use Rattle.sd_names.specs.declared.id.Id.{Id}
use Rattle.sd_names.specs.declared.task_state.TaskState.{TaskState}
use Rattle.sd_names.specs.declared.refusal.Refusal.TheVariants.{OutOfMemory}
use Rattle.sd_names.specs.declared.verb.Payload.TheVariants as payload
use Rattle.task_store.specs.declared.task.Task.{Task}
use Rattle.chain_model.specs.Opening.{id_cmp}
use Rattle.host_core.specs.Memory.{Listed}
use Rattle.host_core.specs.declared.progress.Progress.{Progress}
use Rattle.host_core.specs.declared.progress.Progress.TheVariants.{Done}
use Rattle.host_core.specs.declared.progress.Reply.TheVariants as reply
use Rattle.host_core.specs.declared.tasks.Part.{Part}
use Rattle.host_core.specs.declared.tasks.Part.TheVariants.{All, Below, Above}

-- whether a task of this identifier is in a part of a list
abbrev pub is_in : Part → Id → Bool
is_in All u = true
is_in (Below t) u = is_lt (id_cmp u t)
is_in (Above t) u = is_lt (id_cmp t u)

abbrev pub part_of : Part → List Listed → List Listed
part_of part ts = filter (λ (a : Listed). is_in part a.0) ts

-- a task in this state, or none
abbrev pub entry_of : Id → Option TaskState → List Listed
entry_of t None = []
entry_of t (Some s) = (t, s) ∷ []

-- the list in which this task has this state, or isn't there
abbrev pub listed_with : Id → Option TaskState → List Listed → List Listed
listed_with t o ts = (part_of (Below t) ts ++ entry_of t o) ++ part_of (Above t) ts

-- the state of a task that was found
abbrev pub state_found : Option Task → Option TaskState
state_found o = option_map (λ (x : Task). x.state) o

-- the answer of `tasks`: the list, or that there is no memory for it
abbrev pub IsAnswered : Result (List Listed) NoMemory → Progress → Type 0
IsAnswered (Ok ts) r = r ≡ Done (reply.Ok (payload.Tasks ts))
IsAnswered (Err e) r = r ≡ Done (reply.Refused OutOfMemory)
