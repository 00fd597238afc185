-- A host as the pool's machine sees it: a function of its memory, and of what a claim takes from the begin of its verb.
use Rattle.std.specs.Prelude.{List, [], ◌∷◌, Option, Some, None}
use Rattle.pool_model.specs.Marks.{Mark, change, check, clear, still_leads, yield}
use Rattle.pool_model.specs.Role.{Role, leads, outside}
use Rattle.pool_model.specs.State.{HostState, Kept, Running}
use Rattle.pool_model.specs.Verb.{Verb}
use Rattle.pool_model.specs.Verb as verb
use Rattle.sd_names.specs.declared.verb.Verb.{Verb as Said}
use Rattle.sd_names.specs.declared.verb.Verb.TheVariants as said
use Rattle.host_core.specs.Memory.{Leader, Memory}
use Rattle.host_core.specs.declared.work.Work.{Work}
use Rattle.host_core.specs.declared.work.Work.TheVariants as work

abbrev pub role_by : Option Leader → Role
role_by None = outside
role_by (Some l) = leads (record { master = l.master; version = l.lease.version; begun = l.begun })

-- the verb of some work, and the marks that are still to come
abbrev pub verb_of : Work → Verb
verb_of work.Stop = verb.spm_stop
verb_of (work.Clear t) = verb.clear_task t
verb_of work.Tasks = verb.tasks

abbrev pub stop_marks : Option Leader → List Mark
stop_marks None = []
stop_marks (Some l) = check (still_leads l.master l.lease.version) ∷ change (yield l.master l.lease.version) ∷ []

abbrev pub marks_of : Work → Option Leader → List Mark
marks_of work.Stop leading = stop_marks leading
marks_of (work.Clear t) leading = change (clear t) ∷ []
marks_of work.Tasks leading = []

abbrev pub running_by : Kept → Memory → Option Work → Option Running
running_by k x None = None
running_by k x (Some w) = Some (record { verb = verb_of w; marks = marks_of w x.leading; tally = 0; steps = x.steps; kept = k })

abbrev pub state_of : Kept → Memory → HostState
state_of k x = record { role = role_by x.leading; opened = λ s. None; running = running_by k x x.work }

-- ---- the verbs

-- those that a host runs
abbrev pub IsHosted : Said → Type 0
IsHosted said.SpmStop = Unit {0}
IsHosted (said.ClearTask t) = Unit {0}
IsHosted said.Tasks = Unit {0}
IsHosted _ = ⊥
