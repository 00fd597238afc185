-- The marks of `spm-start` that are still to come, by how far a start is.
use Rattle.std.specs.Prelude.{ℕ, List, [], ◌∷◌, Option, Some, None}
use Rattle.sd_names.specs.declared.turn.Turn.TheVariants.{Done, Ended, More}
use Rattle.pool_model.specs.Marks.{Mark, liberate, recovery, repeat}
use Rattle.pool_model.specs.State.{Kept, Running}
use Rattle.pool_model.specs.Turns.{Answer, more, refused}
use Rattle.role_taking.specs.Asked.{Asked}
use Rattle.role_taking.specs.Marks.{marks_left as taking_marks, next_steps, running_with, verb_of}
use Rattle.role_starting.specs.Starting.{StartTurn}
use Rattle.role_starting.specs.declared.starting.RoleStarting.{RoleStarting}
use Rattle.role_starting.specs.declared.starting.RoleStarting.TheVariants.{Taking, Recovering}

abbrev pub marks_left : Asked → RoleStarting → List Mark
marks_left a (Taking t) = taking_marks a t
marks_left a (Recovering spm r) = recovery

-- what is still to come behind a start
abbrev pub marks_behind : List Mark
marks_behind = repeat liberate ∷ []

-- what a turn leaves running: behind the start its verb has settled as many tasks as were open
abbrev pub running_after : Asked → Kept → ℕ → StartTurn → Option Running
running_after a k steps (More next) = Some (running_with a k (next_steps steps) (marks_left a next))
running_after a k steps (Done (spm, count)) =
    Some (record { verb = verb_of a; marks = marks_behind; tally = count; steps = next_steps steps; kept = k })
running_after a k steps (Ended _ refusal) = None

-- what a turn answers: the verb isn't at its end with it, unless it was refused
abbrev pub answer_of : StartTurn → Answer
answer_of (More next) = more
answer_of (Done end) = more
answer_of (Ended _ refusal) = refused refusal
