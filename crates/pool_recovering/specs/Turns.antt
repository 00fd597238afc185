-- A step of a recovery as a turn of the host's machine, in the verbs that recover a pool.
use Rattle.std.specs.Prelude.{ℕ, ◌+◌, List, ◌∷◌, Option, Some, None}
use Rattle.sd_names.specs.UpSet.{Hosts}
use Rattle.sd_names.specs.declared.id.Id.{Id}
use Rattle.sd_names.specs.declared.turn.Turn.TheVariants.{More, Done, Ended}
use Rattle.shared_disk.specs.Content.{Content}
use Rattle.pool_model.specs.Kept.{StillKept}
use Rattle.pool_model.specs.Marks.{Mark, repeat, settle}
use Rattle.pool_model.specs.Pool.{Pool}
use Rattle.pool_model.specs.State.{HostState, Kept, Running}
use Rattle.pool_model.specs.Turns.{Answer, HostTurns, more, refused}
use Rattle.pool_model.specs.Verb.{Verb}
use Rattle.task_listing.specs.Listing.{Noted}
use Rattle.task_settling.specs.Turns.{Recovers, next_steps, running_with, runs}
use Rattle.pool_recovering.specs.Recovering.{RecoveryTurn}
use Rattle.pool_recovering.specs.Steps.{Stepped}

-- what a turn leaves running: the mark that settles is still to come, or those behind it are, with as many tasks more as were open
abbrev pub running_after : Verb → Kept → ℕ → ℕ → List Mark → RecoveryTurn → Option Running
running_after v k tally steps ms (More next) = Some (running_with v k tally (next_steps steps) (repeat settle ∷ ms))
running_after v k tally steps ms (Done count) = Some (running_with v k (tally + count) (next_steps steps) ms)
running_after v k tally steps ms (Ended _ refusal) = None

-- what a turn answers: the verb isn't at its end with it, unless it was refused
abbrev pub answer_of : RecoveryTurn → Answer
answer_of (More next) = more
answer_of (Done count) = more
answer_of (Ended _ refusal) = refused refusal

-- What a step has done is a turn of the machine that fits its answer, to the pool that the disk stands for, whatever the host is
-- besides, whatever its verb has kept, and however many steps and tasks it has counted.
abbrev pub RecoveriesTurn : Type 0
RecoveriesTurn =
    (h faults : ℕ) (up : Hosts) (v : Verb) (k l : Kept) (tally steps : ℕ) (x : HostState) (ms : List Mark) (master : Id) (tasks : List Noted) (turn : RecoveryTurn) (d e : Content) (p : Pool)
    → Recovers v → StillKept k l → (done : Stepped h up master tasks faults turn d p e)
    → HostTurns h up (runs x (Some (running_with v k tally steps (repeat settle ∷ ms)))) p (answer_of turn) (runs x (running_after v l tally steps ms turn)) done.pool
