-- A step of a settling as a turn of the host's machine, in the verbs that recover a pool.
use Rattle.std.specs.Prelude.{◌≡◌, ◌⊎◌, ℕ, ◌+◌, ◌-◌, ◌^◌, min, List, ◌∷◌, Option, Some, None}
use Rattle.sd_names.specs.UpSet.{Hosts}
use Rattle.sd_names.specs.declared.id.Id.{Id}
use Rattle.sd_names.specs.declared.turn.Turn.TheVariants.{More, Done, Ended}
use Rattle.shared_disk.specs.Content.{Content}
use Rattle.task_store.specs.declared.task.Task.{Task}
use Rattle.pool_model.specs.Kept.{StillKept}
use Rattle.pool_model.specs.Marks.{Mark, repeat, settle}
use Rattle.pool_model.specs.Pool.{Pool}
use Rattle.pool_model.specs.State.{HostState, Kept, Running}
use Rattle.pool_model.specs.Turns.{Answer, HostTurns, more, refused}
use Rattle.pool_model.specs.Verb.{Verb}
use Rattle.pool_model.specs.Verb as verb
use Rattle.task_settling.specs.Settling.{SettleTurn}
use Rattle.task_settling.specs.Steps.{Stepped}

-- the verbs that settle open tasks
abbrev pub Recovers : Verb → Type 0
Recovers v = (v ≡ verb.recover) ⊎ ((sd : Id) × ((prev : ℕ) × ((lver : ℕ) × (v ≡ verb.spm_start sd prev lver))))

abbrev pub running_with : Verb → Kept → ℕ → ℕ → List Mark → Running
running_with v k tally steps ms = record { verb = v; marks = ms; tally = tally; steps = steps; kept = k }

abbrev pub next_steps : ℕ → ℕ
next_steps steps = min (steps + 1) (2 ^ 64 - 1)

-- what a turn leaves running: the mark that settles is still to come, or those behind it are, with one task more
abbrev pub running_after : Verb → Kept → ℕ → ℕ → List Mark → SettleTurn → Option Running
running_after v k tally steps ms (More next) = Some (running_with v k tally (next_steps steps) (repeat settle ∷ ms))
running_after v k tally steps ms (Done state) = Some (running_with v k (tally + 1) (next_steps steps) ms)
running_after v k tally steps ms (Ended _ refusal) = None

-- a host that runs this, and is as this one in all else
abbrev pub runs : HostState → Option Running → HostState
runs x run = record { role = x.role; opened = x.opened; running = run }

-- what a turn answers: the verb isn't at its end with it, unless the disk failed
abbrev pub answer_of : SettleTurn → Answer
answer_of (More next) = more
answer_of (Done state) = more
answer_of (Ended _ refusal) = refused refusal

-- What a step has done is a turn of the machine that fits its answer, to the pool that the disk stands for, whatever the host is
-- besides, whatever its verb has kept, and however many steps and tasks it has counted.
abbrev pub SettlingsTurn : Type 0
SettlingsTurn =
    (h faults : ℕ) (up : Hosts) (v : Verb) (k l : Kept) (tally steps : ℕ) (x : HostState) (ms : List Mark) (task : Task) (turn : SettleTurn) (d e : Content) (p : Pool) → Recovers v → StillKept k l
    → (done : Stepped h up task faults turn d p e)
    → HostTurns h up (runs x (Some (running_with v k tally steps (repeat settle ∷ ms)))) p (answer_of turn) (runs x (running_after v l tally steps ms turn)) done.pool
