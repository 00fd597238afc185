-- A step of a freeing as a turn of the host's machine, in the verbs that recover a pool.
use Rattle.std.specs.Prelude.{◌≡◌, ℕ, List, [], ◌∷◌, Option, Some, None}
use Rattle.sd_names.specs.UpSet.{Hosts}
use Rattle.sd_names.specs.declared.id.Id.{Id}
use Rattle.sd_names.specs.declared.turn.Turn.TheVariants.{Done, Ended}
use Rattle.sd_names.specs.declared.verb.Payload.{Payload}
use Rattle.shared_disk.specs.Content.{Content}
use Rattle.pool_model.specs.Kept.{StillKept}
use Rattle.pool_model.specs.Marks.{Mark, liberate, repeat}
use Rattle.pool_model.specs.Pool.{Pool}
use Rattle.pool_model.specs.Rules.{Spent}
use Rattle.pool_model.specs.State.{HostState, Kept, Running}
use Rattle.pool_model.specs.Turns.{Answer, Ends, GivesBytes, HostTurns, done, more, refused}
use Rattle.pool_model.specs.Verb.{Verb}
use Rattle.task_settling.specs.Turns.{Recovers, next_steps, running_with, runs}
use Rattle.sector_freeing.specs.Freeing.{FreeTurn}
use Rattle.sector_freeing.specs.Stepped.{Stepped}

abbrev pub FreeRunning : Type 0
FreeRunning = Verb → Kept → ℕ → ℕ → List Mark → Running

-- the mark that frees is next
abbrev pub frees_next : FreeRunning
frees_next v k tally steps ms = running_with v k tally steps (repeat liberate ∷ ms)

-- what a turn leaves running, where there may be other domains: the mark that frees is still to come
abbrev pub running_after : Verb → Kept → ℕ → ℕ → List Mark → FreeTurn → Option Running
running_after v k tally steps ms (Ended _ refusal) = None
running_after v k tally steps ms _ = Some (frees_next v k tally (next_steps steps) ms)

-- what such a turn answers: the verb isn't at its end with it, unless the disk failed
abbrev pub answer_of : FreeTurn → Answer
answer_of (Ended _ refusal) = refused refusal
answer_of _ = more

-- What a step has done is a turn of the machine that fits its answer, to the pool that the disk stands for, whatever the host is
-- besides, whatever its verb has kept, and however many steps and tasks it has counted.
abbrev pub FreeingsTurn : Type 0
FreeingsTurn =
    (h faults : ℕ) (up : Hosts) (v : Verb) (k l : Kept) (tally steps : ℕ) (x : HostState) (ms : List Mark) (sd : Id) (turn : FreeTurn) (d e : Content) (p : Pool) → Recovers v → StillKept k l
    → (did : Stepped h up sd faults turn d p e)
    → HostTurns h up (runs x (Some (frees_next v k tally steps ms))) p (answer_of turn) (runs x (running_after v l tally steps ms turn)) did.pool

-- The last step is the end of a verb that has no mark behind this one, where nothing is left to free in the pool: with whatever the
-- verb answers then.
abbrev pub FreeingsEnd : Type 0
FreeingsEnd =
    (h faults : ℕ) (up : Hosts) (v : Verb) (k : Kept) (tally steps : ℕ) (x y : HostState) (reply : Payload) (sd : Id) (d e : Content) (p : Pool)
    → (did : Stepped h up sd faults (Done tt) d p e) → Spent liberate did.pool → y.running ≡ None
    → Ends h v tally (runs x (Some (frees_next v k tally steps []))) did.pool reply [] y → GivesBytes reply []
    → HostTurns h up (runs x (Some (frees_next v k tally steps []))) p (done reply []) y did.pool
