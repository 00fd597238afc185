-- What the words ask for, and how a session stands before its first line.
use Rattle.std.specs.Prelude.{◌≡◌, ℕ, ◌+◌, ◌≤◌, false, List, [], ◌++◌, length, Option, Some}
use Rattle.shared_disk.specs.Content.{zero_sector}
use Rattle.command_words.specs.Asked.{Asked, run}
use Rattle.script_loop.specs.Ends.{most_input}
use Rattle.script_loop.specs.declared.status.Status.{Status}
use Rattle.script_loop.specs.declared.status.Status.TheVariants as status
use Rattle.pool_session.specs.Run.{Flat}
use Rattle.script_loop.specs.Script.{script_of}
use Rattle.pool_session.specs.declared.stage.Stage.TheVariants.{Off}

-- what a source tells before a run and behind it: that which gives the script, and is another than the caller's for `run`
abbrev pub Gives : Option Asked → Option (List ℕ) → Option (List ℕ) → Option (List ℕ) → Option (List ℕ) → Type 0
Gives (Some (run moment lines)) before after left left' = left ≡ Some (script_of lines)
Gives _ before after left left' = (left ≡ before) × (left' ≡ after)

-- a front of the input was taken, of at most one byte more than lines are run of
abbrev pub TakesAtMost : List ℕ → Option (List ℕ) → Type 0
TakesAtMost input now = (taken : List ℕ) × (left : List ℕ) × (now ≡ Some left) × (input ≡ taken ++ left) × (length taken ≤ most_input + 1)

-- the host is off, all sectors are zeros, and there was no reply
abbrev pub start : ℕ → Flat
start faults = record { state = record { stage = Off; flat = λ n. zero_sector; faults = faults; refusals = false }; reply = [] }

-- something holds where a script was run
abbrev pub IfRan : Status → Type 0 → Type 0
IfRan status.Words P = Unit {0}
IfRan status.Memory P = Unit {0}
IfRan _ P = P
