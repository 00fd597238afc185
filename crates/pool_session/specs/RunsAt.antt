-- An event that is run over a disk, as the flat machine runs it.
use Rattle.std.specs.Prelude.{◌≡◌, ℕ, Bool, List, Option, Some}
use Rattle.script_lines.specs.Said.{Event}
use Rattle.script_loop.specs.declared.runner.LineOutcome.{LineOutcome}
use Rattle.shared_disk.specs.Content.{Content}
use Rattle.pool_session.specs.Machine.{State, Stands}
use Rattle.pool_session.specs.Run.{RunsEvent}
use Rattle.pool_session.specs.declared.stage.Stage.{Stage}

-- a state of the flat machine
abbrev pub state_at : Stage → (ℕ → List ℕ) → ℕ → Bool → State
state_at stage flat faults refusals = record { stage = stage; flat = flat; faults = faults; refusals = refusals }

-- the disk tells what it holds, and that is what the stage has, with these sectors
pub record Reached (stage : Stage) (content : Option Content) (flat : ℕ → List ℕ) : Type 0 where
  pub disk : Content
  pub tells : content ≡ Some disk
  pub stands : Stands stage flat disk

-- The line of a number, which is this event, was run, from a stage, a content and a count of faults to others: where the disk
-- tells what it holds, as the flat machine runs it.
abbrev pub RunsAt : Stage → Stage → Option Content → Option Content → ℕ → ℕ → ℕ → Event → LineOutcome → List ℕ → Type 0
RunsAt stage stage' content content' faults faults' number event outcome reply =
    (flat : ℕ → List ℕ) (refusals : Bool) → Reached stage content flat
    → (flat' : ℕ → List ℕ) × (refusals' : Bool) × Reached stage' content' flat'
    × RunsEvent number (state_at stage flat faults refusals) event outcome reply (state_at stage' flat' faults' refusals')
