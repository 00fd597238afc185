use Rattle.std.proofs.Common.{◌≡◌, ◌+◌, ◌*◌, ◌≤◌, ◌++◌, take, drop}
use Rattle.task_store.specs.TaskText.{step_lines}
use Rattle.task_store.proofs.writing.put_steps.Given as goal

abbrev pub invariant-loop-step : goal.invariant-loop-step
invariant-loop-step l =
    (l.number ≡ l.step-index) × (l.end ≤ l.at + 334 * l.step-index) × (take l.end l.into ++ step_lines l.number (drop l.step-index l.steps) ≡ take l.at l.fn.into ++ step_lines 0 l.steps)
