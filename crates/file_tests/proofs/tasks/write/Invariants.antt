use Rattle.task_files.specs.Write.{IsFor}
use Rattle.file_tests.proofs.tasks.write.Given as goal

abbrev pub invariant-loop-step : goal.invariant-loop-step
invariant-loop-step l = IsFor l.fn.task l.work
