use Rattle.image_deleting.specs.Deleting.{IsHeldBy, stage_of}
use Rattle.image_tests.proofs.deleting.delete.Given as goal

abbrev pub invariant-loop-step : goal.invariant-loop-step
invariant-loop-step l = IsHeldBy (stage_of l.work) l.host
