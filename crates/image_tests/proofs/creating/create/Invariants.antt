use Rattle.image_creating.specs.Creating.{IsHeldBy, stage_of}
use Rattle.image_tests.proofs.creating.create.Given as goal

abbrev pub invariant-loop-step : goal.invariant-loop-step
invariant-loop-step l = IsHeldBy (stage_of l.work) l.host
