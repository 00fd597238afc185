use Rattle.layer_laws.proofs.Enters.{entered}
use Rattle.layer_laws.proofs.laws.enter.Goals as goal

pub returns : goal.returns
returns c n capacity k table place s s' h are is sound low l1 inside only new begins fits some free =
    entered n capacity k table place s s' h are is sound low l1 inside only new begins fits some free
