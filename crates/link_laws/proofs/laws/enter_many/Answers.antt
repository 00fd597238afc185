use Rattle.link_laws.proofs.Many.{linked}
use Rattle.link_laws.proofs.laws.enter_many.Goals as goal

pub returns : goal.returns
returns c n capacity group table to s s' h are is sound whole low l1 links laid =
    linked n capacity group table to s s' h are is sound whole low l1 links laid
