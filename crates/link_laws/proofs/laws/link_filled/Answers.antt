use Rattle.link_laws.proofs.Made.{linked}
use Rattle.link_laws.proofs.laws.link_filled.Goals as goal

pub returns : goal.returns
returns c n capacity group table to s t s' h are are_t are' is sound whole low none links new outside full only word =
    linked n capacity group table to s t s' h are are_t are' is sound whole low none links new outside full only word
