use Rattle.std.proofs.Common.{refl}
use Rattle.layer_linking.proofs.Places.{none_given}
use Rattle.layer_linking.proofs.links.Links.none.Goals as goal

pub returns-clause-to : goal.returns-clause-to
returns-clause-to c k = none_given c.args.group k _ refl
