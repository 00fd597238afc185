use Rattle.guest_laws.proofs.Lower.{lower_known}
use Rattle.guest_laws.proofs.laws.lower_volumes_stay_known.Goals as goal

pub returns : goal.returns
returns c = lower_known
