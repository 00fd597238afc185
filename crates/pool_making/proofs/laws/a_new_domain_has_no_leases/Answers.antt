use Rattle.pool_making.proofs.NewText.{new_leases}
use Rattle.pool_making.proofs.laws.a_new_domain_has_no_leases.Goals as goal

pub returns : goal.returns
returns c sd text d slot within is = new_leases sd text d slot within is
