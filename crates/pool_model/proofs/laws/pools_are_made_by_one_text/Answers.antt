use Rattle.pool_model.proofs.Making.{made_pool_stands, making_stands}
use Rattle.pool_model.proofs.laws.pools_are_made_by_one_text.Goals as goal

pub returns-clause-before : goal.returns-clause-before
returns-clause-before c up d e p sd stands master changes none = making_stands up d p stands master e sd changes none

pub returns-clause-made : goal.returns-clause-made
returns-clause-made c up d e p r stands master changes new = made_pool_stands up d p stands master e r changes new
