use Rattle.pool_model.proofs.Stable.{downs_know, lists_stay, others_know}
use Rattle.pool_model.proofs.laws.knowledge_survives_others.Goals as goal

pub returns-clause-owned : goal.returns-clause-owned
returns-clause-owned c up d p q h g x stands owned apart some alive which knows = others_know up d p q h g stands apart owned some alive x which knows

pub returns-clause-down : goal.returns-clause-down
returns-clause-down c up d p q h g x stands down apart knows = downs_know up d p q h g stands apart down x knows

pub returns-clause-lists : goal.returns-clause-lists
returns-clause-lists c up d p q h g m domains tasks stands owned apart some alive knows lists = lists_stay up d p q h g stands apart owned some alive m domains tasks knows lists
