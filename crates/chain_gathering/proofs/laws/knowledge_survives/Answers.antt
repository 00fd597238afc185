use Rattle.chain_gathering.proofs.Survival.{gathered_survives, knows_survives}
use Rattle.chain_gathering.proofs.laws.knowledge_survives.Goals as goal

pub returns-clause-between : goal.returns-clause-between
returns-clause-between c g host d e there grown knows = knows_survives g.target g.kept host d e g.stage there grown knows

pub returns-clause-gathered : goal.returns-clause-gathered
returns-clause-gathered c g kept d e there grown is = gathered_survives g.target kept d e there grown is
