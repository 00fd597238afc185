use Rattle.pool_recovering.proofs.recovering.PoolRecovery.begin.Goals as goal

pub returns-clause-knows : goal.returns-clause-knows
returns-clause-knows c h tasks d p master leads = record { leads = leads; domain = c.begin.ensures.begun.domain; listing = c.begin.ensures.knows p master }
