use Rattle.chain_settling.proofs.Reopened.{settled_open}
use Rattle.chain_settling.proofs.reopening.settled_chains_are_open.Goals as goal

pub returns : goal.returns
returns c chain host x d v vs k valid openable = settled_open chain host x d v vs k valid openable
