use Rattle.volume_chain.proofs.Anew.{fresh_chain_known}
use Rattle.volume_chain.proofs.laws.fresh_chains_are_known.Goals as goal

pub returns : goal.returns
returns c chain sd id v version bytes host x d base fits is made = fresh_chain_known chain sd id v version bytes host x d base fits is made
