use Rattle.chain_settling.specs.Settling.{stage_of}
use Rattle.chain_settling.proofs.Early.{early_knows}
use Rattle.chain_settling.proofs.Grown.{grown_knows}
use Rattle.chain_settling.proofs.Survives.{down_knows, untouched_knows}
use Rattle.chain_settling.proofs.laws.known_settlings_stay_known.Goals as goal

pub returns-clause-untouched : goal.returns-clause-untouched
returns-clause-untouched c s host r x d e formed there same k = untouched_knows (stage_of s) host r x d e formed there same k

pub returns-clause-down : goal.returns-clause-down
returns-clause-down c s host other r x d e apart down k = down_knows (stage_of s) host other r x d e apart down k

pub returns-clause-grown : goal.returns-clause-grown
returns-clause-grown c s host size r x v d e formed after grows off k = grown_knows (stage_of s) host r x size v d e formed after grows off k

pub returns-clause-early : goal.returns-clause-early
returns-clause-early c s host size b r x l d e formed after grows is room before k = early_knows (stage_of s) host r x size b l d e formed after grows is room before k
