use Rattle.chain_settling.proofs.Reopened.{cut_opens}
use Rattle.chain_settling.proofs.reopening.cut_settlings_open_again.Goals as goal

pub returns : goal.returns
returns c i dir x d o v vs alike opens out openable = cut_opens i dir x d o v vs alike opens out openable
