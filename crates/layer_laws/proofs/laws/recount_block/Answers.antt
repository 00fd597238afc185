use Rattle.layer_laws.proofs.Blocks.{block_recounted}
use Rattle.layer_laws.proofs.laws.recount_block.Goals as goal

pub returns : goal.returns
returns c n capacity k s s' h are is sound there outside some = block_recounted n capacity k s s' h are is sound there outside some
