use Rattle.std.proofs.Common.{sym, ◌∙◌, arith}
use Rattle.layer_walk.specs.Items.{layer_of}
use Rattle.layer_walk.proofs.Entries.{block_placed}
use Rattle.layer_walk.proofs.item.block_item.Goals as goal

pub returns-clause-item : goal.returns-clause-item
returns-clause-item c file k at word =
    c.placed.ensures.item file
    ∙ sym (block_placed (layer_of c.args.header.now file) k c.args.at c.args.bits at word (omega (arith, c.if-bits-ne0.false)) (omega (arith, c.if-bits-eq0.false)))
