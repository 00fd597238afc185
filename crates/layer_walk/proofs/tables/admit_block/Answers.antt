use Rattle.std.proofs.Common.{arith}
use Rattle.layer_walk.specs.Items.{item_of}
use Rattle.layer_walk.proofs.Passing.{block_admitted, block_refused}
use Rattle.layer_walk.proofs.tables.admit_block.Goals as goal

pub returns-in-Some : goal.returns-in-Some
returns-in-Some c =
    block_refused c.args.header.now c.args.k c.saturating_add-at.result c.args.bits c.args.marks.now c.admit.new.self (item_of c.block_item-item.result)
    c.block_item-item.ensures.item (λ low. omega (arith, low, c.saturating_add-at.ensures, c.saturating_mul.ensures)) c.block_item-item.ensures.aligned c.in-Some.fault c.in-Some.ensures

pub returns-in-None : goal.returns-in-None
returns-in-None c =
    block_admitted c.args.header.now c.args.k c.saturating_add-at.result c.args.bits c.args.marks.now c.admit.new.self (item_of c.block_item-item.result)
    c.block_item-item.ensures.item (λ low. omega (arith, low, c.saturating_add-at.ensures, c.saturating_mul.ensures)) c.block_item-item.ensures.aligned c.in-None.ensures
