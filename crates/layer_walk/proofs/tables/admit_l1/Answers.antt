use Rattle.std.proofs.Common.{arith}
use Rattle.layer_walk.specs.Items.{item_of}
use Rattle.layer_walk.proofs.Passing.{l1_refused, l1_admitted}
use Rattle.layer_walk.proofs.tables.admit_l1.Goals as goal

pub returns-in-Some : goal.returns-in-Some
returns-in-Some c =
    l1_refused c.args.header.now c.args.i c.saturating_add.result c.args.bits c.args.marks.now c.admit.new.self (item_of c.l1_item-item.result)
    c.l1_item-item.ensures.item (λ low. omega (arith, low, c.saturating_add.ensures)) c.l1_item-item.ensures.aligned c.in-Some.fault c.in-Some.ensures

pub returns-in-None : goal.returns-in-None
returns-in-None c =
    l1_admitted c.args.header.now c.args.i c.saturating_add.result c.args.bits c.args.marks.now c.admit.new.self (item_of c.l1_item-item.result)
    c.l1_item-item.ensures.item (λ low. omega (arith, low, c.saturating_add.ensures)) c.l1_item-item.ensures.aligned c.in-None.ensures
