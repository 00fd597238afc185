use Rattle.std.proofs.Common.{◌<◌, subst}
use Rattle.layer_walk.specs.Items.{item_of}
use Rattle.layer_walk.specs.Positions.{head_count}
use Rattle.layer_walk.proofs.Heads.{head_next, head_stops}
use Rattle.layer_walk.proofs.head.check_head.Goals as goal

pub returns-in-Some : goal.returns-in-Some
returns-in-Some c =
    head_stops c.args.header.now c.loop-n.n c.args.marks.now c.loop-n.marks c.admit.new.self (item_of c.head_item.result) c.loop-n.invariant c.head_item.ensures
    (head_count c.args.header.now) c.in-Some.fault (subst (λ m. c.loop-n.n < m) c.head_clusters-n-end.ensures.value c.loop-n-test.true) c.in-Some.ensures

pub loop-n-preserved : goal.loop-n-preserved
loop-n-preserved c =
    head_next c.args.header.now c.loop-n.n c.args.marks.now c.loop-n.marks c.admit.new.self (item_of c.head_item.result) c.loop-n.invariant c.head_item.ensures c.in_default.ensures
