use Rattle.std.proofs.Common.{◌<◌, ◌≤◌, subst}
use Rattle.layer_walk.proofs.Turns.{rest_more, rest_none, turned, turned_past, turned_rest}
use Rattle.layer_walk.proofs.counting.turn.Goals as goal

pub returns-then-entry-end : goal.returns-then-entry-end
returns-then-entry-end c = turned_past c.args.header.now c.args.entry c.args.marks.now c.requires.low (subst (λ n. n ≤ c.args.entry) c.ranges-end.ensures c.if-entry-end.true)

pub returns-then-entry-table_entries : goal.returns-then-entry-table_entries
returns-then-entry-table_entries c =
    turned c.args.header.now c.args.entry c.args.marks.now c.requires.low (subst (λ n. c.args.entry < n) c.ranges-end.ensures c.if-entry-end.false)
    (subst (λ n. c.args.entry < n) c.table_entries.ensures c.if-entry-table_entries.true)

pub loop-k-init : goal.loop-k-init
loop-k-init c = rest_none c.args.header.now c.args.entry c.args.marks.now

pub loop-k-preserved : goal.loop-k-preserved
loop-k-preserved c =
    rest_more c.args.header.now c.args.entry c.loop-k.k c.args.marks.now c.loop-k.marks c.pass_range.new.marks c.loop-k.auto.k c.loop-k.invariant c.pass_range.ensures

pub returns : goal.returns
returns c =
    turned_rest c.args.header.now c.args.entry c.loop-k.k c.args.marks.now c.loop-k.marks c.requires.low (subst (λ n. n ≤ c.args.entry) c.table_entries.ensures c.if-entry-table_entries.false)
    (subst (λ n. n ≤ c.loop-k.k) c.ranges-end.ensures c.loop-k-test.false) c.loop-k.invariant
