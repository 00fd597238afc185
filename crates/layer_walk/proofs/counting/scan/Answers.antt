use Rattle.std.proofs.Common.{◌≡◌, ◌*◌, ◌/◌, refl, ap, arith, subst}
use Rattle.layer_walk.proofs.Turns.{few_ranges, row_more, row_none, scanned, scanned_row}
use Rattle.layer_walk.proofs.counting.scan.Goals as goal

pub loop-k-init : goal.loop-k-init
loop-k-init c = row_none c.args.header.now c.args.entry c.args.row.now c.args.marks.now

pub loop-k-preserved : goal.loop-k-preserved
loop-k-preserved c =
    row_more c.args.header.now c.args.entry c.loop-k.k c.args.row.now c.args.marks.now c.loop-k.marks c.pass_range.new.marks c.loop-k.auto.k
    (omega (arith, c.loop-k-test.true, c.end_of_row-end.ensures.upto)) (omega (arith, c.loop-k-test.true, c.end_of_row-end.ensures.table))
    (subst (λ n. n / 512 * 512 ≡ 0) c.word_at.ensures c.if-place-ne0.false) c.loop-k.invariant c.pass_range.ensures

pub invariant_of-result : goal.invariant_of-result
invariant_of-result c = record {
  near =
      let few = few_ranges c.args.header.now c.args.marks.now c.requires.low in
      omega (arith, c.loop-k-test.true, c.end_of_row-end.ensures.map, few);
  low = omega arith;
}

pub returns-then-place-ne0 : goal.returns-then-place-ne0
returns-then-place-ne0 c =
    scanned c.args.header.now c.args.entry c.args.row.now c.args.marks.now c.loop-k.marks _ c.requires.low c.loop-k.auto.k
    (omega (arith, c.loop-k-test.true, c.end_of_row-end.ensures.upto)) (omega (arith, c.loop-k-test.true, c.end_of_row-end.ensures.table))
    (omega (arith, c.loop-k-test.true, c.end_of_row-end.ensures.map)) (ap (λ n. n / 512 * 512) c.word_at.ensures) c.if-place-ne0.true refl refl c.loop-k.invariant

pub returns : goal.returns
returns c =
    scanned_row c.args.header.now c.args.entry c.loop-k.k c.end_of_row-end.result c.args.row.now c.args.marks.now c.loop-k.marks c.turn.new.marks c.turn.result c.requires.low
    (λ le. omega (arith, le, c.loop-k-test.false, c.loop-k.auto.k-end)) c.end_of_row-end.ensures c.loop-k.invariant c.turn.ensures
