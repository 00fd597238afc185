use Rattle.std.proofs.Common.{◌<◌, ◌≤◌, Some, None, Ok, Err, subst, arith}
use Rattle.layer_walk.specs.Positions.{PassesL1, row_end}
use Rattle.layer_walk.proofs.Passing.{row_found, row_next, row_over, row_faulted}
use Rattle.layer_walk.proofs.tables.pass_l1.Goals as goal

pub returns-in-Err : goal.returns-in-Err
returns-in-Err c =
    row_faulted c.args.header.now c.args.i c.loop-k.k c.args.sector.now c.args.marks.now c.loop-k.marks c.admit_l1.new.marks c.loop-k.invariant.0 (subst (λ n. c.loop-k.k < n) c.end_of_row-end.ensures c.loop-k-test.true) c.loop-k.invariant.1
    (row_end c.args.header.now c.args.i) c.in-Err.fault
    (subst (λ b. PassesL1 c.args.header.now c.loop-k.k b c.loop-k.marks c.admit_l1.new.marks (Err c.in-Err.fault)) c.word_at-bits.ensures c.in-Err.ensures)

pub returns-in-Some : goal.returns-in-Some
returns-in-Some c =
    row_found c.args.header.now c.args.i c.loop-k.k c.args.sector.now c.args.marks.now c.loop-k.marks c.admit_l1.new.marks c.loop-k.invariant.0 (subst (λ n. c.loop-k.k < n) c.end_of_row-end.ensures c.loop-k-test.true) c.loop-k.invariant.1
    (row_end c.args.header.now c.args.i) c.in-Some.place
    (subst (λ b. PassesL1 c.args.header.now c.loop-k.k b c.loop-k.marks c.admit_l1.new.marks (Ok (Some c.in-Some.place))) c.word_at-bits.ensures
    (subst (λ o. PassesL1 c.args.header.now c.loop-k.k c.word_at-bits.result c.loop-k.marks c.admit_l1.new.marks (Ok o)) c.in-Some.is c.in-Ok.ensures))

pub loop-k-preserved : goal.loop-k-preserved
loop-k-preserved c = (
  omega (arith, c.loop-k.invariant.0),
  row_next c.args.header.now c.args.i c.loop-k.k c.args.sector.now c.args.marks.now c.loop-k.marks c.admit_l1.new.marks c.loop-k.invariant.0 (subst (λ n. c.loop-k.k < n) c.end_of_row-end.ensures c.loop-k-test.true) c.loop-k.invariant.1
      (subst (λ b. PassesL1 c.args.header.now c.loop-k.k b c.loop-k.marks c.admit_l1.new.marks (Ok None)) c.word_at-bits.ensures
      (subst (λ o. PassesL1 c.args.header.now c.loop-k.k c.word_at-bits.result c.loop-k.marks c.admit_l1.new.marks (Ok o)) c.in_default.is c.in-Ok.ensures)),
)

pub returns : goal.returns
returns c =
    row_over c.args.header.now c.args.i c.loop-k.k c.args.sector.now c.args.marks.now c.loop-k.marks (subst (λ n. n ≤ c.loop-k.k) c.end_of_row-end.ensures c.loop-k-test.false)
    (subst (λ n. c.args.i ≤ n → c.loop-k.k ≤ n) c.end_of_row-end.ensures c.loop-k.auto.k-end) c.loop-k.invariant.1
