use Rattle.std.proofs.Common.{◌≡◌, ◌+◌, ◌*◌, ◌/◌, Ok, refl, ap, subst, arith}
use Rattle.image_model.specs.File.{file_of}
use Rattle.layer_walk.specs.Known.{tables_of}
use Rattle.layer_walk.specs.Positions.{PassesRow, row_end}
use Rattle.layer_walk.specs.Counting.{block_parts}
use Rattle.layer_walk.specs.Left.{behind_left, l1_left, l1_start, rows_behind}
use Rattle.layer_walk.proofs.Falls.{below_more, row_fewer, table_fewer}
use Rattle.layer_walk.proofs.Passing.{min_below}
use Rattle.layer_walk.proofs.L1Walks.{row_ends, row_faulted, row_tables}
use Rattle.layer_walk.proofs.Moves.{fits_after}
use Rattle.layer_walk.proofs.rows.pass_row.Goals as goal

pub returns-in-Err-clause-next : goal.returns-in-Err-clause-next
returns-in-Err-clause-next c capacity count sectors fits known =
    c.stop_walk.ensures.next capacity count sectors (fits_after (tables_of c.args.work (file_of count sectors)) c.args.work.marks c.pass_l1.new.marks c.in-Err.ensures.keeps fits)
    (row_faulted c.args.work (file_of count sectors) capacity c.args.i c.pass_l1.new.marks c.args.row fits known c.in-Err.fault c.in-Err.ensures)

pub returns-in-None-clause-falls : goal.returns-in-None-clause-falls
returns-in-None-clause-falls c =
    let passes = subst (λ o. PassesRow c.args.work.header c.args.i (row_end c.args.work.header c.args.i) c.args.row c.args.work.marks c.pass_l1.new.marks (Ok o)) c.in-None.is c.in-Ok.ensures in
    below_more c.args.work.header (λ h tables. 1 + rows_behind h c.end_of_row.result + block_parts h * tables (l1_start h c.end_of_row.result) + behind_left h tables c.pass_l1.new.marks.noted)
    (λ h tables. l1_left h tables c.args.i + behind_left h tables c.args.work.marks.noted) c.next_l1.result
    (λ tables rule.
    let same : behind_left c.args.work.header tables c.pass_l1.new.marks.noted ≡ behind_left c.args.work.header tables c.args.work.marks.noted = ap (behind_left c.args.work.header tables) passes.keeps.noted in
    let few = row_fewer c.args.work.header tables c.args.i c.end_of_row.result (behind_left c.args.work.header tables c.args.work.marks.noted) rule c.if-i-header.false c.end_of_row.ensures in
    omega (arith, same, few)) c.next_l1.ensures.falls

pub returns-in-None-clause-next : goal.returns-in-None-clause-next
returns-in-None-clause-next c capacity count sectors fits known =
    let passes = subst (λ o. PassesRow c.args.work.header c.args.i (row_end c.args.work.header c.args.i) c.args.row c.args.work.marks c.pass_l1.new.marks (Ok o)) c.in-None.is c.in-Ok.ensures in
    c.next_l1.ensures.next capacity count sectors (fits_after (tables_of c.args.work (file_of count sectors)) c.args.work.marks c.pass_l1.new.marks passes.keeps fits)
    (row_ends c.args.work (file_of count sectors) capacity c.args.i c.pass_l1.new.marks c.args.row fits known c.end_of_row.result c.end_of_row.ensures passes)

pub returns-in-Some-clause-falls : goal.returns-in-Some-clause-falls
returns-in-Some-clause-falls c tables rule fits =
    let passes = subst (λ o. PassesRow c.args.work.header c.args.i (row_end c.args.work.header c.args.i) c.args.row c.args.work.marks c.pass_l1.new.marks (Ok o)) c.in-Some.is c.in-Ok.ensures in
    let within = passes.inside c.in-Some.table refl in
    let both = min_below c.in-Some.table.index c.args.work.header.l1_size (c.args.i / 64 * 64 + 64) within.1 in
    let same : behind_left c.args.work.header tables c.pass_l1.new.marks.noted ≡ behind_left c.args.work.header tables c.args.work.marks.noted = ap (behind_left c.args.work.header tables) passes.keeps.noted in
    let few = table_fewer c.args.work.header tables c.args.i c.in-Some.table.index (behind_left c.args.work.header tables c.args.work.marks.noted) rule c.args.work.low within.0 (omega (arith, within.0, both.1)) fits.0 in
    omega (arith, same, few)

pub returns-in-Some-clause-next : goal.returns-in-Some-clause-next
returns-in-Some-clause-next c capacity count sectors fits known =
    let passes = subst (λ o. PassesRow c.args.work.header c.args.i (row_end c.args.work.header c.args.i) c.args.row c.args.work.marks c.pass_l1.new.marks (Ok o)) c.in-Some.is c.in-Ok.ensures in
    row_tables c.args.work (file_of count sectors) capacity c.args.i c.pass_l1.new.marks c.args.row fits known c.in-Some.table passes
