use Rattle.std.proofs.Common.{◌+◌, arith}
use Rattle.image_model.specs.File.{file_of}
use Rattle.layer_walk.specs.Known.{tables_of}
use Rattle.layer_walk.proofs.L1Walks.{l1_end}
use Rattle.layer_walk.proofs.rows.finish_table.Goals as goal

pub returns-then-next-work-clause-next : goal.returns-then-next-work-clause-next
returns-then-next-work-clause-next c capacity count sectors fits known =
    c.end_walk.ensures.next capacity count sectors fits
    (l1_end (tables_of c.args.work (file_of count sectors)) capacity (c.args.i + 1) c.args.work.marks (omega (arith, c.if-next-work.true, c.saturating_add-next.ensures, known.inside)) known.tables)
