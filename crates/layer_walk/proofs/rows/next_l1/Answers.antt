use Rattle.image_model.specs.File.{file_of}
use Rattle.layer_walk.specs.Known.{tables_of}
use Rattle.layer_walk.proofs.L1Walks.{l1_end}
use Rattle.layer_walk.proofs.rows.next_l1.Goals as goal

pub returns-then-i-work-clause-next : goal.returns-then-i-work-clause-next
returns-then-i-work-clause-next c capacity count sectors fits known =
    c.end_walk.ensures.next capacity count sectors fits (l1_end (tables_of c.args.work (file_of count sectors)) capacity c.args.i c.args.work.marks c.if-i-work.true known.tables)
