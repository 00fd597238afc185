use Rattle.std.proofs.Common.{subst, arith}
use Rattle.image_model.specs.File.{file_of}
use Rattle.layer_walk.specs.Known.{HeadKnown, tables_of}
use Rattle.layer_walk.proofs.ask.ask_next.Goals as goal

pub returns-clause-next : goal.returns-clause-next
returns-clause-next c capacity count sectors fits known =
    c.ask_head.ensures.next capacity count sectors fits
    (subst (λ n. HeadKnown (tables_of c.args.work (file_of count sectors)) capacity n c.args.end c.args.fault) (omega (arith, known.1, c.saturating_add.ensures, c.ranges.end.fits)) known.0)
