use Rattle.std.proofs.Common.{arith}
use Rattle.image_model.specs.File.{file_of}
use Rattle.layer_walk.specs.Known.{tables_of}
use Rattle.layer_walk.specs.Left.{blocks_of}
use Rattle.layer_walk.proofs.Falls.{blocks_fewer}
use Rattle.layer_walk.proofs.Moves.{fits_file}
use Rattle.layer_walk.proofs.SectorReads.{counts_read}
use Rattle.layer_walk.proofs.step.take_counted.Goals as goal

pub returns-in-None-clause-next : goal.returns-in-None-clause-next
returns-in-None-clause-next c capacity count sectors fits read known =
    c.finish_counts.ensures.next capacity count sectors (fits_file (tables_of c.args.work (file_of count sectors)) c.args.work.marks c.take_counts.new.marks c.in-None.ensures.keeps fits)
    (counts_read c.args.work capacity count sectors c.args.fault c.args.count c.take_counts.new.marks c.args.sector.now _ read known c.in-None.ensures)

pub returns-in-Some-clause-falls : goal.returns-in-Some-clause-falls
returns-in-Some-clause-falls c tables rule fits =
    let few = c.in-Some.ensures.falls (blocks_of c.args.work.header tables) (λ a b le. blocks_fewer c.args.work.header tables a b rule le) fits.0 in
    omega (arith, few)

pub returns-in-Some-clause-next : goal.returns-in-Some-clause-next
returns-in-Some-clause-next c capacity count sectors fits read known =
    counts_read c.args.work capacity count sectors c.args.fault c.args.count c.take_counts.new.marks c.args.sector.now _ read known c.in-Some.ensures
