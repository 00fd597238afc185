use Rattle.std.proofs.Common.{sym, subst}
use Rattle.layer_walk.specs.Counting.{Takes}
use Rattle.layer_walk.proofs.Takes.{took_row}
use Rattle.layer_walk.proofs.counting.take_counts.Goals as goal

pub returns-in-Row : goal.returns-in-Row
returns-in-Row c =
    subst (λ n. Takes c.args.header.now n c.args.sector.now c.args.marks.now c.scan.new.marks c.scan.result) (sym c.in-Row.is)
    (took_row c.args.header.now c.in-Row.entry c.args.sector.now c.args.marks.now c.scan.new.marks c.scan.result c.requires.low c.scan.ensures)
