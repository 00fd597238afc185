use Rattle.image_model.specs.File.{file_of}
use Rattle.layer_walk.specs.Known.{tables_of}
use Rattle.layer_walk.proofs.Ends.{counts_begin}
use Rattle.layer_walk.proofs.Moves.{fits_file}
use Rattle.layer_walk.proofs.finish.start_counts.Goals as goal

pub returns-in-None-clause-next : goal.returns-in-None-clause-next
returns-in-None-clause-next c capacity count sectors fits known =
    c.finish_counts.ensures.next capacity count sectors (fits_file (tables_of c.args.work (file_of count sectors)) c.args.work.marks c.begin_counts.new.marks c.begin_counts.ensures.keeps fits)
    (counts_begin c.args.work.header (file_of count sectors) capacity c.args.work.marks c.begin_counts.new.marks c.args.fault _ known fits c.in-None.ensures)

pub returns-in-Some-clause-next : goal.returns-in-Some-clause-next
returns-in-Some-clause-next c capacity count sectors fits known =
    counts_begin c.args.work.header (file_of count sectors) capacity c.args.work.marks c.begin_counts.new.marks c.args.fault _ known fits c.in-Some.ensures
