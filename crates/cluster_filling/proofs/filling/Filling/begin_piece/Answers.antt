use Rattle.std.proofs.Common.{refl, inl, inr}
use Rattle.cluster_filling.proofs.Counts.{begin_falls}
use Rattle.cluster_filling.proofs.Steps.{zeros_written}
use Rattle.cluster_filling.proofs.filling.Filling.begin_piece.Goals as goal

pub returns-in-None-clause-falls : goal.returns-in-None-clause-falls
returns-in-None-clause-falls g c = begin_falls c.args.self c.args.chain.now c.write.result c.write.ensures.falls

pub returns-in-None-clause-content : goal.returns-in-None-clause-content
returns-in-None-clause-content g c d tells =
    let t = c.write.ensures.content d tells in
    (t.0, t.1, inr (zeros_written c.args.self c.args.chain.now c.args.host c.args.part.now c.args.piece.now c.clear.new.piece c.write.new.piece _ c.write.result d t.0 c.clear.ensures c.in-None.ensures t.2))

pub returns-in-Some-clause-content : goal.returns-in-Some-clause-content
returns-in-Some-clause-content g c d tells = (d, tells, inl (refl, (c.in-Some.below, c.begin-read.result, c.in-Some.ensures, c.begin-read.ensures, c.at.ensures)))
