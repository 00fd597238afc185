use Rattle.std.proofs.Common.{subst, sym}
use Rattle.cluster_filling.specs.Calls.{StepsIn}
use Rattle.cluster_filling.specs.Filling.{FillsIn}
use Rattle.cluster_filling.specs.declared.filling.Stage.TheVariants.{Read}
use Rattle.cluster_filling.proofs.Steps.{begins, reads_on, writes}
use Rattle.cluster_filling.proofs.filling.Filling.fill.Goals as goal

pub returns-in-Begun-clause-content : goal.returns-in-Begun-clause-content
returns-in-Begun-clause-content g c d tells =
    let t = c.begin_piece.ensures.content d tells in (
      t.0,
      t.1,
      λ room same. subst (λ s. FillsIn s c.args.self c.args.chain.now c.args.host c.args.part.now c.args.piece.now room c.begin_piece.result d t.0) (sym c.in-Begun.is)
          (begins c.args.self c.args.chain.now c.args.host c.args.part.now c.args.piece.now c.begin_piece.new.piece room _ c.begin_piece.result d t.0 c.requires.piece c.begin_piece.auto.piece same t.2),
    )

pub returns-in-Reading-clause-content : goal.returns-in-Reading-clause-content
returns-in-Reading-clause-content g c d tells =
    let t = c.read.ensures.content d tells in (
      t.0,
      t.1,
      λ room same. subst (λ s. FillsIn s c.args.self c.args.chain.now c.args.host c.args.part.now c.args.piece.now room c.read.result d t.0) (sym c.in-Reading.is)
          (reads_on c.args.self c.args.chain.now c.args.host c.args.part.now c.read.new.piece room same c.in-Reading.read c.args.piece.now c.read.result d t.0 c.requires.piece t.2),
    )

pub returns-in-Read-clause-content : goal.returns-in-Read-clause-content
returns-in-Read-clause-content g c d tells =
    let t = c.write.ensures.content d tells in (
      t.0,
      t.1,
      λ room same. subst (λ s. FillsIn s c.args.self c.args.chain.now c.args.host c.args.part.now c.args.piece.now room c.write.result d t.0) (sym c.in-Read.is)
          (writes Read c.args.self c.args.chain.now c.args.host c.args.part.now c.args.piece.now c.write.new.piece room _ c.write.result d t.0 c.requires.piece t.2 (λ x k. k.so_far)),
    )

pub returns-in-Begun-clause-steps : goal.returns-in-Begun-clause-steps
returns-in-Begun-clause-steps g c d tells =
    let t = c.begin_piece.ensures.content d tells in (
      t.0,
      t.1,
      subst (λ s. StepsIn s c.args.self c.args.chain.now c.args.host c.args.part.now c.args.piece.now c.begin_piece.new.piece (g.D.SharedDisk.faults c.begin_piece.new.disk) c.begin_piece.result d t.0) (sym c.in-Begun.is) t.2,
    )

pub returns-in-Reading-clause-steps : goal.returns-in-Reading-clause-steps
returns-in-Reading-clause-steps g c d tells =
    let t = c.read.ensures.content d tells in (
      t.0,
      t.1,
      subst (λ s. StepsIn s c.args.self c.args.chain.now c.args.host c.args.part.now c.args.piece.now c.read.new.piece (g.D.SharedDisk.faults c.read.new.disk) c.read.result d t.0) (sym c.in-Reading.is) t.2,
    )

pub returns-in-Read-clause-steps : goal.returns-in-Read-clause-steps
returns-in-Read-clause-steps g c d tells =
    let t = c.write.ensures.content d tells in (
      t.0,
      t.1,
      subst (λ s. StepsIn s c.args.self c.args.chain.now c.args.host c.args.part.now c.args.piece.now c.write.new.piece (g.D.SharedDisk.faults c.write.new.disk) c.write.result d t.0) (sym c.in-Read.is) t.2,
    )
