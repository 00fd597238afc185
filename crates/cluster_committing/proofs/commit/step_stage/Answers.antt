use Rattle.std.proofs.Common.{sym, subst}
use Rattle.volume_chain.specs.declared.chain.Chain.{Chain}
use Rattle.cluster_committing.specs.Committing.{CommitsIn}
use Rattle.cluster_committing.specs.declared.stage.Stage.{Stage}
use Rattle.cluster_committing.specs.declared.stage.Stage.TheVariants.{Reading}
use Rattle.cluster_committing.proofs.commit.step_stage.Goals as goal

pub returns-in-Reading-clause-content : goal.returns-in-Reading-clause-content
returns-in-Reading-clause-content g c d tells =
    let t = c.read_piece.ensures.content d tells in (
      t.0,
      t.1,
      subst (λ (s : Stage). CommitsIn s c.args.sub c.args.cluster c.args.chain.now c.read_piece.new.chain c.args.host c.args.part.now c.read_piece.new.part c.args.room.now c.args.room.now c.read_piece.result d t.0) (sym c.in-Reading.is)
          (subst (λ (z : Chain). CommitsIn (Reading c.in-Reading.work) c.args.sub c.args.cluster c.args.chain.now z c.args.host c.args.part.now c.read_piece.new.part c.args.room.now c.args.room.now c.read_piece.result d t.0) (sym c.read_piece.ensures.chain)
          (t.2 c.args.room.now)),
    )
