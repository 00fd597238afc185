use Rattle.std.proofs.Common.{ℕ, subst}
use Rattle.guest_writing.specs.Guest as guest
use Rattle.cluster_committing.proofs.Chains.{inside_next, stands_next, written_same}
use Rattle.cluster_committing.proofs.Steps.{write_done, write_ended, write_more}
use Rattle.cluster_committing.proofs.stages.write_piece.Goals as goal

pub returns-in-More-clause-way : goal.returns-in-More-clause-way
returns-in-More-clause-way g c = (
  record {
    inside = inside_next c.args.sub c.args.chain.now c.step.new.chain c.args.cluster c.args.pieces (written_same c.args.work c.args.sub c.args.chain.now c.step.new.chain c.in-More.ensures.chain) c.requires.way.inside;
    some = c.requires.way.some;
    way = subst (λ (n : ℕ). guest.IsOnWay c.in-More.next c.step.new.chain n) c.requires.piece c.in-More.ensures.way;
  },
  stands_next c.args.work c.args.sub c.args.chain.now c.step.new.chain c.in-More.ensures.chain c.requires.base,
)

pub returns-in-More-clause-content : goal.returns-in-More-clause-content
returns-in-More-clause-content g c d tells =
    let t = c.in-More.ensures.content d tells in
    (t.0, t.1, write_more c.args.pieces c.args.work c.in-More.next c.args.sub c.args.cluster c.args.chain.now c.step.new.chain c.args.host _ c.args.piece.now c.args.room.now c.step.new.room d t.0 c.in-More.ensures.chain c.requires.way.inside c.requires.way.some c.requires.piece t.2)

pub returns-in-Done-clause-way : goal.returns-in-Done-clause-way
returns-in-Done-clause-way g c = (
  record {
    sub_is = c.behind-reading.ensures.sub_is;
    cluster_is = c.behind-reading.ensures.cluster_is;
    way = c.behind-reading.ensures.way c.step.new.chain
        (inside_next c.args.sub c.args.chain.now c.step.new.chain c.args.cluster c.args.pieces (written_same c.args.work c.args.sub c.args.chain.now c.step.new.chain c.in-Done.ensures.chain) c.requires.way.inside);
  },
  stands_next c.args.work c.args.sub c.args.chain.now c.step.new.chain c.in-Done.ensures.chain c.requires.base,
)

pub returns-in-Done-clause-content : goal.returns-in-Done-clause-content
returns-in-Done-clause-content g c d tells =
    let t = c.in-Done.ensures.content d tells in
    (t.0, t.1, write_done c.args.pieces c.args.work _ c.behind-reading.result c.args.sub c.args.cluster c.args.chain.now c.step.new.chain c.args.host _ c.args.piece.now c.args.room.now c.step.new.room d t.0 c.in-Done.ensures.chain c.requires.way.inside c.requires.way.some c.requires.piece c.behind-reading.ensures t.2)

pub returns-in-Ended-clause-content : goal.returns-in-Ended-clause-content
returns-in-Ended-clause-content g c d tells =
    let t = c.in-Ended.ensures.content d tells in
    (t.0, t.1, write_ended c.args.pieces c.args.work _ _ c.in-Ended.refusal c.args.sub c.args.cluster c.args.chain.now c.step.new.chain c.args.host _ c.args.piece.now c.args.room.now c.step.new.room d t.0 c.in-Ended.ensures.chain c.requires.way.inside c.requires.way.some c.requires.piece t.2)
