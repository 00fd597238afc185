use Rattle.cluster_committing.proofs.Steps.{commit_done, commit_ended, commit_more}
use Rattle.cluster_committing.proofs.commit.CommitCluster.step.Goals as goal

pub returns-in-More-clause-content : goal.returns-in-More-clause-content
returns-in-More-clause-content g c d tells =
    let t = c.in-More.ensures.content d tells in
    (t.0, t.1, commit_more c.args.self c.in-More.stage c.args.chain.now c.step_stage.new.chain c.args.host c.args.part.now c.step_stage.new.part c.args.room.now c.step_stage.new.room d t.0 t.2)

pub returns-in-Done-clause-content : goal.returns-in-Done-clause-content
returns-in-Done-clause-content g c d tells =
    let t = c.in-Done.ensures.content d tells in
    (t.0, t.1, commit_done c.args.self _ _ c.args.chain.now c.step_stage.new.chain c.args.host c.args.part.now c.step_stage.new.part c.args.room.now c.step_stage.new.room d t.0 t.2)

pub returns-in-Ended-clause-content : goal.returns-in-Ended-clause-content
returns-in-Ended-clause-content g c d tells =
    let t = c.in-Ended.ensures.content d tells in
    (t.0, t.1, commit_ended c.args.self _ _ c.in-Ended.refusal c.args.chain.now c.step_stage.new.chain c.args.host c.args.part.now c.step_stage.new.part c.args.room.now c.step_stage.new.room d t.0 t.2)
