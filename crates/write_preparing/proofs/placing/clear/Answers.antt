use Rattle.layer_placing.specs.Stages.{pieces_of}
use Rattle.write_preparing.proofs.Falls.{taking_falls, taking_planned}
use Rattle.write_preparing.proofs.Clears.{clears_done, clears_ended, clears_more}
use Rattle.write_preparing.proofs.placing.clear.Goals as goal

pub returns-in-More-clause-content : goal.returns-in-More-clause-content
returns-in-More-clause-content g c d tells =
    let call = c.in-More.ensures.content d tells in (
      call.0,
      call.1,
      λ l x f there k.
          clears_more c.args.plan c.args.work c.in-More.next c.args.layer.now _ l x c.args.host _ f d call.0 there k (g.met.D.SharedDisk.well_formed c.step.new.disk call.0 call.1) c.in-More.ensures.layer call.2,
    )

pub returns-in-Done-clause-content : goal.returns-in-Done-clause-content
returns-in-Done-clause-content g c d tells =
    let call = c.in-Done.ensures.content d tells in (
      call.0,
      call.1,
      λ l x f there k.
          clears_done c.args.plan c.args.work c.taking_of.result c.args.layer.now _ l x c.args.host _ f d call.0 there k (g.met.D.SharedDisk.well_formed c.step.new.disk call.0 call.1) c.in-Done.ensures.layer c.taking_of.ensures call.2,
    )

pub returns-in-Ended-clause-content : goal.returns-in-Ended-clause-content
returns-in-Ended-clause-content g c d tells =
    let call = c.in-Ended.ensures.content d tells in (
      call.0,
      call.1,
      λ l x f there k.
          clears_ended c.args.plan c.args.work c.in-Ended.refusal c.args.layer.now _ l x c.args.host _ f d call.0 there k (g.met.D.SharedDisk.well_formed c.step.new.disk call.0 call.1) call.2,
    )

pub returns-in-Done-clause-falls : goal.returns-in-Done-clause-falls
returns-in-Done-clause-falls g c = taking_falls c.args.plan (pieces_of c.args.layer.now) c.args.work c.taking_of.result c.in-Done.ensures.falls c.taking_of.ensures

pub returns-in-Done-clause-plans : goal.returns-in-Done-clause-plans
returns-in-Done-clause-plans g c = taking_planned c.args.plan c.taking_of.result c.taking_of.ensures
