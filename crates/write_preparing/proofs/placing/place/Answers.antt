use Rattle.std.proofs.Common.{refl, ap, ◌∙◌}
use Rattle.layer_placing.specs.Stages.{pieces_of}
use Rattle.write_planning.specs.Plan.{span_of}
use Rattle.write_planning.specs.declared.plan.WritePlan.{WritePlan}
use Rattle.write_preparing.proofs.Falls.{first_falls, first_planned}
use Rattle.write_preparing.proofs.Takes.{takes_done, takes_ended, takes_more}
use Rattle.write_preparing.proofs.placing.place.Goals as goal

pub returns-in-More-clause-content : goal.returns-in-More-clause-content
returns-in-More-clause-content g c d tells =
    let call = c.in-More.ensures.content d tells in (
      call.0,
      call.1,
      λ l x f there k.
          takes_more c.args.taking c.args.layer.now _ l x c.args.host _ f d call.0 there k (g.met.D.SharedDisk.well_formed c.step.new.disk call.0 call.1) c.in-More.ensures.layer c.in-More.work _ refl refl c.in-More.ensures.chosen (call.2 f there k.knows),
    )

pub returns-in-Done-clause-content : goal.returns-in-Done-clause-content
returns-in-Done-clause-content g c d tells =
    let call = c.in-Done.ensures.content d tells in (
      call.0,
      call.1,
      λ l x f there k.
          takes_done c.args.taking c.args.layer.now _ l x c.args.host _ f d call.0 there k (g.met.D.SharedDisk.well_formed c.step.new.disk call.0 call.1) c.in-Done.ensures.layer c.in-Done.clusters c.new.result c.written_first.result
          c.new.ensures.plan c.new.ensures.clusters c.written_first.ensures (call.2 f there k.knows),
    )

pub returns-in-Ended-clause-content : goal.returns-in-Ended-clause-content
returns-in-Ended-clause-content g c d tells =
    let call = c.in-Ended.ensures.content d tells in (
      call.0,
      call.1,
      λ l x f there k.
          takes_ended c.args.taking c.args.layer.now _ l x c.args.host _ f d call.0 there k (g.met.D.SharedDisk.well_formed c.step.new.disk call.0 call.1) c.in-Ended.ensures.layer c.in-Ended.refusal (call.2 f there k.knows),
    )

pub returns-in-Done-clause-falls : goal.returns-in-Done-clause-falls
returns-in-Done-clause-falls g c = first_falls c.args.taking.plan (pieces_of c.args.layer.now) c.args.taking.work c.new.result c.written_first.result c.new.ensures.plan c.written_first.ensures c.in-Done.ensures.falls

pub returns-in-Done-clause-plans : goal.returns-in-Done-clause-plans
returns-in-Done-clause-plans g c = first_planned _ _ c.written_first.result c.written_first.ensures ∙ ap (λ (q : WritePlan). span_of q) c.new.ensures.plan
