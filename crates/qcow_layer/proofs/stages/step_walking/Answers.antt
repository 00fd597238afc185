use Rattle.std.proofs.Common.{subst, sym}
use Rattle.qcow_layer.specs.Left.{Falls}
use Rattle.qcow_layer.specs.Stages.{Steps}
use Rattle.qcow_layer.specs.declared.stages.Stage.TheVariants.{Walking}
use Rattle.qcow_layer.proofs.Steps.{read_refused, walk_falls, walked}
use Rattle.qcow_layer.proofs.stages.step_walking.Goals as goal

pub returns-in-Err-clause-content : goal.returns-in-Err-clause-content
returns-in-Err-clause-content g c d tells =
    let call = c.in-Err.ensures.content d tells in
    (call.0, call.1, read_refused c.args.target c.args.host _ (Walking c.args.walk) c.in-Err.refusal d call.0 call.2.0 call.2.1)

pub returns-in-Ok-clause-falls : goal.returns-in-Ok-clause-falls
returns-in-Ok-clause-falls g c =
    subst (λ turn. Falls (Walking c.args.walk) turn) (sym c.passed.ensures.turn) (walk_falls c.args.target c.args.walk c.take.result c.take.ensures.keeps c.take.ensures.falls)

pub returns-in-Ok-clause-content : goal.returns-in-Ok-clause-content
returns-in-Ok-clause-content g c d tells =
    let call = c.in-Ok.ensures.content d tells in (
      call.0,
      call.1,
      subst (λ turn. Steps c.args.target c.args.host (Walking c.args.walk) turn d call.0) (sym c.passed.ensures.turn)
          (walked c.args.target c.args.host c.wanted.result c.args.walk c.in-Ok.sector c.take.result d call.0 c.wanted.ensures call.2.1 call.2.0 c.take.ensures.keeps c.take.ensures.next),
    )
