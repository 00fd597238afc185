use Rattle.volume_chain.proofs.Compared.{named_steps}
use Rattle.volume_chain.proofs.Moves.{named_falls, named_shape}
use Rattle.volume_chain.proofs.Refused.{layer_ended}
use Rattle.volume_chain.proofs.Steps.{layer_more}
use Rattle.volume_chain.proofs.layers.step_layer.Goals as goal

pub returns-in-More-clause-content : goal.returns-in-More-clause-content
returns-in-More-clause-content g c d tells =
    let call = c.in-More.ensures.content d tells in
    (call.0, call.1, layer_more c.args.chain c.args.opening c.in-More.next c.args.host d call.0 c.in-More.ensures.keeps call.2)

pub returns-in-Done-clause-shape : goal.returns-in-Done-clause-shape
returns-in-Done-clause-shape g c = named_shape c.args.chain c.args.opening c.in-Done.layer c.opened.result c.in-Done.ensures.keeps c.opened.ensures.adds

pub returns-in-Done-clause-falls : goal.returns-in-Done-clause-falls
returns-in-Done-clause-falls g c = named_falls c.args.chain c.args.opening c.in-Done.layer c.opened.result c.opened.ensures.adds

pub returns-in-Done-clause-content : goal.returns-in-Done-clause-content
returns-in-Done-clause-content g c d tells =
    let call = c.in-Done.ensures.content d tells in (
      call.0,
      call.1,
      named_steps c.args.chain c.args.opening c.in-Done.layer c.args.host c.opened.result d call.0 c.in-Done.ensures.keeps call.2 c.opened.ensures.turn c.opened.ensures.refusals,
    )

pub returns-in-Ended-clause-content : goal.returns-in-Ended-clause-content
returns-in-Ended-clause-content g c d tells =
    let call = c.in-Ended.ensures.content d tells in
    (call.0, call.1, layer_ended c.args.chain c.args.opening c.args.host c.in-Ended.refusal d call.0 call.2)
