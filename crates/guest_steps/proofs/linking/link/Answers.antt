use Rattle.chain_reading.proofs.Lent.{chain_same}
use Rattle.guest_steps.proofs.Links.{links}
use Rattle.guest_steps.proofs.linking.link.Goals as goal

pub returns-in-More-clause-chain : goal.returns-in-More-clause-chain
returns-in-More-clause-chain g c = chain_same c.args.chain.now c.args.index c.layer_mut.result.now c.step.new.layer c.layer_mut.ensures.value c.in-More.ensures.layer

pub returns-in-More-clause-content : goal.returns-in-More-clause-content
returns-in-More-clause-content g c d tells =
    let call = c.in-More.ensures.content d tells in
    (call.0, call.1, links c.args.work c.args.chain.now c.args.index c.layer_mut.result.now c.args.host _ _ d call.0 c.layer_mut.ensures.value call.2)

pub returns-in-Done-clause-chain : goal.returns-in-Done-clause-chain
returns-in-Done-clause-chain g c = chain_same c.args.chain.now c.args.index c.layer_mut.result.now c.step.new.layer c.layer_mut.ensures.value c.in-Done.ensures.layer

pub returns-in-Done-clause-content : goal.returns-in-Done-clause-content
returns-in-Done-clause-content g c d tells =
    let call = c.in-Done.ensures.content d tells in
    (call.0, call.1, links c.args.work c.args.chain.now c.args.index c.layer_mut.result.now c.args.host _ _ d call.0 c.layer_mut.ensures.value call.2)

pub returns-in-Ended-clause-chain : goal.returns-in-Ended-clause-chain
returns-in-Ended-clause-chain g c = chain_same c.args.chain.now c.args.index c.layer_mut.result.now c.step.new.layer c.layer_mut.ensures.value c.in-Ended.ensures.layer

pub returns-in-Ended-clause-content : goal.returns-in-Ended-clause-content
returns-in-Ended-clause-content g c d tells =
    let call = c.in-Ended.ensures.content d tells in
    (call.0, call.1, links c.args.work c.args.chain.now c.args.index c.layer_mut.result.now c.args.host _ _ d call.0 c.layer_mut.ensures.value call.2)
