use Rattle.std.proofs.Common.{◌<◌, refl}
use Rattle.layer_placing.specs.Stages.{pieces_of}
use Rattle.write_preparing.specs.Preparing.{IsPreparingRefusal, IsSamePart, preparing_left}
use Rattle.guest_steps.proofs.Lends.{of_lent, prepares}
use Rattle.guest_steps.proofs.preparing.prepare.Goals as goal

pub returns-in-More-clause-chain : goal.returns-in-More-clause-chain
returns-in-More-clause-chain g c = record { before = c.layer_mut.result.now; was = c.layer_mut.ensures.value; after = c.step.new.layer; is = refl; same = c.in-More.ensures.layer }

pub returns-in-More-clause-falls : goal.returns-in-More-clause-falls
returns-in-More-clause-falls g c w is = of_lent (λ z. IsSamePart c.args.work c.in-More.next × (preparing_left (pieces_of z) c.in-More.next < preparing_left (pieces_of z) c.args.work)) c.args.chain.now c.args.index c.layer_mut.result.now w c.layer_mut.ensures.value is c.in-More.ensures.falls

pub returns-in-More-clause-content : goal.returns-in-More-clause-content
returns-in-More-clause-content g c d tells =
    let call = c.in-More.ensures.content d tells in
    (call.0, call.1, prepares c.args.work c.args.chain.now c.args.index c.layer_mut.result.now _ c.args.host _ _ _ d call.0 c.layer_mut.ensures.value c.in-More.ensures.layer call.2)

pub returns-in-Done-clause-chain : goal.returns-in-Done-clause-chain
returns-in-Done-clause-chain g c = record { before = c.layer_mut.result.now; was = c.layer_mut.ensures.value; after = c.step.new.layer; is = refl; same = c.in-Done.ensures.layer }

pub returns-in-Done-clause-falls : goal.returns-in-Done-clause-falls
returns-in-Done-clause-falls g c w is = of_lent (λ z. 0 < preparing_left (pieces_of z) c.args.work) c.args.chain.now c.args.index c.layer_mut.result.now w c.layer_mut.ensures.value is c.in-Done.ensures.falls

pub returns-in-Done-clause-content : goal.returns-in-Done-clause-content
returns-in-Done-clause-content g c d tells =
    let call = c.in-Done.ensures.content d tells in
    (call.0, call.1, prepares c.args.work c.args.chain.now c.args.index c.layer_mut.result.now _ c.args.host _ _ _ d call.0 c.layer_mut.ensures.value c.in-Done.ensures.layer call.2)

pub returns-in-Ended-clause-chain : goal.returns-in-Ended-clause-chain
returns-in-Ended-clause-chain g c = record { before = c.layer_mut.result.now; was = c.layer_mut.ensures.value; after = c.step.new.layer; is = refl; same = c.in-Ended.ensures.layer }

pub returns-in-Ended-clause-falls : goal.returns-in-Ended-clause-falls
returns-in-Ended-clause-falls g c w is = of_lent (λ z. 0 < preparing_left (pieces_of z) c.args.work) c.args.chain.now c.args.index c.layer_mut.result.now w c.layer_mut.ensures.value is c.in-Ended.ensures.falls

pub returns-in-Ended-clause-content : goal.returns-in-Ended-clause-content
returns-in-Ended-clause-content g c d tells =
    let call = c.in-Ended.ensures.content d tells in
    (call.0, call.1, prepares c.args.work c.args.chain.now c.args.index c.layer_mut.result.now _ c.args.host _ _ _ d call.0 c.layer_mut.ensures.value c.in-Ended.ensures.layer call.2)

pub returns-in-Ended-clause-refusals : goal.returns-in-Ended-clause-refusals
returns-in-Ended-clause-refusals g c w is =
    of_lent (λ z. IsPreparingRefusal z c.in-Ended.refusal) c.args.chain.now c.args.index c.layer_mut.result.now w c.layer_mut.ensures.value is c.in-Ended.ensures.refusals
