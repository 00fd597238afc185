use Rattle.std.proofs.Common.{sym, ◌∙◌}
use Rattle.std.proofs.lemmas.Option.{same_Some}
use Rattle.chain_settling.proofs.Heads.{rebased_at}
use Rattle.chain_settling.proofs.headers.rebase.Goals as goal

pub returns-in-None-clause-content : goal.returns-in-None-clause-content
returns-in-None-clause-content g c d tells = (d, tells, λ m at. absurd (c.in-None.ensures.other m at))

pub returns-in-Some-clause-content : goal.returns-in-Some-clause-content
returns-in-Some-clause-content g c d tells =
    let call = c.step-turn.ensures.content d tells in
    let made = c.step-turn.ensures.call d tells in
    (call.0, call.1, λ m at. rebased_at c.args.chain.now c.take_layer.new.self c.put_layer.new.self c.args.at c.args.rebasing c.in-Some.layer m c.step-turn.new.layer c.args.host _ _ d call.0 c.in-Some.ensures.some at c.in-Some.ensures.taken c.put_layer.ensures c.step-turn.ensures.layer call.2 made.0 (same_Some made.0 call.0 (sym made.1 ∙ call.1)) made.2)
