use Rattle.chain_settling.proofs.Grows.{headers_end, headers_stay, headers_turn}
use Rattle.chain_settling.proofs.Heads.{heading_begins}
use Rattle.chain_settling.proofs.headers.step_headers.Goals as goal

pub returns-in-End-clause-content : goal.returns-in-End-clause-content
returns-in-End-clause-content c host faults d = headers_turn c.args.chain c.args.at host faults d _ (λ r x k. headers_end c.args.chain c.args.at host r x d c.in-End.ensures.work k)

pub returns-in-Stays-clause-content : goal.returns-in-Stays-clause-content
returns-in-Stays-clause-content c host faults d = headers_turn c.args.chain c.args.at host faults d _ (λ r x k. headers_stay c.args.chain c.args.at host r x d c.in-Stays.ensures.work.1 k)

pub returns-in-Names-clause-content : goal.returns-in-Names-clause-content
returns-in-Names-clause-content c host faults d =
    let work = c.in-Names.ensures.work in
    headers_turn c.args.chain c.args.at host faults d _
    (λ r x k. heading_begins c.args.chain c.args.at c.begin.result host r x d work.1 c.in-Names.backing work.2 work.3 c.begin.ensures.stage c.begin.ensures.backing k)
