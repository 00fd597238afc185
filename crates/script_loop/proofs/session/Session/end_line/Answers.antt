use Rattle.script_loop.proofs.session.Session.end_line.Goals as goal

pub returns-clause-ran : goal.returns-clause-ran
returns-clause-ran g c line holds =
    (c.run_line-outcome.result, c.reply_for.result.now, (c.run_line-outcome.ensures.says line holds, c.reply_for.ensures), c.run_line-outcome.ensures.counts, c.give.ensures.given)
