use Rattle.std.proofs.Common.{◌+◌, subst}
use Rattle.script_loop.proofs.session.Session.run_line.Goals as goal

pub returns-clause-says : goal.returns-clause-says
returns-clause-says g c line holds =
    subst (λ text. g.L.LineRunner.says c.args.runner.now c.args.disk.now (c.args.self.now.tally.lines + 1) text c.line-outcome.result c.line-outcome.new.self c.line-outcome.new.disk)
    (c.text.ensures line holds) c.line-outcome.ensures.says
