use Rattle.write_planning.proofs.Meeting.{few_met}
use Rattle.write_planning.proofs.span.Span.count.Goals as goal

pub returns-clause-few : goal.returns-clause-few
returns-clause-few c = few_met c.args.self.now.at c.args.self.now.length c.args.self.now.width c.args.self.now.part
