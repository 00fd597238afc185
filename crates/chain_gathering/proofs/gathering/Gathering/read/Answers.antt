use Rattle.std.proofs.Common.{sym, ◌∙◌}
use Rattle.chain_gathering.proofs.Reading.{kept_whole}
use Rattle.chain_gathering.proofs.gathering.Gathering.read.Goals as goal

pub returns-in_default-clause-order : goal.returns-in_default-clause-order
returns-in_default-clause-order g c are = kept_whole c.args.self.kept (sym c.next.ensures.is ∙ c.in_default.is) are
