use Rattle.std.proofs.Common.{sym}
use Rattle.chain_settling.proofs.Grows.{lengths_at}
use Rattle.chain_settling.proofs.lengths.step_lengths.Goals as goal

pub returns-in-End-clause-content : goal.returns-in-End-clause-content
returns-in-End-clause-content c host faults d = lengths_at c.args.chain c.args.at host faults d _ (sym c.in-End.ensures.kind)

pub returns-in-Raw-clause-content : goal.returns-in-Raw-clause-content
returns-in-Raw-clause-content c host faults d = lengths_at c.args.chain c.args.at host faults d _ (sym c.in-Raw.ensures.kind)

pub returns-in-Layer-clause-content : goal.returns-in-Layer-clause-content
returns-in-Layer-clause-content c host faults d = rw c.begin.ensures (lengths_at c.args.chain c.args.at host faults d _ (sym c.in-Layer.ensures.kind))
