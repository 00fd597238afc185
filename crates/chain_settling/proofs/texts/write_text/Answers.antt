use Rattle.std.proofs.Common.{sym}
use Rattle.chain_settling.proofs.Valid.{can_be_written, valid_at}
use Rattle.chain_settling.proofs.texts.write_text.Goals as goal

pub step-requires-clause-short : goal.step-requires-clause-short
step-requires-clause-short g c = can_be_written c.in-Some.says.now (valid_at c.args.chain.now c.args.at c.in-Some.says.now c.requires.valid (sym c.in-Some.ensures))
