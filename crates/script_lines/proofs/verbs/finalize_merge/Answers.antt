use Rattle.std.proofs.Common.{refl}
use Rattle.script_lines.proofs.verbs.finalize_merge.Goals as goal

pub returns-in_err-sd : goal.returns-in_err-sd
returns-in_err-sd c = record { reads = λ more. rw (c.from_residual.ensures, c.in_err-sd.ensures.reads) refl; named = rw c.from_residual.ensures tt }

pub returns-in_err-w : goal.returns-in_err-w
returns-in_err-w c = record { reads = λ more. rw (c.from_residual-in_err-w.ensures, c.in_ok-sd.ensures.reads, c.in_err-w.ensures.reads) refl; named = rw c.from_residual-in_err-w.ensures tt }

pub returns : goal.returns
returns c = record { reads = λ more. rw (c.in_ok-sd.ensures.reads, c.in_ok-w.ensures.reads) refl; named = refl }
