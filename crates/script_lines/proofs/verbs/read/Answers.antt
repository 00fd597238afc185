use Rattle.std.proofs.Common.{refl}
use Rattle.script_lines.proofs.verbs.read.Goals as goal

pub returns-in_err-sd : goal.returns-in_err-sd
returns-in_err-sd c = record { reads = λ more. rw (c.from_residual.ensures, c.in_err-sd.ensures.reads) refl; named = rw c.from_residual.ensures tt }

pub returns-in_err-at : goal.returns-in_err-at
returns-in_err-at c = record { reads = λ more. rw (c.from_residual-in_err-at.ensures, c.in_ok-sd.ensures.reads, c.in_err-at.ensures.reads) refl; named = rw c.from_residual-in_err-at.ensures tt }

pub returns-in_err-length : goal.returns-in_err-length
returns-in_err-length c = record { reads = λ more. rw (c.from_residual-in_err-length.ensures, c.in_ok-sd.ensures.reads, c.in_ok-at.ensures.reads, c.in_err-length.ensures.reads) refl; named = rw c.from_residual-in_err-length.ensures tt }

pub returns : goal.returns
returns c = record { reads = λ more. rw (c.in_ok-sd.ensures.reads, c.in_ok-at.ensures.reads, c.in_ok-length.ensures.reads) refl; named = refl }
