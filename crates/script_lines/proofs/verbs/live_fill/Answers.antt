use Rattle.std.proofs.Common.{refl}
use Rattle.script_lines.proofs.verbs.live_fill.Goals as goal

pub returns-in_err-sd : goal.returns-in_err-sd
returns-in_err-sd c = record { reads = λ more. rw (c.from_residual.ensures, c.in_err-sd.ensures.reads) refl; named = rw c.from_residual.ensures tt }

pub returns-in_err-count : goal.returns-in_err-count
returns-in_err-count c = record { reads = λ more. rw (c.from_residual-in_err-count.ensures, c.in_ok-sd.ensures.reads, c.in_err-count.ensures.reads) refl; named = rw c.from_residual-in_err-count.ensures tt }

pub returns : goal.returns
returns c = record { reads = λ more. rw (c.in_ok-sd.ensures.reads, c.in_ok-count.ensures.reads) refl; named = refl }
