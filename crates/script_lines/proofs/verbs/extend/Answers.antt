use Rattle.std.proofs.Common.{refl}
use Rattle.script_lines.proofs.verbs.extend.Goals as goal

pub returns-in_err-task : goal.returns-in_err-task
returns-in_err-task c = record { reads = λ more. rw (c.from_residual.ensures, c.in_err-task.ensures.reads) refl; named = rw c.from_residual.ensures tt }

pub returns-in_err-sd : goal.returns-in_err-sd
returns-in_err-sd c = record { reads = λ more. rw (c.from_residual-in_err-sd.ensures, c.in_ok-task.ensures.reads, c.in_err-sd.ensures.reads) refl; named = rw c.from_residual-in_err-sd.ensures tt }

pub returns-in_err-capacity : goal.returns-in_err-capacity
returns-in_err-capacity c = record { reads = λ more. rw (c.from_residual-in_err-capacity.ensures, c.in_ok-task.ensures.reads, c.in_ok-sd.ensures.reads, c.in_err-capacity.ensures.reads) refl; named = rw c.from_residual-in_err-capacity.ensures tt }

pub returns : goal.returns
returns c = record { reads = λ more. rw (c.in_ok-task.ensures.reads, c.in_ok-sd.ensures.reads, c.in_ok-capacity.ensures.reads) refl; named = refl }
