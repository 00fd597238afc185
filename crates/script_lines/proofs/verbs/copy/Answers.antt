use Rattle.std.proofs.Common.{refl}
use Rattle.script_lines.proofs.verbs.copy.Goals as goal

pub returns-in_err-task : goal.returns-in_err-task
returns-in_err-task c = record { reads = λ more. rw (c.from_residual.ensures, c.in_err-task.ensures.reads) refl; named = rw c.from_residual.ensures tt }

pub returns-in_err-sd : goal.returns-in_err-sd
returns-in_err-sd c = record { reads = λ more. rw (c.from_residual-in_err-sd.ensures, c.in_ok-task.ensures.reads, c.in_err-sd.ensures.reads) refl; named = rw c.from_residual-in_err-sd.ensures tt }

pub returns-in_err-to_sd : goal.returns-in_err-to_sd
returns-in_err-to_sd c = record { reads = λ more. rw (c.from_residual-in_err-to_sd.ensures, c.in_ok-task.ensures.reads, c.in_ok-sd.ensures.reads, c.in_err-to_sd.ensures.reads) refl; named = rw c.from_residual-in_err-to_sd.ensures tt }

pub returns-in_err-format : goal.returns-in_err-format
returns-in_err-format c = record { reads = λ more. rw (c.from_residual-in_err-format.ensures, c.in_ok-task.ensures.reads, c.in_ok-sd.ensures.reads, c.in_ok-to_sd.ensures.reads, c.in_err-format.ensures.reads) refl; named = rw c.from_residual-in_err-format.ensures tt }

pub returns : goal.returns
returns c = record { reads = λ more. rw (c.in_ok-task.ensures.reads, c.in_ok-sd.ensures.reads, c.in_ok-to_sd.ensures.reads, c.in_ok-format.ensures.reads) refl; named = refl }
