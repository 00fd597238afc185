use Rattle.std.proofs.Common.{refl}
use Rattle.script_lines.proofs.verbs.add_domain.Goals as goal

pub returns-in_err-task : goal.returns-in_err-task
returns-in_err-task c = record { reads = λ more. rw (c.from_residual.ensures, c.in_err-task.ensures.reads) refl; named = rw c.from_residual.ensures tt }

pub returns-in_err-sd : goal.returns-in_err-sd
returns-in_err-sd c = record { reads = λ more. rw (c.from_residual-in_err-sd.ensures, c.in_ok-task.ensures.reads, c.in_err-sd.ensures.reads) refl; named = rw c.from_residual-in_err-sd.ensures tt }

pub returns-in_err-version : goal.returns-in_err-version
returns-in_err-version c = record { reads = λ more. rw (c.from_residual-in_err-version.ensures, c.in_ok-task.ensures.reads, c.in_ok-sd.ensures.reads, c.in_err-version.ensures.reads) refl; named = rw c.from_residual-in_err-version.ensures tt }

pub returns-in_err-text : goal.returns-in_err-text
returns-in_err-text c = record { reads = λ more. rw (c.from_residual-in_err-text.ensures, c.in_ok-task.ensures.reads, c.in_ok-sd.ensures.reads, c.in_ok-version.ensures.reads, c.in_err-text.ensures.reads) refl; named = rw c.from_residual-in_err-text.ensures tt }

pub returns : goal.returns
returns c = record { reads = λ more. rw (c.in_ok-task.ensures.reads, c.in_ok-sd.ensures.reads, c.in_ok-version.ensures.reads, c.in_ok-text.ensures.reads) refl; named = refl }
