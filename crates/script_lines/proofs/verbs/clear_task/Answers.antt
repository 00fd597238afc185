use Rattle.std.proofs.Common.{refl}
use Rattle.script_lines.proofs.verbs.clear_task.Goals as goal

pub returns-in_err-task : goal.returns-in_err-task
returns-in_err-task c = record { reads = λ more. rw (c.from_residual.ensures, c.in_err-task.ensures.reads) refl; named = rw c.from_residual.ensures tt }

pub returns : goal.returns
returns c = record { reads = λ more. rw (c.in_ok-task.ensures.reads) refl; named = refl }
