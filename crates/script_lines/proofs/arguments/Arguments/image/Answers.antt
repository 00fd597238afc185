use Rattle.std.proofs.Common.{refl}
use Rattle.script_lines.proofs.arguments.Arguments.image.Goals as goal

pub returns-in_err-sd : goal.returns-in_err-sd
returns-in_err-sd c = record { reads = λ more. rw (c.from_residual.ensures, c.in_err-sd.ensures.reads) refl }

pub returns-in_err-image : goal.returns-in_err-image
returns-in_err-image c = record { reads = λ more. rw (c.from_residual-in_err-image.ensures, c.in_ok-sd.ensures.reads, c.in_err-image.ensures.reads) refl }

pub returns : goal.returns
returns c = record { reads = λ more. rw (c.in_ok-sd.ensures.reads, c.in_ok-image.ensures.reads) refl }
