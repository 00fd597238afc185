use Rattle.std.proofs.Common.{refl}
use Rattle.script_lines.proofs.verbs.box_serve.Goals as goal

pub returns-in_err-sd : goal.returns-in_err-sd
returns-in_err-sd c = record { reads = λ more. rw (c.from_residual.ensures, c.in_err-sd.ensures.reads) refl; named = rw c.from_residual.ensures tt }

pub returns-in_err-of : goal.returns-in_err-of
returns-in_err-of c = record { reads = λ more. rw (c.from_residual-in_err-of.ensures, c.in_ok-sd.ensures.reads, c.in_err-of.ensures.reads) refl; named = rw c.from_residual-in_err-of.ensures tt }

pub returns : goal.returns
returns c = record { reads = λ more. rw (c.in_ok-sd.ensures.reads, c.in_ok-of.ensures.reads) refl; named = refl }
