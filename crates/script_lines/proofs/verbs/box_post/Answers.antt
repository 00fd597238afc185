use Rattle.std.proofs.Common.{refl}
use Rattle.script_lines.proofs.verbs.box_post.Goals as goal

pub returns-in_err-sd : goal.returns-in_err-sd
returns-in_err-sd c = record { reads = λ more. rw (c.from_residual.ensures, c.in_err-sd.ensures.reads) refl; named = rw c.from_residual.ensures tt }

pub returns-in_err-length : goal.returns-in_err-length
returns-in_err-length c = record { reads = λ more. rw (c.from_residual-in_err-length.ensures, c.in_ok-sd.ensures.reads, c.in_err-length.ensures.reads) refl; named = rw c.from_residual-in_err-length.ensures tt }

pub returns-in_err-mark : goal.returns-in_err-mark
returns-in_err-mark c = record { reads = λ more. rw (c.from_residual-in_err-mark.ensures, c.in_ok-sd.ensures.reads, c.in_ok-length.ensures.reads, c.in_err-mark.ensures.reads) refl; named = rw c.from_residual-in_err-mark.ensures tt }

pub returns : goal.returns
returns c = record { reads = λ more. rw (c.in_ok-sd.ensures.reads, c.in_ok-length.ensures.reads, c.in_ok-mark.ensures.reads) refl; named = refl }
