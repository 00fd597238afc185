use Rattle.std.proofs.Common.{refl}
use Rattle.script_lines.proofs.verbs.spm_start.Goals as goal

pub returns-in_err-sd : goal.returns-in_err-sd
returns-in_err-sd c = record { reads = λ more. rw (c.from_residual.ensures, c.in_err-sd.ensures.reads) refl; named = rw c.from_residual.ensures tt }

pub returns-in_err-prev : goal.returns-in_err-prev
returns-in_err-prev c = record { reads = λ more. rw (c.from_residual-in_err-prev.ensures, c.in_ok-sd.ensures.reads, c.in_err-prev.ensures.reads) refl; named = rw c.from_residual-in_err-prev.ensures tt }

pub returns-in_err-lver : goal.returns-in_err-lver
returns-in_err-lver c = record { reads = λ more. rw (c.from_residual-in_err-lver.ensures, c.in_ok-sd.ensures.reads, c.in_ok-prev.ensures.reads, c.in_err-lver.ensures.reads) refl; named = rw c.from_residual-in_err-lver.ensures tt }

pub returns : goal.returns
returns c = record { reads = λ more. rw (c.in_ok-sd.ensures.reads, c.in_ok-prev.ensures.reads, c.in_ok-lver.ensures.reads) refl; named = refl }
