use Rattle.std.proofs.Common.{refl}
use Rattle.std.proofs.lemmas.Bool.{false≢true}
use Rattle.script_lines.proofs.arguments.Arguments.host.Goals as goal

pub returns-in_err-number : goal.returns-in_err-number
returns-in_err-number c = record { reads = λ more. rw (c.from_residual.ensures, c.in_err-number.ensures.reads) refl }

pub returns-in-Some : goal.returns-in-Some
returns-in-Some c = record { reads = λ more. rw (c.in_ok-number.ensures.reads, c.in-Some.ensures.value) refl }

pub returns-in-None : goal.returns-in-None
returns-in-None c = record { reads = λ more. absurd (false≢true (c.in-None.ensures.known.1 c.in_ok-number.ensures.within)) }
