use Rattle.std.proofs.Common.{ap, Some, ◌∙◌}
use Rattle.std.proofs.lemmas.Bool.{false≢true}
use Rattle.script_lines.proofs.line.read_host.Goals as goal

pub returns-in_err-number : goal.returns-in_err-number
returns-in_err-number c = rw c.from_residual.ensures c.in_err-number.ensures.value

pub returns-in-Some : goal.returns-in-Some
returns-in-Some c = ap Some c.in-Some.ensures.value ∙ c.in_ok-number.ensures.value

pub returns-in-None : goal.returns-in-None
returns-in-None c = absurd (false≢true (c.in-None.ensures.known.1 c.in_ok-number.ensures.within))
