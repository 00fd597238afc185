use Rattle.std.proofs.Common.{refl}
use Rattle.script_lines.proofs.line.has_words.Goals as goal

pub returns-in-Some : goal.returns-in-Some
returns-in-Some c = rw c.in-Some.ensures.word refl

pub returns-in-None : goal.returns-in-None
returns-in-None c = rw c.in-None.ensures.word refl
