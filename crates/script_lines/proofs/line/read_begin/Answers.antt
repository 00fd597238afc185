use Rattle.std.proofs.Common.{refl}
use Rattle.script_lines.proofs.line.read_begin.Goals as goal

pub returns-in-Some-clause-says : goal.returns-in-Some-clause-says
returns-in-Some-clause-says c = rw c.in-Some.ensures.word c.read_call.ensures.says

pub returns-in-None-clause-says : goal.returns-in-None-clause-says
returns-in-None-clause-says c = rw c.in-None.ensures.word refl
