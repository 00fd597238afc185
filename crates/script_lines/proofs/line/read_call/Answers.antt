use Rattle.std.proofs.Common.{refl, sym, ap}
use Rattle.script_lines.specs.Said.{call}
use Rattle.script_lines.proofs.line.read_call.Goals as goal

pub returns-in-Some-clause-says : goal.returns-in-Some-clause-says
returns-in-Some-clause-says c =
    rw (sym c.in-Some.ensures) (ap (call c.args.is_whole c.args.host c.in-Some.name) c.read_arguments.ensures.values)

pub returns-in-None-clause-says : goal.returns-in-None-clause-says
returns-in-None-clause-says c = rw (sym c.in-None.ensures) refl
