use Rattle.std.proofs.Common.{sym, ◌∙◌}
use Rattle.std.proofs.lemmas.List.{take_rest}
use Rattle.script_lines.proofs.DataLemmas.{part_run, part_digits}
use Rattle.script_lines.proofs.data.decode_part.Goals as goal

pub returns-in-Some-clause-refused : goal.returns-in-Some-clause-refused
returns-in-Some-clause-refused c =
    rw (part_run c.args.part.now c.in-Some.star c.in-Some.ensures.place) (rw take_rest at c.decode_run.ensures.refused)

pub returns-in-Some-clause-laid : goal.returns-in-Some-clause-laid
returns-in-Some-clause-laid c =
    rw (part_run c.args.part.now c.in-Some.star c.in-Some.ensures.place) (rw take_rest at c.decode_run.ensures.laid)

pub returns-in-None-clause-refused : goal.returns-in-None-clause-refused
returns-in-None-clause-refused c =
    rw (part_digits c.args.part.now (sym c.in-None.is ∙ c.place_of.ensures.place)) c.decode_digits.ensures.refused

pub returns-in-None-clause-laid : goal.returns-in-None-clause-laid
returns-in-None-clause-laid c =
    rw (part_digits c.args.part.now (sym c.in-None.is ∙ c.place_of.ensures.place)) c.decode_digits.ensures.laid
