use Rattle.std.proofs.Common.{sym, ◌∙◌}
use Rattle.std.proofs.lemmas.List.{take_rest}
use Rattle.script_lines.specs.Data.{is_plus}
use Rattle.script_lines.proofs.DataLemmas.{split_at, split_whole}
use Rattle.script_lines.proofs.data.split_part.Goals as goal

pub returns-in-Some-clause-parts : goal.returns-in-Some-clause-parts
returns-in-Some-clause-parts c =
    rw take_rest (split_at is_plus c.args.text.now c.in-Some.end c.in-Some.ensures.place)

pub returns-in-None-clause-parts : goal.returns-in-None-clause-parts
returns-in-None-clause-parts c =
    split_whole is_plus c.args.text.now (sym c.in-None.is ∙ c.place_of.ensures.place)
