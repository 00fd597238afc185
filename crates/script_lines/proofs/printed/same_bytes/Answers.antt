use Rattle.std.proofs.Common.{◌==◌, not, sym, ◌∙◌, slice_index}
use Rattle.script_lines.proofs.PlacesLemmas.{position_some, position_none}
use Rattle.script_lines.proofs.PrintedLemmas.{other_than}
use Rattle.script_lines.proofs.printed.same_bytes.Goals as goal

pub returns-in-Some-clause-count : goal.returns-in-Some-clause-count
returns-in-Some-clause-count c =
    let bytes = c.args.bytes.now in
    (position_some (λ b. not (b == slice_index bytes 0)) bytes c.in-Some.place c.in-Some.ensures.place).0
    ∙ other_than (slice_index bytes 0) bytes

pub returns-in-None-clause-count : goal.returns-in-None-clause-count
returns-in-None-clause-count c =
    let bytes = c.args.bytes.now in
    sym (position_none (λ b. not (b == slice_index bytes 0)) bytes (sym c.in-None.is ∙ c.place_of_other.ensures.place))
    ∙ other_than (slice_index bytes 0) bytes
