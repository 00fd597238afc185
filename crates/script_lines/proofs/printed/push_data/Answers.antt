use Rattle.std.proofs.Common.{◌++◌, sym, ◌∙◌, ap}
use Rattle.std.proofs.lemmas.List.{append-nil}
use Rattle.std.proofs.lemmas.Bool.{eqb-true}
use Rattle.script_lines.proofs.PrintedLemmas.{nothing_printed}
use Rattle.script_lines.proofs.printed.push_data.Goals as goal

pub returns-clause-items : goal.returns-clause-items
returns-clause-items c =
    let text = c.loop-rest.text.items in
    let none = nothing_printed c.loop-rest.rest.now (eqb-true _ _ (sym c.loop-rest-test.ensures)) in
    sym (append-nil text) ∙ ap (λ ys. text ++ ys) (sym none.0) ∙ c.loop-rest.invariant.printed_so_far
