use Rattle.std.proofs.Common.{◌≡◌, [], ◌∷◌, length, arith, sym, refl}
use Rattle.std.proofs.lemmas.List.{append_assoc}
use Rattle.std.proofs.lemmas.Bool.{eqb-true, eqb-false}
use Rattle.script_lines.specs.Printed.{printed}
use Rattle.script_lines.proofs.PrintedLemmas.{printed_more, nothing_printed}
use Rattle.script_lines.proofs.printed.push_separator.Goals as goal

pub returns-then-not-is_empty-clause-items : goal.returns-then-not-is_empty-clause-items
returns-then-not-is_empty-clause-items c =
    let some : length c.args.rest.now ≡ 0 → ⊥ = eqb-false _ _ (sym c.if-not-is_empty.ensures) in
    rw (printed_more c.args.rest.now (omega (arith, some)), c.push_all.ensures.items)
    (append_assoc c.args.text.now.items (43 ∷ []) (printed c.args.rest.now))

pub returns-else-not-is_empty-clause-items : goal.returns-else-not-is_empty-clause-items
returns-else-not-is_empty-clause-items c =
    let none = nothing_printed c.args.rest.now (eqb-true _ _ (sym c.if-not-is_empty.ensures)) in
    rw (none.0, none.1) refl
