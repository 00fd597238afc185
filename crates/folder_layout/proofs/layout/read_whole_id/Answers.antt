use Rattle.std.proofs.Common.{◌≡◌, ◌∙◌, ℕ, [], length, ◌==◌, sym, ap}
use Rattle.std.proofs.lemmas.Bool.{false≢true}
use Rattle.folder_layout.proofs.LayoutLemmas.{same_back, whole}
use Rattle.folder_layout.proofs.layout.read_whole_id.Goals as goal

pub returns-else-is_empty-clause-refused : goal.returns-else-is_empty-clause-refused
returns-else-is_empty-clause-refused c = λ id is e.
    let none : length c.in-Some.rest.now ≡ 0 = ap length (same_back c.in-Some.id id c.in-Some.rest.now [] (sym c.in-Some.ensures.text ∙ e ∙ whole id)) in
    false≢true (sym c.if-is_empty.false ∙ c.is_empty.ensures ∙ ap (λ (k : ℕ). k == 0) none)

pub returns-in-None-clause-refused : goal.returns-in-None-clause-refused
returns-in-None-clause-refused c = λ id is e. c.in-None.ensures.refused id [] is (e ∙ whole id)
