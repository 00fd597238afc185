use Rattle.std.proofs.Common.{◌≡◌, ◌∙◌, sym, ap, arith, Some}
use Rattle.std.specs.Cmp.Lexicographic.{same_text, other_text}
use Rattle.sd_names.specs.Id.{id_text}
use Rattle.sd_names.proofs.IdLemmas.{reads_itself}
use Rattle.folder_layout.proofs.LayoutLemmas.{front_of, long_enough, joined_id}
use Rattle.folder_layout.proofs.layout.read_id.Goals as goal

pub returns-in-None-clause-refused : goal.returns-in-None-clause-refused
returns-in-None-clause-refused c = λ id rest is e. omega (arith, long_enough id rest c.args.text.now e, c.in-None.ensures.cases)

pub returns-in-None-read-clause-refused : goal.returns-in-None-read-clause-refused
returns-in-None-read-clause-refused c = λ id rest is e.
    let front : c.in-Some.parts.0.now ≡ id_text id.0 = c.in-Some.ensures.cases.1 ∙ front_of id rest c.args.text.now e in
    c.in-None-read.ensures.refused id.0 is (rw front (reads_itself id.0))

pub returns-then-eq-clause-text : goal.returns-then-eq-clause-text
returns-then-eq-clause-text c =
    let same : c.as_slice.result.now ≡ c.in-Some.parts.0.now = same_text _ _ (sym c.if-eq.true ∙ c.eq.ensures) in
    joined_id c.args.text.now c.in-Some.parts.0.now c.in-Some.parts.1.now c.in-Some-read.id c.in-Some.ensures.cases (sym c.text.ensures.text ∙ sym c.as_slice.ensures ∙ same)

pub returns-else-eq-clause-refused : goal.returns-else-eq-clause-refused
returns-else-eq-clause-refused c = λ id rest is e.
    let front : c.in-Some.parts.0.now ≡ id_text id.0 = c.in-Some.ensures.cases.1 ∙ front_of id rest c.args.text.now e in
    let read : Some c.in-Some-read.id ≡ Some id = c.in-Some-read.ensures.found id.0 is (rw front (reads_itself id.0)) in
    let same : c.in-Some-read.id ≡ id = cc in
    other_text _ _ (sym c.if-eq.false ∙ c.eq.ensures) (c.as_slice.ensures ∙ c.text.ensures.text ∙ ap (λ i. id_text i.0) same ∙ sym front)
