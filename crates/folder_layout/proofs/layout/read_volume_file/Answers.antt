use Rattle.std.proofs.Common.{◌∙◌, sym}
use Rattle.std.specs.Cmp.Lexicographic.{other_text}
use Rattle.folder_layout.proofs.LayoutLemmas.{no_volume_id, no_volume_file}
use Rattle.folder_layout.proofs.layout.read_volume_file.Goals as goal

pub returns-in-None-clause-refused : goal.returns-in-None-clause-refused
returns-in-None-clause-refused c = λ name is. no_volume_id c.args.text.now name c.in-None.ensures.refused is

pub returns-else-eq-5-clause-refused : goal.returns-else-eq-5-clause-refused
returns-else-eq-5-clause-refused c = λ name is.
    no_volume_file c.args.text.now name c.in-Some.parts.0 c.in-Some.parts.1.now c.in-Some.ensures.text
    (other_text _ _ (sym c.if-eq.false ∙ rw c.as_slice.ensures at c.eq.ensures))
    (other_text _ _ (sym c.if-eq-2.false ∙ rw c.as_slice-else-eq.ensures at c.eq-else-eq.ensures))
    (other_text _ _ (sym c.if-eq-3.false ∙ rw c.as_slice-else-eq-2.ensures at c.eq-else-eq-2.ensures))
    (other_text _ _ (sym c.if-eq-4.false ∙ rw c.as_slice-else-eq-3.ensures at c.eq-else-eq-3.ensures))
    (other_text _ _ (sym c.if-eq-5.false ∙ rw c.as_slice-else-eq-4.ensures at c.eq-else-eq-4.ensures))
    is
