use Rattle.std.proofs.Common.{◌∙◌, sym}
use Rattle.std.specs.Cmp.Lexicographic.{other_text}
use Rattle.folder_layout.proofs.LayoutLemmas.{no_domain_folder}
use Rattle.folder_layout.proofs.layout.read_domain_folder.Goals as goal

pub returns-else-eq-3-clause-refused : goal.returns-else-eq-3-clause-refused
returns-else-eq-3-clause-refused c = λ q is.
    no_domain_folder c.args.sd.now c.args.text.now q
    (other_text _ _ (sym c.if-eq.false ∙ rw c.as_slice.ensures at c.eq.ensures))
    (other_text _ _ (sym c.if-eq-2.false ∙ rw c.as_slice-else-eq.ensures at c.eq-else-eq.ensures))
    (other_text _ _ (sym c.if-eq-3.false ∙ rw c.as_slice-else-eq-2.ensures at c.eq-else-eq-2.ensures))
    is
