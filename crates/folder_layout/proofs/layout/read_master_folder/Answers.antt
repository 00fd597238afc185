use Rattle.std.proofs.Common.{◌∙◌, sym}
use Rattle.std.specs.Cmp.Lexicographic.{same_text, other_text}
use Rattle.folder_layout.proofs.LayoutLemmas.{is_tasks, no_master_folder}
use Rattle.folder_layout.proofs.layout.read_master_folder.Goals as goal

pub returns-then-eq-clause-inside : goal.returns-then-eq-clause-inside
returns-then-eq-clause-inside c =
    is_tasks c.args.sd.now c.args.text.now c.has_sixteen_bytes.ensures (same_text _ _ (sym c.if-eq.true ∙ rw c.as_slice.ensures at c.eq.ensures))

pub returns-else-eq-clause-refused : goal.returns-else-eq-clause-refused
returns-else-eq-clause-refused c = λ q is.
    no_master_folder c.args.sd.now c.args.text.now q (other_text _ _ (sym c.if-eq.false ∙ rw c.as_slice.ensures at c.eq.ensures)) is
