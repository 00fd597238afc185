use Rattle.std.proofs.Common.{◌∙◌, sym}
use Rattle.std.specs.Cmp.Lexicographic.{other_text}
use Rattle.folder_layout.proofs.LayoutLemmas.{no_task_id, no_task_file}
use Rattle.folder_layout.proofs.layout.read_task_file.Goals as goal

pub returns-in-None-clause-refused : goal.returns-in-None-clause-refused
returns-in-None-clause-refused c = λ name is. no_task_id c.args.text.now name c.in-None.ensures.refused is

pub returns-else-eq-2-clause-refused : goal.returns-else-eq-2-clause-refused
returns-else-eq-2-clause-refused c = λ name is.
    no_task_file c.args.text.now name c.in-Some.parts.0 c.in-Some.parts.1.now c.in-Some.ensures.text
    (other_text _ _ (sym c.if-eq.false ∙ rw c.as_slice.ensures at c.eq.ensures))
    (other_text _ _ (sym c.if-eq-2.false ∙ rw c.as_slice-else-eq.ensures at c.eq-else-eq.ensures))
    is
