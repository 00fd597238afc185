use Rattle.std.proofs.Common.{refl, ◌∙◌}
use Rattle.volume_meta.specs.Text.{first_lines}
use Rattle.volume_meta.proofs.Joined.{joined-seven}
use Rattle.volume_meta.proofs.writing.push_first.Goals as goal

pub returns-clause-written : goal.returns-clause-written
unfolding first_lines
returns-clause-written c =
    let description = c.push.ensures.written ∙ rw (c.as_bytes.ensures.value, c.name.ensures.name, c.as_slice.ensures) refl in
    let disk_type = rw c.as_slice-2.ensures at c.push-2.ensures.written in
    let domain = rw c.text.ensures.text at c.push-3.ensures.written in
    let format = rw c.format_text.ensures.text at c.push-4.ensures.written in
    let generation = rw c.from.ensures at c.push_number-2.ensures.written in
    joined-seven _ _ _ _ _ _ _ _ _ _ _ _ _ _ _ c.push_cap.ensures.written c.push_number.ensures.written description disk_type domain format generation
