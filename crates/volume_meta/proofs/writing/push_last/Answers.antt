use Rattle.volume_meta.specs.Text.{last_lines}
use Rattle.volume_meta.proofs.Joined.{joined-eight}
use Rattle.volume_meta.proofs.writing.push_last.Goals as goal

pub returns-clause-written : goal.returns-clause-written
unfolding last_lines
returns-clause-written c =
    let image = rw c.text.ensures.text at c.push.ensures.written in
    let legality = rw c.legality_text.ensures.text at c.push-2.ensures.written in
    let parent = rw c.text-2.ensures.text at c.push-3.ensures.written in
    let kind = rw c.kind_text.ensures.text at c.push-4.ensures.written in
    let voltype = rw c.voltype_text.ensures.text at c.push-5.ensures.written in
    joined-eight _ _ _ _ _ _ _ _ _ _ _ _ _ _ _ _ _ image legality c.push_merged.ensures.written c.push_mtime.ensures.written parent c.push_size.ensures.written kind voltype
