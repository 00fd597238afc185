use Rattle.std.proofs.lemmas.List.{append_assoc, append-nil}
use Rattle.script_lines.proofs.reply.push_volume.Goals as goal

pub returns-clause-items : goal.returns-clause-items
returns-clause-items c = rw (c.push_number_word.ensures.items, c.push_id.ensures.items, c.push_all.ensures.items) (simp (append_assoc, append-nil))
