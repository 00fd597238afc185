use Rattle.std.proofs.Common.{◌≡◌, length, ◌∙◌, arith}
use Rattle.std.proofs.lemmas.List.{take_all}
use Rattle.mail_box.proofs.Chunks.{flat_map-first_chunks, get_or-first_chunks}
use Rattle.mail_box.proofs.mailbox.Mailbox.from_bytes.Goals as goal

pub returns-clause-bytes : goal.returns-clause-bytes
returns-clause-bytes c =
    let n : length c.args.bytes ≡ 4096 = omega arith in
    rw (c.copy_from_slice.ensures.after, c.as_chunks.ensures.front, n) (flat_map-first_chunks 64 64 c.args.bytes ∙ take_all 4096 c.args.bytes (omega arith))

pub returns-clause-slots : goal.returns-clause-slots
returns-clause-slots c = λ k h.
    let n : length c.args.bytes ≡ 4096 = omega arith in
    rw (c.copy_from_slice.ensures.after, c.as_chunks.ensures.front, n) (get_or-first_chunks 64 64 k c.args.bytes h)
