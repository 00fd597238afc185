use Rattle.std.proofs.Common.{◌≡◌, ◌∙◌, [], refl, length, ap, sym}
use Rattle.std.proofs.lemmas.List.{take_at}
use Rattle.hex.specs.Hex.{encode_lower}
use Rattle.kv_text.specs.Text.{text_of}
use Rattle.kv_text.specs.Written.{written, room}
use Rattle.domain_meta.specs.Checksum.{checksum_of}
use Rattle.domain_meta.specs.Text.{domain_pairs, domain_text}
use Rattle.domain_meta.proofs.OwnText.{own_checksum, all_writable}
use Rattle.domain_meta.proofs.writing.write_into.Goals as goal
use Rattle.domain_meta.proofs.writing.write_into.Goals.{After-finish}

-- the digest of the lines that were written is the checksum of their text
digest : (c : After-finish) → c.digest_text-digest.result ≡ encode_lower (checksum_of (text_of (domain_pairs c.args.domain.now)))
digest c =
    let all = all_writable c.args.domain.now c.requires.one_line c.push_lines.ensures.version c.push_lines.ensures.master_version in
    let digested = c.finalize.ensures _ (c.push_lines.ensures.digested [] c.new-hasher.ensures) in
    c.digest_text-digest.ensures.text ∙ ap encode_lower (digested ∙ sym (own_checksum c.args.domain.now all))

whole_text : (c : After-finish) → written c.push.new.self ≡ domain_text c.args.domain.now
unfolding domain_text
whole_text c =
    let lines = rw c.new-writer.ensures.written at c.push_lines.ensures.written in
    let last = rw (c.as_bytes.ensures.value, c.name.ensures.name, digest c, lines) at c.push.ensures.written in
    last

pub returns-clause-len : goal.returns-clause-len
returns-clause-len c = c.finish.ensures.len ∙ ap length (whole_text (goal.at.returns-clause-len c).After-finish)

pub returns-clause-text : goal.returns-clause-text
returns-clause-text c =
    rw (c.finish.ensures.buffer, c.finish.ensures.len) (take_at (written c.push.new.self) (room c.push.new.self) (length (written c.push.new.self)) refl ∙ whole_text (goal.at.returns-clause-text c).After-finish)
