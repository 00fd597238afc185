use Rattle.std.proofs.Common.{sym}
use Rattle.sd_names.proofs.IdLemmas.{id_text-length, id_text-ascii}
use Rattle.sd_names.proofs.id.Id.text.Goals as goal

pub copy_from_slice-requires : goal.copy_from_slice-requires
copy_from_slice-requires c =
    rw (c.as_bytes.ensures.value, c.encode_lower-encoded.ensures.text) (sym (id_text-length _))

pub returns-clause-ascii : goal.returns-clause-ascii
returns-clause-ascii c =
    rw (c.copy_from_slice.ensures.after, c.as_bytes.ensures.value, c.encode_lower-encoded.ensures.text) (id_text-ascii _)
