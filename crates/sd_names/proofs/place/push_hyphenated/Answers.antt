use Rattle.std.proofs.Common.{length, ap, arith, lit<}
use Rattle.sd_names.proofs.IdLemmas.{id_text-length}
use Rattle.sd_names.proofs.place.push_hyphenated.Goals as goal

pub push_str-requires : goal.push_str-requires
push_str-requires c =
    let long = id_text-length c.hyphenated.result in
    (lit< tt, omega (arith, c.requires.room, ap length c.encode_lower.ensures.text, long))

pub returns-clause-len : goal.returns-clause-len
returns-clause-len c =
    omega (arith, c.push_str.ensures.len, ap length c.encode_lower.ensures.text, id_text-length c.hyphenated.result)
