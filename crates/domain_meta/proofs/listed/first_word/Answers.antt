use Rattle.std.proofs.Common.{sym}
use Rattle.domain_meta.proofs.Domains.{words_first, words_none}
use Rattle.domain_meta.proofs.listed.first_word.Goals as goal

pub returns-in-Some : goal.returns-in-Some
returns-in-Some c =
    let found = sym c.in-Some.ensures.found in
    rw (c.in-Some.ensures.before, c.in-Some.ensures.after) (words_first c.args.text.now found)

pub returns-in-None : goal.returns-in-None
returns-in-None c = words_none c.args.text.now (sym c.in-None.ensures.found)
