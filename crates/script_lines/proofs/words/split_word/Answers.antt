use Rattle.std.proofs.Common.{arith, sym, ◌∙◌}
use Rattle.script_lines.specs.Words.{is_space}
use Rattle.script_lines.proofs.PlacesLemmas.{position_some, position_none}
use Rattle.script_lines.proofs.WordsLemmas.{words_front, words_end}
use Rattle.script_lines.proofs.words.split_word.Goals as goal

pub returns-in-Some-clause-word : goal.returns-in-Some-clause-word
returns-in-Some-clause-word c =
    let found = position_some is_space c.args.line.now c.in-Some.end c.in-Some.ensures.place in
    let front = c.split_at.ensures.front in
    let back = c.split_at.ensures.back in
    rw (front, back) (words_front c.args.line.now c.in-Some.end found.0 (omega (arith, found.0)) (omega arith))

pub returns-in-None-clause-word : goal.returns-in-None-clause-word
returns-in-None-clause-word c =
    words_end c.args.line.now
    (position_none is_space c.args.line.now (sym c.in-None.is ∙ c.place_of.ensures.place)) c.requires
