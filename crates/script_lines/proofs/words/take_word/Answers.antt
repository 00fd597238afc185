use Rattle.std.proofs.Common.{◌≡◌, not, drop, arith, sym, ◌∙◌}
use Rattle.std.proofs.lemmas.List.{take_rest}
use Rattle.script_lines.specs.Words.{is_space, words}
use Rattle.script_lines.proofs.PlacesLemmas.{position_some, position_none}
use Rattle.script_lines.proofs.WordsLemmas.{words-drop, word_begins, words_none}
use Rattle.script_lines.proofs.words.take_word.Goals as goal

pub split_word-requires : goal.split_word-requires
split_word-requires c =
    let line = c.args.line.now in
    let found = position_some (λ b. not (is_space b)) line c.in-Some.start c.in-Some.ensures.place in
    rw (take_rest line c.in-Some.start, found.0) (word_begins line (omega (arith, found.0, found.1)))

pub returns-in-Some-clause-word : goal.returns-in-Some-clause-word
returns-in-Some-clause-word c =
    let line = c.args.line.now in
    let found = position_some (λ b. not (is_space b)) line c.in-Some.start c.in-Some.ensures.place in
    let rest : words line ≡ words (drop c.in-Some.start line) = rw found.0 (words-drop line) in
    rest ∙ (rw take_rest at c.split_word.ensures.word)

pub returns-in-None-clause-word : goal.returns-in-None-clause-word
returns-in-None-clause-word c =
    words_none c.args.line.now (position_none (λ b. not (is_space b)) c.args.line.now (sym c.in-None.is ∙ c.place_of_other.ensures.place))
