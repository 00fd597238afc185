use Rattle.std.proofs.Common.{sym, ◌∙◌, arith}
use Rattle.std.proofs.lemmas.List.Folds.{list_all-map, list_all_at}
use Rattle.command_words.specs.Words.{is_line}
use Rattle.command_words.proofs.plain.all_lines.Goals as goal

pub returns-then-not-is_line : goal.returns-then-not-is_line
returns-then-not-is_line c =
    let within = c.loop-word-test.true in
    let fails = sym c.is_line.ensures ∙ c.if-not-is_line.true in
    sym (list_all-map is_line (λ w. w.now) c.args.words.now
    ∙ list_all_at (λ w. is_line w.now) c.args.words.now c.loop-word.word-index _ (omega (arith, within)) fails)
