use Rattle.std.proofs.Common.{◌≡◌, true, map, take}
use Rattle.std.specs.List.{list_all}
use Rattle.command_words.specs.Words.{is_line}
use Rattle.command_words.proofs.plain.all_lines.Given as goal

abbrev pub invariant-loop-word : goal.invariant-loop-word
invariant-loop-word l = list_all is_line (map (λ w. w.now) (take l.word-index l.words)) ≡ true
