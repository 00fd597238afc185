use Rattle.std.proofs.Common.{refl, sym}
use Rattle.script_lines.specs.Said.{words_said}
use Rattle.script_lines.proofs.line.split_line.Goals as goal

pub returns-in_err-first-clause-told : goal.returns-in_err-first-clause-told
unfolding words_said
returns-in_err-first-clause-told c = rw (c.from_residual.ensures, c.in_err-first.ensures.word) refl

pub returns-in_err-word-clause-told : goal.returns-in_err-word-clause-told
unfolding words_said
returns-in_err-word-clause-told c =
    rw (c.from_residual-in_err-word.ensures, c.in_ok-first.ensures.word, c.in_err-word.ensures.word) refl

pub returns-in_err-host-clause-told : goal.returns-in_err-host-clause-told
unfolding words_said
returns-in_err-host-clause-told c =
    let none = sym c.in_err-host.ensures in
    rw (c.from_residual-in_err-host.ensures, c.in_ok-first.ensures.word, c.in_ok-word.ensures.word, none) refl

pub returns-clause-told : goal.returns-clause-told
unfolding words_said
returns-clause-told c =
    let some = sym c.in_ok-host.ensures in
    rw (c.in_ok-first.ensures.word, c.in_ok-word.ensures.word, some) refl
