use Rattle.std.proofs.Common.{refl, sym, ◌∙◌, []}
use Rattle.script_lines.proofs.SaidLemmas.{ended, too_many}
use Rattle.script_lines.proofs.line.read_step.Goals as goal

pub returns-in-None-clause-says : goal.returns-in-None-clause-says
returns-in-None-clause-says c = rw (c.in-None.ensures.reads []) refl

pub returns-then-has_words-clause-says : goal.returns-then-has_words-clause-says
returns-then-has_words-clause-says c =
    rw (c.in-Some.ensures.reads [], too_many _ _ (sym c.has_words.ensures ∙ c.if-has_words.true)) refl

pub returns-else-has_words-clause-says : goal.returns-else-has_words-clause-says
returns-else-has_words-clause-says c =
    rw (c.in-Some.ensures.reads [], ended _ _ (sym c.has_words.ensures ∙ c.if-has_words.false)) refl
