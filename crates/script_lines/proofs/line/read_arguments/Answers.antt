use Rattle.std.proofs.Common.{sym, ◌∙◌, []}
use Rattle.script_lines.specs.Words.{words}
use Rattle.script_lines.specs.Verbs.{kinds_of, values_of_verb}
use Rattle.script_lines.proofs.SaidLemmas.{all_read, more_than_all, not_all}
use Rattle.script_lines.proofs.line.read_arguments.Goals as goal

pub returns-in-None-clause-values : goal.returns-in-None-clause-values
returns-in-None-clause-values c =
    not_all (kinds_of c.args.name) _ (words c.args.rest.now) (c.in-None.ensures.reads [])

pub returns-then-has_words-clause-values : goal.returns-then-has_words-clause-values
returns-then-has_words-clause-values c =
    more_than_all (kinds_of c.args.name) (values_of_verb c.in-Some.verb) _ (words c.args.rest.now) _
    (sym c.has_words.ensures ∙ c.if-has_words.true) (c.in-Some.ensures.reads [])

pub returns-else-has_words-clause-values : goal.returns-else-has_words-clause-values
returns-else-has_words-clause-values c =
    all_read (kinds_of c.args.name) (values_of_verb c.in-Some.verb) _ (words c.args.rest.now) _
    (sym c.has_words.ensures ∙ c.if-has_words.false) (c.in-Some.ensures.reads [])
