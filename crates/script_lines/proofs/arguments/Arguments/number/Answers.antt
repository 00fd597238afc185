use Rattle.std.proofs.Common.{sym, ◌∙◌, ap, Some}
use Rattle.std.specs.Option.{option_map}
use Rattle.script_lines.specs.Words.{words}
use Rattle.script_lines.specs.Argument.{number, number_value, before, first_value}
use Rattle.script_lines.proofs.ArgumentLemmas.{missing, malformed, found}
use Rattle.script_lines.proofs.arguments.Arguments.number.Goals as goal

pub returns-in_err-word-clause-reads : goal.returns-in_err-word-clause-reads
returns-in_err-word-clause-reads c = λ more. rw c.from_residual.ensures (missing (number c.args.low c.args.high) more c.args.self.now.place c.args.self.now.rest.now c.in_err-word.ensures.word)

pub returns-in_err-value-clause-reads : goal.returns-in_err-value-clause-reads
returns-in_err-value-clause-reads c = λ more. rw c.from_residual-in_err-value.ensures (malformed (number c.args.low c.args.high) more c.args.self.now.place (words c.args.self.now.rest.now) (ap (first_value (number c.args.low c.args.high)) c.in_ok-word.ensures.word ∙ ap (λ o. before (words c.in_ok-word.rest.now) (option_map number_value o)) (sym c.in_err-value.ensures.value)))

pub returns-clause-reads : goal.returns-clause-reads
returns-clause-reads c = λ more. found (number c.args.low c.args.high) more c.args.self.now.place c.advance.new.self.place (words c.args.self.now.rest.now) (words c.advance.new.self.rest.now) (number_value c.in_ok-value.value) (ap (first_value (number c.args.low c.args.high)) c.in_ok-word.ensures.word ∙ ap (λ o. before (words c.in_ok-word.rest.now) (option_map number_value o)) (sym c.in_ok-value.ensures.value) ∙ ap (λ r. Some (number_value c.in_ok-value.value, words r)) (sym c.advance.ensures.rest)) c.advance.ensures.place
