use Rattle.std.proofs.Common.{sym, ◌∙◌, ap, Some}
use Rattle.std.specs.Option.{option_map}
use Rattle.script_lines.specs.Words.{words}
use Rattle.script_lines.specs.Argument.{description, bytes_value, before, first_value}
use Rattle.script_lines.proofs.ArgumentLemmas.{missing, malformed, found}
use Rattle.script_lines.proofs.arguments.Arguments.description.Goals as goal

pub returns-in_err-word : goal.returns-in_err-word
returns-in_err-word c = record { reads = λ more. rw c.from_residual.ensures (missing description more c.args.self.now.place c.args.self.now.rest.now c.in_err-word.ensures.word) }

pub returns-in_err-text : goal.returns-in_err-text
returns-in_err-text c = record { reads = λ more. rw c.from_residual-in_err-text.ensures (malformed description more c.args.self.now.place (words c.args.self.now.rest.now) (ap (first_value description) c.in_ok-word.ensures.word ∙ ap (λ o. before (words c.in_ok-word.rest.now) (option_map bytes_value o)) (sym c.in_err-text.ensures))) }

pub returns : goal.returns
returns c = record { reads = λ more. found description more c.args.self.now.place c.advance.new.self.place (words c.args.self.now.rest.now) (words c.advance.new.self.rest.now) (bytes_value c.in_ok-text.text.now) (ap (first_value description) c.in_ok-word.ensures.word ∙ ap (λ o. before (words c.in_ok-word.rest.now) (option_map bytes_value o)) (sym c.in_ok-text.ensures) ∙ ap (λ r. Some (bytes_value c.in_ok-text.text.now, words r)) (sym c.advance.ensures.rest)) c.advance.ensures.place }
