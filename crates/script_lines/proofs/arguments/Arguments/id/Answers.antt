use Rattle.std.proofs.Common.{sym, ◌∙◌, ap, Some}
use Rattle.std.specs.Option.{option_map}
use Rattle.script_lines.specs.Words.{words}
use Rattle.script_lines.specs.Argument.{identifier, id_value, before, first_value}
use Rattle.script_lines.proofs.ArgumentLemmas.{missing, malformed, found}
use Rattle.script_lines.proofs.arguments.Arguments.id.Goals as goal

pub returns-in_err-word : goal.returns-in_err-word
returns-in_err-word c = record { reads = λ more. rw c.from_residual.ensures (missing identifier more c.args.self.now.place c.args.self.now.rest.now c.in_err-word.ensures.word) }

pub returns-in_err-id : goal.returns-in_err-id
returns-in_err-id c = record { reads = λ more. rw c.from_residual-in_err-id.ensures (malformed identifier more c.args.self.now.place (words c.args.self.now.rest.now) (ap (first_value identifier) c.in_ok-word.ensures.word ∙ ap (λ o. before (words c.in_ok-word.rest.now) (option_map id_value o)) (sym c.in_err-id.ensures))) }

pub returns : goal.returns
returns c = record { reads = λ more. found identifier more c.args.self.now.place c.advance.new.self.place (words c.args.self.now.rest.now) (words c.advance.new.self.rest.now) (id_value c.in_ok-id.id.0) (ap (first_value identifier) c.in_ok-word.ensures.word ∙ ap (λ o. before (words c.in_ok-word.rest.now) (option_map id_value o)) (sym c.in_ok-id.ensures) ∙ ap (λ r. Some (id_value c.in_ok-id.id.0, words r)) (sym c.advance.ensures.rest)) c.advance.ensures.place }
