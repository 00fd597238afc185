use Rattle.std.proofs.Common.{sym, ◌∙◌, ap, Some, take}
use Rattle.std.specs.Option.{option_map}
use Rattle.script_lines.specs.Words.{words}
use Rattle.script_lines.specs.Argument.{data_text, bytes_value, before, first_value}
use Rattle.script_lines.proofs.ArgumentLemmas.{missing, malformed, found}
use Rattle.script_lines.proofs.arguments.Arguments.data.Goals as goal

pub returns-in_err-word : goal.returns-in_err-word
returns-in_err-word c = record { reads = λ more. rw c.from_residual.ensures (missing data_text more c.args.self.now.place c.args.self.now.rest.now c.in_err-word.ensures.word) }

pub returns-in_err-count : goal.returns-in_err-count
returns-in_err-count c = record { reads = λ more. rw c.from_residual-in_err-count.ensures (malformed data_text more c.args.self.now.place (words c.args.self.now.rest.now) (ap (first_value data_text) c.in_ok-word.ensures.word ∙ ap (λ o. before (words c.in_ok-word.rest.now) (option_map bytes_value o)) (sym (sym c.in_err-count.ensures.decoded)))) }

pub returns : goal.returns
returns c = record { reads = λ more. found data_text more c.args.self.now.place c.advance.new.self.place (words c.args.self.now.rest.now) (words c.advance.new.self.rest.now) (bytes_value (take c.in_ok-count.count c.decode.new.into)) (ap (first_value data_text) c.in_ok-word.ensures.word ∙ ap (λ o. before (words c.in_ok-word.rest.now) (option_map bytes_value o)) (sym (sym c.in_ok-count.ensures.decoded)) ∙ ap (λ r. Some (bytes_value (take c.in_ok-count.count c.decode.new.into), words r)) (sym c.advance.ensures.rest)) c.advance.ensures.place }
