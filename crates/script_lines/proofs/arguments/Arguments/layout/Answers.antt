use Rattle.std.proofs.Common.{◌∷◌, sym, ◌∙◌, ap, Some}
use Rattle.script_lines.specs.Words.{words}
use Rattle.script_lines.specs.Argument.{layout, layout_value, before, first_value}
use Rattle.script_lines.proofs.ArgumentLemmas.{missing, malformed, found}
use Rattle.script_lines.proofs.arguments.Arguments.layout.Goals as goal

pub returns-in_err-format : goal.returns-in_err-format
returns-in_err-format c = record { reads = λ more. rw c.from_residual.ensures (missing layout more c.args.self.now.place c.args.self.now.rest.now c.in_err-format.ensures.word) }

pub returns-in_err-kind : goal.returns-in_err-kind
returns-in_err-kind c = record {
  reads = λ more. rw c.from_residual-in_err-kind.ensures (
      malformed layout more c.args.self.now.place (words c.args.self.now.rest.now)
      (ap (first_value layout) (c.in_ok-format.ensures.word ∙ ap (λ ws. c.in_ok-format.format.now ∷ ws) c.in_err-kind.ensures.word)));
}

pub returns-in_err-of : goal.returns-in_err-of
returns-in_err-of c = record {
  reads = λ more. rw c.from_residual-in_err-of.ensures (
      malformed layout more c.args.self.now.place (words c.args.self.now.rest.now)
      (ap (first_value layout) (c.in_ok-format.ensures.word ∙ ap (λ ws. c.in_ok-format.format.now ∷ ws) c.in_ok-kind.ensures.word)
      ∙ ap (before (words c.in_ok-kind.rest.now)) (sym c.in_err-of.ensures)));
}

pub returns : goal.returns
returns c = record {
  reads = λ more. found layout more c.args.self.now.place c.advance.new.self.place (words c.args.self.now.rest.now)
      (words c.advance.new.self.rest.now) (layout_value c.in_ok-of.of.0 c.in_ok-of.of.1)
      (ap (first_value layout) (c.in_ok-format.ensures.word ∙ ap (λ ws. c.in_ok-format.format.now ∷ ws) c.in_ok-kind.ensures.word)
      ∙ ap (before (words c.in_ok-kind.rest.now)) (sym c.in_ok-of.ensures)
      ∙ ap (λ r. Some (layout_value c.in_ok-of.of.0 c.in_ok-of.of.1, words r)) (sym c.advance.ensures.rest)) c.advance.ensures.place;
}
