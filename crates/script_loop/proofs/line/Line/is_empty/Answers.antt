use Rattle.std.proofs.Common.{ap, ◌∙◌, slice_get}
use Rattle.script_loop.proofs.LineLemmas.{some_kept, none_kept}
use Rattle.script_loop.proofs.line.Line.is_empty.Goals as goal

pub returns-in-Some : goal.returns-in-Some
returns-in-Some c line holds =
    some_kept 200000 c.args.self.now.bytes.items line _ holds (c.in-Some.ensures.value ∙ ap (λ xs. slice_get xs 0) c.deref.ensures.value)

pub returns-in-None : goal.returns-in-None
returns-in-None c line holds =
    none_kept 200000 c.args.self.now.bytes.items line holds (c.in-None.ensures.value ∙ ap (λ xs. slice_get xs 0) c.deref.ensures.value)
