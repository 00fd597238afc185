use Rattle.std.proofs.Common.{ap, ◌∙◌, sym, arith}
use Rattle.image_model.specs.File.{file_of}
use Rattle.image_model.specs.Soundness.{Item}
use Rattle.layer_walk.specs.Known.{tables_of}
use Rattle.layer_walk.proofs.Ends.{small_file}
use Rattle.layer_walk.proofs.TableWalks.{head_named}
use Rattle.layer_walk.proofs.ask.ask_head.Goals as goal

pub returns-in-None-clause-next : goal.returns-in-None-clause-next
returns-in-None-clause-next c capacity count sectors fits known =
    let t = tables_of c.args.work (file_of count sectors) in
    let once = known.once c.args.n (omega (arith, known.low, c.if-n-end.false)) in
    let is = (c.head_item.ensures.is (file_of count sectors) capacity (small_file c.args.work (file_of count sectors) fits)).same once.fine in
    absurd (head_named t capacity c.args.n (omega (arith, known.head, c.if-n-end.false)) (ap (λ (x : Item). x.name) (sym is) ∙ c.in-None.is))
