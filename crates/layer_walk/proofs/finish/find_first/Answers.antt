use Rattle.std.proofs.Common.{◌≤◌, refl, subst, sym, ◌∙◌, arith}
use Rattle.image_model.specs.File.{file_of}
use Rattle.layer_walk.specs.Known.{tables_of}
use Rattle.layer_walk.specs.Positions.{l1_position}
use Rattle.layer_walk.proofs.Ends.{second_begins, tables_end}
use Rattle.layer_walk.proofs.Places.{item_past}
use Rattle.layer_walk.proofs.finish.find_first.Goals as goal

pub returns-then-header-eq0-clause-next : goal.returns-then-header-eq0-clause-next
returns-then-header-eq0-clause-next c capacity count sectors fits known =
    let t = tables_of c.args.work (file_of count sectors) in
    absurd (tables_end t capacity _ c.args.place c.check_head.new.marks (c.in_default.ensures.keeps.noted ∙ c.requires)
    (second_begins c.args.work (file_of count sectors) capacity c.args.place c.check_head.new.marks c.requires c.in_default.ensures fits known)
    (λ n le. item_past t capacity n (subst (λ k. l1_position t k ≤ n) (sym c.if-header-eq0.true) le)))

pub returns-clause-next : goal.returns-clause-next
returns-clause-next c capacity count sectors fits known = (
  record { tables = second_begins c.args.work (file_of count sectors) capacity c.args.place c.check_head.new.marks c.requires c.in_default.ensures fits known; whole = λ lt. refl },
  omega (arith, c.if-header-eq0.false),
)
