use Rattle.std.proofs.Common.{◌/◌, length, sym, subst}
use Rattle.chain_reading.specs.Left.{FallsIn}
use Rattle.chain_reading.specs.Reading.{ReadsIn}
use Rattle.sd_names.specs.declared.turn.Turn.TheVariants.{More}
use Rattle.chain_reading.proofs.Fewer.{find_falls}
use Rattle.chain_reading.proofs.part.ReadPart.step.Goals as goal

pub returns-in-Begun-clause-falls : goal.returns-in-Begun-clause-falls
returns-in-Begun-clause-falls g c =
    subst (λ s. FallsIn s c.args.self c.args.chain.now (length c.args.part.now / 512) (More c.find.result)) (sym c.in-Begun.is) (find_falls c.args.self c.find.result c.args.chain.now (length c.args.part.now / 512) c.find.ensures)

pub returns-in-Looking-clause-content : goal.returns-in-Looking-clause-content
returns-in-Looking-clause-content g c d tells =
    let t = c.look.ensures.content d tells in
    (t.0, t.1, subst (λ s. ReadsIn s c.args.self c.args.chain.now c.args.host c.args.part.now c.args.part.now c.look.result d t.0) (sym c.in-Looking.is) (t.2 c.args.part.now))
