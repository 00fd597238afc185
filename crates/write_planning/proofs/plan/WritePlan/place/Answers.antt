use Rattle.std.proofs.Common.{sym, arith}
use Rattle.write_planning.proofs.Targets.{new_wanted}
use Rattle.write_planning.proofs.plan.WritePlan.place.Goals as goal

pub get-requires : goal.get-requires
get-requires c = omega (arith, c.requires.placed, (new_wanted c.args.self.now c.args.index c.in-New.new (sym c.in-New.ensures) c.requires.index).1)
