use Rattle.std.proofs.Common.{Bool, sym, subst, set, arith}
use Rattle.layer_placing.specs.Knows.{IsRoom}
use Rattle.layer_placing.proofs.Zeros.{room_marked, room_plain}
use Rattle.layer_placing.proofs.covering.mark_own.Goals as goal

pub returns-then-first : goal.returns-then-first
returns-then-first c = subst (λ (b : Bool). IsRoom b (set c.args.room.now 1 1)) (sym c.if-first.true) (room_marked 65536 c.args.room.now c.requires.zeros (omega arith) (omega arith))

pub returns-else-first : goal.returns-else-first
returns-else-first c = subst (λ (b : Bool). IsRoom b c.args.room.now) (sym c.if-first.false) (room_plain 65536 c.args.room.now c.requires.zeros)
