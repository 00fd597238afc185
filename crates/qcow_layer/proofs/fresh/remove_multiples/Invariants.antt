use Rattle.std.proofs.Common.{◌≡◌, ℕ, ◌/◌, ◌%◌, nat_lt}
use Rattle.std.specs.Prelude.{◌==◌, ◌&&◌, not}
use Rattle.layer_walk.specs.Bits.{has, room_of}
use Rattle.qcow_layer.proofs.fresh.remove_multiples.Given as goal

abbrev pub invariant-loop-k : goal.invariant-loop-k
invariant-loop-k l =
    ((c : ℕ) → has l.bits c ≡ (has l.fn.bits c && not (c % l.fn.of == 0 && nat_lt (c / l.fn.of) l.k))) × (room_of l.bits ≡ room_of l.fn.bits)
