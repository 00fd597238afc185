use Rattle.std.proofs.Common.{◌≡◌, ℕ, ◌-◌, ◌/◌, ◌^◌, ◌<◌, ◌≤◌, get_or}
use Rattle.layer_walk.proofs.bits.Bits.missing.Given as goal

abbrev pub invariant-loop-k : goal.invariant-loop-k
invariant-loop-k l = (w : ℕ) → l.first / 64 ≤ w → w < l.k → get_or l.self.words.items w 0 ≡ 2 ^ 64 - 1
