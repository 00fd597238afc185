use Rattle.std.proofs.Common.{◌≡◌, ◌≢◌, ℕ, ◌<◌, false}
use Rattle.sd_names.specs.UpSet.{is_up}
use Rattle.sd_names.proofs.up_set.UpSet.least_but.Given as goal

abbrev pub invariant-loop-number : goal.invariant-loop-number
invariant-loop-number l = (k : ℕ) → k < l.number → k ≢ l.host → is_up l.self-inside.up k ≡ false
