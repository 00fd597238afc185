use Rattle.std.proofs.Common.{◌≡◌, ◌≤◌, length, ℕ, ◌<◌, get_or, true, eqb}
use Rattle.std.specs.Prelude.{not}
use Rattle.qcow_format.proofs.name.last_part_of.Given as goal

-- no `/` stands from the start on
abbrev pub invariant-loop-start : goal.invariant-loop-start
invariant-loop-start l =
    (l.start ≤ length l.name) × ((k : ℕ) → l.start ≤ k → k < length l.name → not (eqb (get_or l.name k 0) 47) ≡ true)

abbrev pub decreases-loop-start : goal.decreases-loop-start
decreases-loop-start l = l.start
