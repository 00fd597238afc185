use Rattle.std.proofs.Common.{◌≡◌, ◌≤◌, length}
use Rattle.layer_placing.specs.Chosen.{listed}
use Rattle.layer_placing.proofs.Least.{Collects}
use Rattle.layer_placing.proofs.choosing.least_free.Given as goal

abbrev pub invariant-loop : goal.invariant-loop
invariant-loop l = Collects l.layer l.end l.next (listed l.chosen) × (length (listed l.chosen) ≡ l.counter) × (l.counter ≤ l.count)
