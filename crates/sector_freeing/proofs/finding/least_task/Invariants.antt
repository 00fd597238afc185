use Rattle.std.proofs.Common.{◌≡◌}
use Rattle.sector_freeing.specs.Finding.{least_task}
use Rattle.sector_freeing.proofs.finding.least_task.Given as goal

abbrev pub invariant-loop-k : goal.invariant-loop-k
invariant-loop-k l = l.found ≡ least_task l.fn.from l.fn.base l.fn.room l.k
