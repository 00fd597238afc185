use Rattle.std.proofs.Common.{◌+◌, ◌≤◌, ℕ, List, Option, ap, ◌∙◌, arith}
use Rattle.lease_area.specs.Noted.{or_else}
use Rattle.lease_area.specs.Sector.{sector_in}
use Rattle.lease_area.specs.declared.sector.LeaseRecord.{LeaseRecord}
use Rattle.sector_freeing.specs.Finding.{least_task, task_at}
use Rattle.sector_freeing.proofs.Least.{found_fits, one_more, or_same}
use Rattle.sector_freeing.proofs.finding.least_task.Goals as goal

pub loop-k-preserved : goal.loop-k-preserved
loop-k-preserved c =
    c.or-found.ensures
    ∙ or_same c.loop-k.found c.task_at-here.result
    ∙ ap (λ (o : Option (ℕ × LeaseRecord)). or_else o c.task_at-here.result) c.loop-k.invariant
    ∙ ap (λ (o : Option (ℕ × LeaseRecord)). or_else (least_task c.args.from c.args.base c.args.room.now c.loop-k.k) o)
    (c.task_at-here.ensures ∙ ap (λ (b : List ℕ). task_at c.args.from (c.args.base + c.loop-k.k) (sector_in b)) c.sector.ensures)
    ∙ one_more c.args.from c.args.base c.args.room.now c.loop-k.k

pub returns-clause-fits : goal.returns-clause-fits
returns-clause-fits c = found_fits c.args.from c.args.base c.loop-k.k c.args.room.now c.loop-k.found c.requires.within (at_most c.loop-k.k c.args.count c.loop-k.auto.k-end c.requires.few) c.loop-k.invariant
  where
    at_most : (k count : ℕ) → k ≤ count → count ≤ 128 → k ≤ 128
    at_most k count less few = omega (arith, less, few)
