use Rattle.std.proofs.Common.{◌+◌, subst}
use Rattle.layer_walk.specs.Counting.{TakesCount}
use Rattle.layer_walk.proofs.Sectors.{counts_more, counts_none}
use Rattle.layer_walk.proofs.counted.count_clusters.Goals as goal

pub loop-j-init : goal.loop-j-init
loop-j-init c = counts_none c.args.first c.args.sector.now c.args.marks.now

pub loop-j-preserved : goal.loop-j-preserved
loop-j-preserved c =
    counts_more c.args.first c.loop-j.j c.args.sector.now c.args.marks.now c.loop-j.marks c.take_count.new.self c.loop-j.invariant
    (subst (λ n. TakesCount (c.args.first + c.loop-j.j) n c.loop-j.marks c.take_count.new.self) c.half_at.ensures c.take_count.ensures)
