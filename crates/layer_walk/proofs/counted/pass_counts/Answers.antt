use Rattle.layer_walk.proofs.Sectors.{counts_passed}
use Rattle.layer_walk.proofs.counted.pass_counts.Goals as goal

pub returns : goal.returns
returns c = counts_passed c.args.first c.args.sector.now c.args.marks.now c.note_uncounted.new.marks c.count_clusters.new.marks c.note_uncounted.ensures c.count_clusters.ensures
