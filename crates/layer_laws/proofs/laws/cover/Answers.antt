use Rattle.layer_laws.proofs.Covers.{counts_kept, counts_new, covered}
use Rattle.layer_laws.proofs.laws.cover.Goals as goal

pub returns : goal.returns
returns c n capacity k block s s' h are is sound low none only new there begins fits own some = (
  covered n capacity k block s s' h are is sound low none only new there begins fits own some,
  counts_kept n capacity k block s s' h are is sound low none only new there begins fits own some,
  counts_new n capacity k block s s' h are is sound low none only new there begins fits own some,
)
