use Rattle.layer_laws.proofs.Links.{count_still, l1_other, linked, place_still}
use Rattle.layer_laws.proofs.laws.link.Goals as goal

pub returns : goal.returns
returns c n capacity i table s s' h are is sound low none only new begins fits some empty free = (
  linked n capacity i table s s' h are is sound low none only new begins fits some empty free,
  l1_other n capacity i table s s' h are is sound low none only new begins fits some empty free,
  place_still n capacity i table s s' h are is sound low none only new begins fits some empty free,
  count_still n capacity i table s s' h are is sound low none only new begins fits some empty free,
)
