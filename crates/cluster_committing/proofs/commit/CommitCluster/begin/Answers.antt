use Rattle.std.proofs.Common.{refl}
use Rattle.cluster_committing.proofs.Steps.{begun_known}
use Rattle.cluster_committing.proofs.commit.CommitCluster.begin.Goals as goal

pub returns : goal.returns
returns c = record {
  sub_is = refl;
  cluster_is = refl;
  way = λ ch base. record { base = base; stage = record { sub_is = c.begin.ensures.sub_is; cluster_is = c.begin.ensures.cluster_is; way = c.begin.ensures.way ch } };
  knows = λ l ch x host part room d m. begun_known c.args.sub.now c.args.cluster c.begin.result l ch x host part d c.begin.ensures m;
}
