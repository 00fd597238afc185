use Rattle.std.proofs.Common.{◌*◌, ◌/◌, refl, sym, ap, subst, arith}
use Rattle.layer_laws.specs.Laws as laws
use Rattle.image_model.specs.Room.{room_of}
use Rattle.sd_names.specs.declared.refusal.Refusal.TheVariants.{NoRoom}
use Rattle.layer_placing.specs.Chosen.{AreLeast, IsShort, listed}
use Rattle.layer_placing.proofs.Least.{end_at, short_in}
use Rattle.layer_placing.proofs.choosing.choose.Goals as goal

pub returns-then-count : goal.returns-then-count
returns-then-count c = (
  _,
  _,
  ap (λ v. NoRoom v (c.min.result / c.cluster_width-cluster.result * c.cluster_width-cluster.result) c.wanted_length-wanted.result) c.volume.ensures,
  λ file size tells.
      let at = end_at c.args.layer.now file c.args.length c.most_bytes-most.result c.min.result c.cluster_width-cluster.result size (c.most_bytes-most.ensures file) c.min.ensures c.cluster_width-cluster.ensures.value in
      subst (λ w. IsShort c.args.layer.now (room_of (laws.layer c.args.layer.now.work.header file)) c.args.count (c.min.result / c.cluster_width-cluster.result * w) c.wanted_length-wanted.result) (sym c.cluster_width-cluster.ensures.value)
      (short_in c.args.layer.now (laws.layer c.args.layer.now.work.header file) c.args.count (c.min.result / c.cluster_width-cluster.result) c.most_bytes-most.result c.wanted_length-wanted.result (listed c.least_free-chosen.result)
      refl tells at (c.most_bytes-most.ensures file) c.least_free-chosen.ensures (omega (arith, c.count.ensures.count, c.if-count.true)) c.wanted_length-wanted.ensures),
)

pub returns : goal.returns
returns c = (
  λ file size.
      let at = end_at c.args.layer.now file c.args.length c.most_bytes-most.result c.min.result c.cluster_width-cluster.result size (c.most_bytes-most.ensures file) c.min.ensures c.cluster_width-cluster.ensures.value in
      subst (λ e. AreLeast c.args.layer.now e c.args.count (listed c.least_free-chosen.result)) at c.least_free-chosen.ensures,
  omega (arith, c.count.ensures.count, c.if-count.false, c.least_free-chosen.ensures.many),
)
