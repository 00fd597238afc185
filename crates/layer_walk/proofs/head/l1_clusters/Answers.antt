use Rattle.std.proofs.Common.{◌^◌, ◌≤◌, ◌<◌, sym, subst, arith}
use Rattle.std.proofs.lemmas.Nat.{pow_pos}
use Rattle.std.proofs.Math.Nat.{pow-le-pow_right}
use Rattle.layer_walk.proofs.Heads.{few_clusters}
use Rattle.layer_walk.proofs.head.l1_clusters.Goals as goal

pub returns-clause-few : goal.returns-clause-few
returns-clause-few c =
    let wide : 2 ^ c.args.header.now.cluster_bits ≤ 2 ^ 21 = pow-le-pow_right (omega arith) c.requires in
    few_clusters c.args.header.now.l1_size c.cluster_bytes-cluster.result (subst (λ n. 0 < n) (sym c.cluster_bytes-cluster.ensures) (pow_pos c.args.header.now.cluster_bits)) (omega arith) (omega (arith, wide, c.cluster_bytes-cluster.ensures))
