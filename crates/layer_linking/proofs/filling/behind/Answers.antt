use Rattle.std.proofs.Common.{◌≤◌, ◌/◌, ◌^◌, sym, subst, arith}
use Rattle.layer_linking.proofs.Sizes.{few_of}
use Rattle.layer_linking.proofs.filling.behind.Goals as goal

pub overflow_add-result : goal.overflow_add-result
overflow_add-result c =
    let few : c.cluster_bytes.result / c.piece_bytes.result ≤ 32 =
    subst (λ n. n / c.piece_bytes.result ≤ 32) (sym c.cluster_bytes.ensures)
    (subst (λ n. 2 ^ c.args.header.now.cluster_bits / n ≤ 32) (sym c.piece_bytes.ensures.value) (few_of c.args.header.now.cluster_bits c.requires.low c.requires.high)) in
    omega (arith, few, c.if-from-cluster_bytes.true, c.from.ensures)
