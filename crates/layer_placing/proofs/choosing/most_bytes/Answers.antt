use Rattle.std.proofs.Common.{ℕ, ◌≡◌, ◌*◌, ◌/◌, ◌^◌, min, ap, ◌∙◌, arith}
use Rattle.layer_placing.proofs.Widths.{three_fit, two_fit, reordered}
use Rattle.layer_placing.proofs.choosing.most_bytes.Goals as goal

pub overflow_mul-block : goal.overflow_mul-block
overflow_mul-block c = let x = two_fit c.cluster_width-cluster.result c.cluster_width-cluster.ensures.high in omega (arith, x)

pub overflow_mul-block-2 : goal.overflow_mul-block-2
overflow_mul-block-2 c = let x = three_fit c.cluster_width-cluster.result c.cluster_width-cluster.ensures.high in omega (arith, x)

pub returns : goal.returns
returns c file =
    let size = reordered c.args.layer.now.work.header.refcount_table_clusters c.cluster_width-cluster.result (2 ^ c.args.layer.now.work.header.cluster_bits) c.cluster_width-cluster.ensures.value in
    let times = ap (λ n. n * (c.cluster_width-cluster.result / 8 * (c.cluster_width-cluster.result / 2) * c.cluster_width-cluster.result)) (c.from.ensures ∙ ap (λ h. h.refcount_table_clusters) c.header.ensures) in
    capped c.min.result c.saturating_mul.result (c.from.result * (c.cluster_width-cluster.result / 8 * (c.cluster_width-cluster.result / 2) * c.cluster_width-cluster.result)) _ c.min.ensures c.saturating_mul.ensures (times ∙ size)
  where
    capped : (m s a b : ℕ) → m ≡ min s 72057594037927936 → s ≡ min a 18446744073709551615 → a ≡ b → m ≡ min b 72057594037927936
    capped m s a b e f g = omega (arith, e, f, g)
