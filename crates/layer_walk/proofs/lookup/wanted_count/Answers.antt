use Rattle.std.proofs.Common.{ℕ, ◌*◌, ◌/◌, ◌%◌, ◌^◌, ◌<◌, ◌≤◌, sym, subst, arith}
use Rattle.std.proofs.Math.Nat.{mod-lt}
use Rattle.layer_walk.proofs.Spans.{span_most, span_some}
use Rattle.layer_walk.proofs.lookup.wanted_count.Goals as goal

pub nonzero_rem-ask : goal.nonzero_rem-ask
nonzero_rem-ask c = subst (λ n. 0 < n / 2) (sym c.cluster_bytes-cluster.ensures) (span_some c.args.header.now.cluster_bits c.requires.low)

few : (n half : ℕ) → 0 < half → half ≤ 2 ^ 20 → 2 * (n % half) < 2 ^ 64
few n half some most = let lt = mod-lt n some in omega (arith, lt, most)

pub overflow_mul-ask : goal.overflow_mul-ask
overflow_mul-ask c =
    let some = span_some c.args.header.now.cluster_bits c.requires.low in
    let most = span_most c.args.header.now.cluster_bits c.requires.high in
    let lt = few (c.args.ask.now.place / c.cluster_bytes-cluster.result) (c.cluster_bytes-cluster.result / 2) (subst (λ n. 0 < n / 2) (sym c.cluster_bytes-cluster.ensures) some) (subst (λ n. n / 2 ≤ 2 ^ 20) (sym c.cluster_bytes-cluster.ensures) most) in
    omega (arith, lt)
