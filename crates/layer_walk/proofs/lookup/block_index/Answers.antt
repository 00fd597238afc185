use Rattle.std.proofs.Common.{ℕ, ◌-◌, ◌*◌, ◌/◌, ◌^◌, ◌<◌, ◌≤◌, sym, subst, arith}
use Rattle.std.proofs.Math.Nat.{div-lt_iff_lt-mul, mul-le-mul_left}
use Rattle.std.proofs.lemmas.Nat.{pow_pos}
use Rattle.layer_walk.proofs.Spans.{pages, span_some}
use Rattle.layer_walk.proofs.lookup.block_index.Goals as goal

pub nonzero_div-result-3 : goal.nonzero_div-result-3
nonzero_div-result-3 c = subst (λ n. 0 < n / 2) (sym c.cluster_bytes-cluster.ensures) (span_some c.args.header.now.cluster_bits c.requires.low)

few : (place cluster : ℕ) → 4096 ≤ cluster → place < 2 ^ 64 → place / cluster / (cluster / 2) < 2 ^ 52
few place cluster wide fits =
    let more : 2 ^ 52 * 4096 ≤ 2 ^ 52 * cluster = mul-le-mul_left (2 ^ 52) wide in
    let once : place / cluster < 2 ^ 52 = (div-lt_iff_lt-mul (omega (arith, wide))).1 (omega (arith, fits, more)) in
    let half : 1 ≤ cluster / 2 = omega (arith, wide) in
    let more' : 2 ^ 52 * 1 ≤ 2 ^ 52 * (cluster / 2) = mul-le-mul_left (2 ^ 52) half in
    (div-lt_iff_lt-mul (omega (arith, half))).1 (omega (arith, once, more'))

pub returns-clause-few : goal.returns-clause-few
returns-clause-few c =
    let p = pages c.args.header.now.cluster_bits c.requires.low in
    let q = pow_pos (c.args.header.now.cluster_bits - 12) in
    few c.args.place c.cluster_bytes-cluster.result (omega (arith, c.cluster_bytes-cluster.ensures, p, q)) (omega arith)
