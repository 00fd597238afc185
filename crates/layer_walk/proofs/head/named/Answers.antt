use Rattle.std.proofs.Common.{◌*◌, ◌^◌, ◌≤◌, arith}
use Rattle.std.proofs.Math.Nat.{mul-le-mul, pow-le-pow_right}
use Rattle.layer_walk.proofs.head.named.Goals as goal

pub overflow_mul-k : goal.overflow_mul-k
overflow_mul-k c =
    let wide : 2 ^ c.args.header.now.cluster_bits ≤ 2 ^ 21 = pow-le-pow_right (omega arith) c.requires.bits in
    let most : c.args.k * c.cluster_bytes.result ≤ 2 ^ 36 * 2 ^ 21 = mul-le-mul {n₁ = c.args.k} {m₁ = c.cluster_bytes.result} {n₂ = 2 ^ 36} {m₂ = 2 ^ 21} (omega (arith, c.requires.few)) (omega (arith, wide, c.cluster_bytes.ensures)) in
    omega (arith, most)
