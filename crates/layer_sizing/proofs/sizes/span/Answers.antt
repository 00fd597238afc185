use Rattle.std.proofs.Common.{ℕ, ◌*◌, ◌/◌, ◌^◌, ◌≤◌, sym, subst, arith}
use Rattle.std.proofs.Math.Nat.{pow-le-pow_right}
use Rattle.layer_sizing.proofs.Spans.{least_of, most_of}
use Rattle.layer_sizing.proofs.sizes.span.Goals as goal

pub returns-clause-least : goal.returns-clause-least
returns-clause-least c = subst (λ (n : ℕ). 2 ^ 21 ≤ n / 8 * n) (sym c.cluster_bytes-cluster.ensures) (least_of (2 ^ c.args.header.now.cluster_bits) (pow-le-pow_right (omega arith) c.requires.low))

pub returns-clause-most : goal.returns-clause-most
returns-clause-most c = subst (λ (n : ℕ). n / 8 * n ≤ 2 ^ 39) (sym c.cluster_bytes-cluster.ensures) (most_of (2 ^ c.args.header.now.cluster_bits) (pow-le-pow_right (omega arith) c.requires.high))
