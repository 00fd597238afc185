use Rattle.std.proofs.Common.{◌≤◌, ◌^◌, arith}
use Rattle.std.proofs.Math.Nat.{pow-le-pow_right}
use Rattle.layer_heading.proofs.Layers.{heads}
use Rattle.layer_heading.proofs.header.head_size.Goals as goal

pub returns-clause-least : goal.returns-clause-least
returns-clause-least c = let wide : 2 ^ 12 ≤ 2 ^ c.args.header.now.cluster_bits = pow-le-pow_right (omega arith) c.requires.low in omega (arith, wide, c.cluster_bytes.ensures, c.min.ensures)

pub returns-clause-whole : goal.returns-clause-whole
returns-clause-whole c = let h = heads c.args.header.now c.requires.low in omega (arith, h.whole, c.cluster_bytes.ensures, c.min.ensures)
