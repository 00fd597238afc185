use Rattle.std.proofs.Common.{◌^◌, ◌≤◌, arith}
use Rattle.std.proofs.Math.Pow.{pow_mono}
use Rattle.qcow_format.proofs.shape.cluster_bytes.Goals as goal

pub returns-clause-low : goal.returns-clause-low
returns-clause-low c =
    let low : 2 ^ 12 ≤ 2 ^ c.args.cluster_bits = pow_mono c.requires.at_least in
    let high : 2 ^ c.args.cluster_bits ≤ 2 ^ 21 = pow_mono c.requires.at_most in
    omega arith

pub returns-clause-high : goal.returns-clause-high
returns-clause-high c =
    let high : 2 ^ c.args.cluster_bits ≤ 2 ^ 21 = pow_mono c.requires.at_most in
    omega arith
