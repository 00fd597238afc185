use Rattle.std.proofs.Common.{◌≤◌, ◌/◌, ◌<◌, sym, subst, arith}
use Rattle.qcow_layer.proofs.Looks.{some_entries}
use Rattle.layer_linking.proofs.Sizes.{row_small, wide}
use Rattle.layer_linking.proofs.reading.l1_place_of.Goals as goal

pub nonzero_div-row-2 : goal.nonzero_div-row-2
nonzero_div-row-2 c = subst (λ n. 0 < n / 8) (sym c.cluster_bytes.ensures) (some_entries c.args.header.now.cluster_bits c.requires.low)

pub overflow_mul-row-2 : goal.overflow_mul-row-2
overflow_mul-row-2 c =
    let many : 4096 ≤ c.cluster_bytes.result = subst (λ n. 4096 ≤ n) (sym c.cluster_bytes.ensures) (wide c.args.header.now.cluster_bits c.requires.low) in
    let small = row_small c.args.group (c.cluster_bytes.result / 8) c.requires.few (omega (arith, many)) in
    omega (arith, small)
