use Rattle.std.proofs.Common.{◌≤◌, ◌*◌, ◌/◌, ◌<◌, ◌%◌, sym, subst, arith}
use Rattle.std.proofs.Math.Nat.{mod-lt}
use Rattle.qcow_layer.proofs.Looks.{few_entries, some_entries}
use Rattle.layer_linking.proofs.reading.entries_sector_of.Goals as goal

pub nonzero_rem-column : goal.nonzero_rem-column
nonzero_rem-column c = subst (λ n. 0 < n / 8) (sym c.cluster_bytes.ensures) (some_entries c.args.header.now.cluster_bits c.requires.low)

pub overflow_mul-column-2 : goal.overflow_mul-column-2
overflow_mul-column-2 c =
    let some : 0 < c.cluster_bytes.result / 8 = subst (λ n. 0 < n / 8) (sym c.cluster_bytes.ensures) (some_entries c.args.header.now.cluster_bits c.requires.low) in
    let few : c.cluster_bytes.result / 8 ≤ 262144 = subst (λ n. n / 8 ≤ 262144) (sym c.cluster_bytes.ensures) (few_entries c.args.header.now.cluster_bits c.requires.high) in
    let lt : 64 * c.args.group % (c.cluster_bytes.result / 8) < c.cluster_bytes.result / 8 = mod-lt (64 * c.args.group) some in
    omega (arith, few, lt)
