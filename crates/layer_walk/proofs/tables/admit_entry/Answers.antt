use Rattle.std.proofs.Common.{arith, ap, ◌∙◌, ◌+◌, ◌*◌, ◌/◌, ◌^◌, nat_le}
use Rattle.layer_walk.specs.Items.{item_of}
use Rattle.layer_walk.proofs.Passing.{one_entry}
use Rattle.layer_walk.proofs.tables.admit_entry.Goals as goal

pub returns : goal.returns
returns c =
    one_entry c.args.header.now c.args.capacity c.args.i c.args.table c.args.j c.saturating_add.result c.args.bits c.is_past-past.result c.args.marks.now c.admit.new.self (item_of c.l2_item.result) c.admit.result
    c.admit.ensures
    (c.is_past-past.ensures ∙ ap (λ n. nat_le c.args.capacity ((c.args.i * (n / 8) + c.args.j) * 2 ^ c.args.header.now.cluster_bits)) c.cluster_bytes.ensures)
    c.l2_item.ensures.item (λ low. omega (arith, low, c.saturating_add.ensures)) c.l2_item.ensures.aligned
