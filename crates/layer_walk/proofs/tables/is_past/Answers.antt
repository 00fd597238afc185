use Rattle.std.proofs.Common.{◌^◌, nat_le, ap, ◌∙◌}
use Rattle.std.specs.Int.{div_ceil}
use Rattle.std.proofs.lemmas.Nat.{pow_pos}
use Rattle.layer_walk.proofs.Past.{past_by_number}
use Rattle.layer_walk.proofs.tables.is_past.Goals as goal

pub returns : goal.returns
returns c =
    ap (λ n. nat_le n c.args.cluster) (c.div_ceil.ensures ∙ ap (div_ceil c.args.capacity) c.cluster_bytes.ensures)
    ∙ past_by_number c.args.capacity c.args.cluster (2 ^ c.args.header.now.cluster_bits) (pow_pos c.args.header.now.cluster_bits)
