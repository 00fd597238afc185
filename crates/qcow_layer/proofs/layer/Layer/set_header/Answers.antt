use Rattle.std.proofs.Common.{ℕ, ◌%◌, ◌^◌, ap, ◌∙◌, arith}
use Rattle.qcow_layer.proofs.layer.Layer.set_header.Goals as goal

pub invariant_of-self : goal.invariant_of-self
invariant_of-self c =
    let old = c.args.self.now.work in
    let bits = c.requires.bits in
    record {
      low = omega (arith, bits, old.low);
      high = omega (arith, bits, old.high);
      few = omega arith;
      l1_aligned = ap (λ (o : ℕ). o % 2 ^ c.args.header.cluster_bits) c.requires.l1 ∙ ap (λ (b : ℕ). old.header.l1_table_offset % 2 ^ b) bits ∙ old.l1_aligned;
      table_aligned = ap (λ (o : ℕ). o % 2 ^ c.args.header.cluster_bits) c.requires.table ∙ ap (λ (b : ℕ). old.header.refcount_table_offset % 2 ^ b) bits ∙ old.table_aligned;
    }
