use Rattle.std.proofs.Common.{◌≡◌, ◌%◌, ◌^◌, ◌≤◌, sym, ap, ◌∙◌, subst}
use Rattle.layer_placing.proofs.Widths.{narrow, whole, wide}
use Rattle.layer_placing.proofs.counting.cluster_width.Goals as goal

pub returns-clause-low : goal.returns-clause-low
returns-clause-low c = subst (λ n. 4096 ≤ n) (sym (c.cluster_bytes.ensures ∙ ap (λ h. 2 ^ h.cluster_bits) c.header.ensures)) (wide c.args.layer.now.work.header.cluster_bits c.args.layer.now.work.low)

pub returns-clause-high : goal.returns-clause-high
returns-clause-high c = subst (λ n. n ≤ 2097152) (sym (c.cluster_bytes.ensures ∙ ap (λ h. 2 ^ h.cluster_bits) c.header.ensures)) (narrow c.args.layer.now.work.header.cluster_bits c.args.layer.now.work.high)

pub returns-clause-whole : goal.returns-clause-whole
returns-clause-whole c = subst (λ n. n % 512 ≡ 0) (sym (c.cluster_bytes.ensures ∙ ap (λ h. 2 ^ h.cluster_bits) c.header.ensures)) (whole c.args.layer.now.work.header.cluster_bits c.args.layer.now.work.low)
