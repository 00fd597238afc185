use Rattle.std.proofs.Common.{◌≡◌, ℕ, ◌^◌, ◌<◌, Option, ap, ◌∙◌, sym, subst}
use Rattle.std.proofs.lemmas.Nat.{pow_pos}
use Rattle.settling_steps.specs.Lengthening.{IsWholeLength, width_of}
use Rattle.settling_steps.proofs.Long.{next_fits}
use Rattle.settling_steps.proofs.lengthening.whole_length.Goals as goal

pub returns : goal.returns
returns c =
    let size : c.cluster_bytes-size.result ≡ width_of c.args.layer.now = c.cluster_bytes-size.ensures ∙ ap (λ h. 2 ^ h.cluster_bits) c.header.ensures in
    let some : 0 < width_of c.args.layer.now = pow_pos c.args.layer.now.work.header.cluster_bits in
    subst (λ (s : ℕ). IsWholeLength s c.args.length c.checked_add.result) size
    (next_fits c.cluster_bytes-size.result c.args.length c.checked_add.result (subst (λ (s : ℕ). 0 < s) (sym size) some) c.if-rest-eq0.false c.checked_add.ensures)
