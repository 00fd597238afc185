use Rattle.std.proofs.Common.{ℕ, ◌≡◌, ◌+◌, ◌*◌, ◌/◌, ◌%◌, ◌^◌, ◌<◌, ◌≤◌, Ok, Err, sym, ap, ◌∙◌, subst, arith}
use Rattle.std.proofs.Math.Nat.{mod-lt}
use Rattle.qcow_format.specs.Entry.{entry_in}
use Rattle.qcow_layer.proofs.Looks.{entry_found, few_entries, some_entries}
use Rattle.qcow_layer.proofs.looking.find_entry.Goals as goal

near : (base k bits c at : ℕ) → c ≡ 2 ^ bits → (base + 8 * (k % (c / 8)) < 2 ^ 64 → at ≡ base + 8 * (k % (c / 8))) → base + 8 * (k % (2 ^ bits / 8)) < 2 ^ 64 → at ≡ base + 8 * (k % (2 ^ bits / 8))
near base k bits c at e is = subst (λ m. base + 8 * (k % (m / 8)) < 2 ^ 64 → at ≡ base + 8 * (k % (m / 8))) e is

pub nonzero_rem-cluster : goal.nonzero_rem-cluster
nonzero_rem-cluster g c = subst (λ n. 0 < n / 8) (sym c.cluster_bytes.ensures) (some_entries c.args.layer.now.work.header.cluster_bits c.args.layer.now.work.low)

pub overflow_mul-cluster : goal.overflow_mul-cluster
overflow_mul-cluster g c =
    let some : 0 < c.cluster_bytes.result / 8 = subst (λ n. 0 < n / 8) (sym c.cluster_bytes.ensures) (some_entries c.args.layer.now.work.header.cluster_bits c.args.layer.now.work.low) in
    let few : c.cluster_bytes.result / 8 ≤ 262144 = subst (λ n. n / 8 ≤ 262144) (sym c.cluster_bytes.ensures) (few_entries c.args.layer.now.work.header.cluster_bits c.args.layer.now.work.high) in
    let lt = mod-lt c.args.cluster some in
    omega (arith, few, lt)

pub returns-in-Err-entry_of-clause-content : goal.returns-in-Err-entry_of-clause-content
returns-in-Err-entry_of-clause-content g c d tells =
    let call = c.in-Ok.ensures.content d tells in (
      call.0,
      call.1,
      entry_found c.args.layer.now c.args.host c.args.cluster c.args.table c.saturating_add-at.result c.in-Ok.sector d call.0
          (near c.args.table c.args.cluster c.args.layer.now.work.header.cluster_bits c.cluster_bytes.result c.saturating_add-at.result c.cluster_bytes.ensures (λ low. omega (arith, low, c.saturating_add-at.ensures)))
          call.2.1 call.2.0 (Err c.in-Err-entry_of.field-0)
          (c.in-Err-entry_of.ensures ∙ ap (λ w. entry_in w c.args.layer.now.work.header.version c.saturating_add-at.result) c.word_at-bits.ensures),
    )

pub returns-in-Ok-entry_of-clause-content : goal.returns-in-Ok-entry_of-clause-content
returns-in-Ok-entry_of-clause-content g c d tells =
    let call = c.in-Ok.ensures.content d tells in (
      call.0,
      call.1,
      entry_found c.args.layer.now c.args.host c.args.cluster c.args.table c.saturating_add-at.result c.in-Ok.sector d call.0
          (near c.args.table c.args.cluster c.args.layer.now.work.header.cluster_bits c.cluster_bytes.result c.saturating_add-at.result c.cluster_bytes.ensures (λ low. omega (arith, low, c.saturating_add-at.ensures)))
          call.2.1 call.2.0 (Ok c.in-Ok-entry_of.entry)
          (c.in-Ok-entry_of.ensures ∙ ap (λ w. entry_in w c.args.layer.now.work.header.version c.saturating_add-at.result) c.word_at-bits.ensures),
    )
