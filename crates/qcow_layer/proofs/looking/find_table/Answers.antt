use Rattle.std.proofs.Common.{ℕ, ◌≡◌, ◌+◌, ◌*◌, ◌/◌, ◌^◌, ◌<◌, ◌≤◌, None, Ok, Err, refl, sym, ap, ◌∙◌, subst, arith}
use Rattle.qcow_format.specs.Entry.{table_in}
use Rattle.qcow_layer.proofs.Looks.{past_l1, no_table, table_found, some_entries}
use Rattle.qcow_layer.proofs.looking.find_table.Goals as goal

low_index : (k bits size n c : ℕ) → n ≡ size → c ≡ 2 ^ bits → k / (c / 8) < n → k / (2 ^ bits / 8) < size
low_index k bits size n c e f lt = subst (λ m. k / (2 ^ bits / 8) < m) e (subst (λ m. k / (m / 8) < n) f lt)

high_index : (k bits size n c : ℕ) → n ≡ size → c ≡ 2 ^ bits → n ≤ k / (c / 8) → size ≤ k / (2 ^ bits / 8)
high_index k bits size n c e f le = subst (λ m. m ≤ k / (2 ^ bits / 8)) e (subst (λ m. n ≤ k / (m / 8)) f le)

near : (base k bits c at : ℕ) → c ≡ 2 ^ bits → (base + 8 * (k / (c / 8)) < 2 ^ 64 → at ≡ base + 8 * (k / (c / 8))) → base + 8 * (k / (2 ^ bits / 8)) < 2 ^ 64 → at ≡ base + 8 * (k / (2 ^ bits / 8))
near base k bits c at e is = subst (λ m. base + 8 * (k / (m / 8)) < 2 ^ 64 → at ≡ base + 8 * (k / (m / 8))) e is

pub nonzero_div-i-2 : goal.nonzero_div-i-2
nonzero_div-i-2 g c = subst (λ n. 0 < n / 8) (sym c.cluster_bytes.ensures) (some_entries c.args.layer.now.work.header.cluster_bits c.args.layer.now.work.low)

pub returns-then-i-from-clause-content : goal.returns-then-i-from-clause-content
returns-then-i-from-clause-content g c d tells = (
  d,
  tells,
  past_l1 c.args.layer.now c.args.host c.args.cluster d
      (high_index c.args.cluster c.args.layer.now.work.header.cluster_bits c.args.layer.now.work.header.l1_size c.from.result c.cluster_bytes.result c.from.ensures c.cluster_bytes.ensures c.if-i-from.true),
)

pub returns-in-Err-table_place-clause-content : goal.returns-in-Err-table_place-clause-content
returns-in-Err-table_place-clause-content g c d tells =
    let call = c.in-Ok.ensures.content d tells in (
      call.0,
      call.1,
      no_table c.args.layer.now c.args.host c.args.cluster c.saturating_add-at.result c.in-Ok.sector d call.0
          (low_index c.args.cluster c.args.layer.now.work.header.cluster_bits c.args.layer.now.work.header.l1_size c.from.result c.cluster_bytes.result c.from.ensures c.cluster_bytes.ensures c.if-i-from.false)
          (near c.args.layer.now.work.header.l1_table_offset c.args.cluster c.args.layer.now.work.header.cluster_bits c.cluster_bytes.result c.saturating_add-at.result c.cluster_bytes.ensures (λ low. omega (arith, low, c.saturating_add-at.ensures)))
          call.2.1 call.2.0 (Err c.in-Err-table_place.field-0)
          (c.in-Err-table_place.ensures ∙ ap (λ w. table_in w c.saturating_add-at.result) c.word_at.ensures) (λ t j. refl) refl,
    )

pub returns-in-Ok-None-clause-content : goal.returns-in-Ok-None-clause-content
returns-in-Ok-None-clause-content g c d tells =
    let call = c.in-Ok.ensures.content d tells in (
      call.0,
      call.1,
      no_table c.args.layer.now c.args.host c.args.cluster c.saturating_add-at.result c.in-Ok.sector d call.0
          (low_index c.args.cluster c.args.layer.now.work.header.cluster_bits c.args.layer.now.work.header.l1_size c.from.result c.cluster_bytes.result c.from.ensures c.cluster_bytes.ensures c.if-i-from.false)
          (near c.args.layer.now.work.header.l1_table_offset c.args.cluster c.args.layer.now.work.header.cluster_bits c.cluster_bytes.result c.saturating_add-at.result c.cluster_bytes.ensures (λ low. omega (arith, low, c.saturating_add-at.ensures)))
          call.2.1 call.2.0 (Ok None)
          (sym (ap (λ o. Ok o) c.in-Ok-None.field-0-is) ∙ c.in-Ok-None.ensures ∙ ap (λ w. table_in w c.saturating_add-at.result) c.word_at.ensures) (λ t j. refl) refl,
    )

pub returns-in-Ok-Some-clause-content : goal.returns-in-Ok-Some-clause-content
returns-in-Ok-Some-clause-content g c d tells =
    let call = c.in-Ok.ensures.content d tells in (
      call.0,
      call.1,
      table_found c.args.layer.now c.args.host c.args.cluster c.saturating_add-at.result c.in-Ok.sector d call.0
          (low_index c.args.cluster c.args.layer.now.work.header.cluster_bits c.args.layer.now.work.header.l1_size c.from.result c.cluster_bytes.result c.from.ensures c.cluster_bytes.ensures c.if-i-from.false)
          (near c.args.layer.now.work.header.l1_table_offset c.args.cluster c.args.layer.now.work.header.cluster_bits c.cluster_bytes.result c.saturating_add-at.result c.cluster_bytes.ensures (λ low. omega (arith, low, c.saturating_add-at.ensures)))
          call.2.1 call.2.0 c.in-Ok-Some.table
          (sym (ap (λ o. Ok o) c.in-Ok-Some.field-0-is) ∙ c.in-Ok-Some.ensures ∙ ap (λ w. table_in w c.saturating_add-at.result) c.word_at.ensures),
    )
