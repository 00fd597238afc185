-- The L1 entry behind which the entries of a sector stand.
use Rattle.std.proofs.Common.{◌≡◌, ◌⊎◌, inl, inr, ℕ, ◌+◌, ◌*◌, ◌/◌, ◌%◌, ◌^◌, ◌<◌, ◌≤◌, Some, Ok, sym, ◌∙◌, subst, arith}
use Rattle.std.proofs.lemmas.Nat.{div-add-mod'}
use Rattle.image_model.specs.File as image
use Rattle.image_model.specs.Soundness.{layer_header}
use Rattle.layer_laws.specs.Laws.{layer}
use Rattle.qcow_format.specs.declared.header.Header.{Header}
use Rattle.link_laws.specs.Links.{row_of}
use Rattle.layer_linking.proofs.Given.{row_given}
use Rattle.write_planning.specs.Linked.{end_in, group_in, sectors_of, start_in, table_with}
use Rattle.write_planning.specs.Plan.{span_of}
use Rattle.write_planning.specs.Span.{at_of, first_of, length_of, width_of}
use Rattle.write_planning.specs.declared.plan.WritePlan.{WritePlan}
use Rattle.write_planning.proofs.Sectors.{in_sector, same_table}
use Rattle.write_planning.proofs.Tables.{table_lacks, table_starts}
use Rattle.plan_laws.proofs.Places.{begins_below}

module _ (p : WritePlan) (h : Header) (width : width_of (span_of p) ≡ 2 ^ h.cluster_bits) where
  -- all of a sector's clusters stand behind one
  pub row_same : (t j : ℕ) → start_in (span_of p) t ≤ j → j < end_in (span_of p) t → (first_of (span_of p) + j) / (2 ^ h.cluster_bits / 8) ≡ 64 * group_in (span_of p) t / (2 ^ h.cluster_bits / 8)
  row_same t j low high =
      let group : 64 * group_in (span_of p) t / 64 ≡ group_in (span_of p) t = omega arith in
      subst (λ n. (first_of (span_of p) + j) / (n / 8) ≡ 64 * group_in (span_of p) t / (n / 8)) width
      (same_table (first_of (span_of p) + j) (64 * group_in (span_of p) t) (span_of p).width (span_of p).part.low (span_of p).part.whole (in_sector (span_of p) t j low high ∙ sym group))

  -- it lies in the L1 table
  pub row_inside : (file : image.File) (capacity t : ℕ) → layer_header file capacity ≡ Ok h → at_of (span_of p) + length_of (span_of p) ≤ capacity → t < sectors_of (span_of p)
      → row_of (layer h file) (group_in (span_of p) t) < h.l1_size
  row_inside file capacity t header fits lt =
      let below = begins_below p capacity (start_in (span_of p) t) fits (omega (arith, lt)) in
      let group = in_sector (span_of p) t (start_in (span_of p) t) (omega arith) (omega (arith, lt)) in
      subst (λ n. row_of (layer h file) n < h.l1_size) group
      (row_given file capacity (first_of (span_of p) + start_in (span_of p) t) h header (subst (λ n. (first_of (span_of p) + start_in (span_of p) t) * n < capacity) width below))

  -- a sector with which a table is made has another one than those before it
  pub rows_apart : (s t m : ℕ) → table_with p t ≡ Some m → s < t → 64 * group_in (span_of p) s / (2 ^ h.cluster_bits / 8) ≡ 64 * group_in (span_of p) t / (2 ^ h.cluster_bits / 8) → ⊥
  rows_apart s t m with_it lt same = go (table_starts p (start_in (span_of p) t) (table_lacks p t m with_it).0)
    where
      per : ℕ
      per = 2 ^ h.cluster_bits / 8

      behind : (a b n : ℕ) → b % n ≡ 0 → a < b → a / n ≡ b / n → ⊥
      behind a b n whole less equal =
          let one = div-add-mod' a n in
          let two = div-add-mod' b n in
          let rows : a / n * n ≡ b / n * n = subst (λ q. a / n * n ≡ q * n) equal (omega arith) in
          omega (arith, one, two, rows, whole, less)

      go : (start_in (span_of p) t ≡ 0) ⊎ ((first_of (span_of p) + start_in (span_of p) t) % (width_of (span_of p) / 8) ≡ 0) → ⊥
      go (inl none) = omega (arith, none, lt)
      go (inr whole) =
          let at : first_of (span_of p) + start_in (span_of p) t ≡ 64 * group_in (span_of p) t = omega (arith, lt) in
          let even : 64 * group_in (span_of p) t % (2 ^ h.cluster_bits / 8) ≡ 0 = subst (λ n. n % (2 ^ h.cluster_bits / 8) ≡ 0) at (subst (λ n. (first_of (span_of p) + start_in (span_of p) t) % (n / 8) ≡ 0) width whole) in
          behind (64 * group_in (span_of p) s) (64 * group_in (span_of p) t) (2 ^ h.cluster_bits / 8) even (omega (arith, lt)) same
