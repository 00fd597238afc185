-- Where tables and blocks stand in a file of whole clusters, and what is read there.
use Rattle.std.proofs.Common.{◌≡◌, ◌≢◌, ◌⊎◌, inl, inr, ℕ, ◌+◌, ◌-◌, ◌*◌, ◌/◌, ◌%◌, ◌^◌, ◌<◌, ◌≤◌, Bool, true, false, List, Option, None, Some, Ok, refl, sym, ap, ◌∙◌, subst, arith, nat_lt, nat_le}
use Rattle.std.specs.Prelude.{if◌then◌else◌}
use Rattle.std.proofs.lemmas.Bool.{cases_lt}
use Rattle.std.proofs.lemmas.Bool.Decides.{nat_tests}
use Rattle.std.proofs.lemmas.Nat.{div_below, pow_pos}
use Rattle.std.proofs.Math.Nat.{mul-le-mul_right}
use Rattle.sd_names.specs.declared.fault.LayerFault.{LayerFault}
use Rattle.sd_names.specs.declared.fault.LayerFault.TheVariants.{OutOfFile}
use Rattle.qcow_format.specs.Bytes.{number}
use Rattle.qcow_format.specs.declared.header.Header.{Header}
use Rattle.image_model.specs.File.{file_of, sector_in}
use Rattle.image_model.specs.Layer.{Tables, block_at, block_place, block_word, entries, l1_clusters}
use Rattle.image_model.specs.Soundness.{IsClean, IsSound, Item, item, layer_header, names, outside, own_fault}
use Rattle.layer_laws.specs.Laws.{IsUnnamed, block_position, layer}
use Rattle.layer_laws.proofs.Numbers.{apart, behind, cluster_of, cluster_sectors, row_of, same_place, whole_place, whole_sector}
use Rattle.layer_laws.proofs.Sound.{Shape, block_name, block_there, clean_of, entry_lt, entry_width, shape_of, table_cluster_name}

-- a name without a fault of its own lies in the file
named_low : (size place : ℕ) (x : Item) → x.name ≡ Some place → own_fault size x ≡ None → place < size
named_low size place x named fine = go x.wrong refl
  where
    low : (b : Bool) → nat_le size place ≡ b → (if b then Some (OutOfFile x.at) else None) ≡ None → place < size
    low true e bad = absurd cc
    low false e ok = grind (arith, nat_tests)

    go : (wrong : Option LayerFault) → x.wrong ≡ wrong → place < size
    go (Some fault) e = absurd (some_not fault (sym (ap (λ o. elim o as (λ _. Option LayerFault) [ None ↦ outside size x.at x.name | Some y ↦ Some y ]) e) ∙ fine))
      where
        some_not : (y : LayerFault) → Some y ≡ None → ⊥
        some_not y e = cc
    go None e = low (nat_le size place) refl (ap (outside size x.at) (sym named) ∙ sym (ap (λ o. elim o as (λ _. Option LayerFault) [ None ↦ outside size x.at x.name | Some y ↦ Some y ]) e) ∙ fine)

-- a cluster that begins in a file of whole clusters lies in it
pub whole_inside : (place c size : ℕ) → 0 < c → place % c ≡ 0 → size % c ≡ 0 → place < size → place + c ≤ size
whole_inside place c size pos even even' lt = go (place / c) (size / c) (whole_place place c even) (whole_place size c even')
  where
    next : (a b : ℕ) → a * c < b * c → (a + 1) * c ≤ b * c
    next a b lt = side (cases_lt a b)
      where
        side : (a < b) ⊎ (b ≤ a) → (a + 1) * c ≤ b * c
        side (inl low) = mul-le-mul_right c (omega (arith, low))
        side (inr le) = let more : b * c ≤ a * c = mul-le-mul_right c le in absurd (omega (arith, more, lt))

    go : (a b : ℕ) → place ≡ a * c → size ≡ b * c → place + c ≤ size
    go a b e f = let n = next a b (omega (arith, e, f, lt)) in let one : (a + 1) * c ≡ a * c + c = omega arith in omega (arith, n, one, e, f)

module _ (h : Header) (capacity n : ℕ) (s : ℕ → List ℕ) (is : layer_header (file_of n s) capacity ≡ Ok h) (sound : IsSound (file_of n s) capacity) (even : 512 * n % 2 ^ h.cluster_bits ≡ 0) where
  abbrev T : Tables
  T = layer h (file_of n s)

  abbrev c : ℕ
  c = 2 ^ h.cluster_bits

  shape : Shape h
  shape = shape_of (file_of n s) capacity h is

  clean : (m : ℕ) → IsClean T capacity m
  clean = clean_of (file_of n s) capacity h is sound

  size_is : (file_of n s).size ≡ 512 * n
  unfolding file_of
  size_is = refl

  named_inside : (m place : ℕ) → names T capacity m ≡ Some place → place % c ≡ 0 → place + c ≤ 512 * n
  named_inside m place name begins =
      whole_inside place c (512 * n) (pow_pos h.cluster_bits) begins even
      (subst (λ z. place < z) size_is (named_low (file_of n s).size place (item T capacity m) name (clean m).fine))

  pub block_inside : (k : ℕ) → block_place T k ≢ 0 → block_place T k + c ≤ 512 * n
  block_inside k there = let named = block_name h (file_of n s) capacity shape clean k there in named_inside (block_position T k) (block_place T k) named.0 named.1

  pub block_whole : (k : ℕ) → block_place T k ≢ 0 → block_place T k % c ≡ 0
  block_whole k there = (block_name h (file_of n s) capacity shape clean k there).1

  pub block_listed : (k : ℕ) → block_place T k ≢ 0 → k < h.refcount_table_clusters * (c / 8)
  block_listed k there = block_there h (file_of n s) capacity shape clean k there

  -- an entry of the refcount table
  module _ (k : ℕ) (low : k < h.refcount_table_clusters * (c / 8)) where
    pub table_place : ℕ
    table_place = h.refcount_table_offset + k / entries T * c

    column : k % entries T < entries T
    column = entry_lt h (file_of n s) capacity shape clean k

    row : k / entries T < h.refcount_table_clusters
    row = div_below k (entries T) h.refcount_table_clusters (omega (arith, column)) low

    pub entry_inside : block_at T k + 8 ≤ 512 * n
    entry_inside =
        let place : ℕ = h.refcount_table_offset + k / entries T * c in
        let name = table_cluster_name h (file_of n s) capacity shape clean (k / entries T) row in
        let inside : place + c ≤ 512 * n = named_inside (1 + l1_clusters T + k / entries T) place name (behind h.refcount_table_offset (k / entries T) c (pow_pos h.cluster_bits) shape.table) in
        let at = row_of h.refcount_table_offset k (entries T) c (entry_width h (file_of n s) capacity shape clean) in
        let wide = entry_width h (file_of n s) capacity shape clean in
        omega (arith, inside, at, wide, column)

    pub word_read : block_word T k ≡ number 8 (8 * (block_at T k % 512 / 8)) (sector_in n s (block_at T k / 512))
    unfolding file_of
    word_read =
        let test : nat_lt k (h.refcount_table_clusters * (c / 8)) ≡ true = grind (arith, nat_tests) in
        let aligned : h.refcount_table_offset % 512 ≡ 0 = whole_sector h.refcount_table_offset c (2 ^ (h.cluster_bits - 9)) (cluster_sectors h.cluster_bits shape.low) shape.table in
        let at : block_at T k / 8 / 64 ≡ block_at T k / 512 = omega arith in
        let column : block_at T k / 8 % 64 * 8 ≡ 8 * (block_at T k % 512 / 8) = omega arith in
        ap (λ b. if b then number 8 (block_at T k / 8 % 64 * 8) (sector_in n s (block_at T k / 8 / 64)) else 0) test
        ∙ ap (λ i. number 8 (block_at T k / 8 % 64 * 8) (sector_in n s i)) at
        ∙ ap (λ i. number 8 i (sector_in n s (block_at T k / 512))) column

    -- a cluster that nothing names is another than the entry's
    pub entry_elsewhere : (p : ℕ) → p % c ≡ 0 → IsUnnamed T capacity p → (block_at T k / 512 < p / 512) ⊎ ((p + c) / 512 ≤ block_at T k / 512)
    entry_elsewhere p begins unnamed =
        apart (block_at T k) p c (2 ^ (h.cluster_bits - 9)) (cluster_sectors h.cluster_bits shape.low) (pow_pos h.cluster_bits) begins (λ e. unnamed (1 + l1_clusters T + k / entries T) (name ∙ ap (λ (x : ℕ). Some x) (same e)))
      where
        place : ℕ
        place = h.refcount_table_offset + k / entries T * c

        name : names T capacity (1 + l1_clusters T + k / entries T) ≡ Some (h.refcount_table_offset + k / entries T * c)
        name = table_cluster_name h (file_of n s) capacity shape clean (k / entries T) row

        even' : (h.refcount_table_offset + k / entries T * c) % c ≡ 0
        even' = behind h.refcount_table_offset (k / entries T) c (pow_pos h.cluster_bits) shape.table

        here : block_at T k / c ≡ (h.refcount_table_offset + k / entries T * c) / c
        here =
            let wide = entry_width h (file_of n s) capacity shape clean in
            ap (λ a. a / c) (row_of h.refcount_table_offset k (entries T) c wide)
            ∙ cluster_of (h.refcount_table_offset + k / entries T * c) (8 * (k % entries T)) c even' (omega (arith, wide, column))

        same : block_at T k / c ≡ p / c → h.refcount_table_offset + k / entries T * c ≡ p
        same e = same_place (h.refcount_table_offset + k / entries T * c) p c even' begins (sym here ∙ e)
