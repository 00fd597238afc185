-- Positions of different things are different.
use Rattle.std.proofs.Common.{◌≡◌, ◌≢◌, ◌⊎◌, inl, inr, ℕ, ◌+◌, ◌*◌, ◌/◌, ◌%◌, ◌<◌, ◌≤◌, sym, ap, ◌∙◌, arith}
use Rattle.std.proofs.Math.Nat.{div-add-mod, mod-lt}
use Rattle.std.proofs.lemmas.Bool.{cases_lt}
use Rattle.std.proofs.lemmas.Nat.{same_from_place}
use Rattle.image_model.specs.Layer.{Tables, entries, l1_clusters}
use Rattle.image_model.specs.Soundness.{before_mapping}
use Rattle.layer_laws.specs.Laws.{block_position, entry_position, l1_position, l2_position}

pub same_or_not : (a b : ℕ) → (a ≡ b) ⊎ (a ≢ b)
same_or_not a b = go (cases_lt a b) (cases_lt b a)
  where
    go : (a < b) ⊎ (b ≤ a) → (b < a) ⊎ (a ≤ b) → (a ≡ b) ⊎ (a ≢ b)
    go (inl lt) rest = inr (λ e. omega (arith, lt, e))
    go (inr le) (inl lt) = inr (λ e. omega (arith, lt, e))
    go (inr le) (inr le') = inl (omega (arith, le, le'))

-- a number by its row and its column
pub same_parts : (a b w : ℕ) → a / w ≡ b / w → a % w ≡ b % w → a ≡ b
same_parts a b w high low = sym (div-add-mod a w) ∙ ap (λ n. w * n + a % w) high ∙ ap (λ n. w * (b / w) + n) low ∙ div-add-mod b w

module _ (t : Tables) where
  split : t.header.refcount_table_clusters * (1 + entries t) ≡ t.header.refcount_table_clusters + t.header.refcount_table_clusters * entries t
  split = omega arith

  pub block_early : (k : ℕ) → k < t.header.refcount_table_clusters * entries t → block_position t k < before_mapping t
  block_early k lt = omega (arith, lt, split)

  pub table_cluster_early : (k : ℕ) → k < t.header.refcount_table_clusters → 1 + l1_clusters t + k < before_mapping t
  table_cluster_early k lt = omega (arith, lt, split)

  pub l1_cluster_early : (k : ℕ) → k < l1_clusters t → 1 + k < before_mapping t
  l1_cluster_early k lt = omega (arith, lt)

  pub l1_late : (i : ℕ) → before_mapping t ≤ l1_position t i
  l1_late i = omega arith

  pub l2_late : (i j : ℕ) → before_mapping t ≤ l2_position t i j
  l2_late i j = omega arith

  offset : (b x y : ℕ) → b + x ≡ b + y → x ≡ y
  offset b x y e = omega (arith, e)

  pub l1_once : (i j : ℕ) → l1_position t i ≡ l1_position t j → i ≡ j
  l1_once i j e =
      let f : i * (1 + entries t) + 0 ≡ j * (1 + entries t) + 0 = go (before_mapping t) (i * (1 + entries t)) (j * (1 + entries t)) e in
      (same_from_place i 0 j 0 (1 + entries t) (omega arith) (omega arith) f).0
    where
      go : (b x y : ℕ) → b + x ≡ b + y → x + 0 ≡ y + 0
      go b x y e = omega (arith, e)

  pub l1_not_l2 : (i i' j : ℕ) → j < entries t → l1_position t i ≡ l2_position t i' j → ⊥
  l1_not_l2 i i' j lt e =
      let f : i * (1 + entries t) + 0 ≡ i' * (1 + entries t) + (1 + j) = go (before_mapping t) (i * (1 + entries t)) (i' * (1 + entries t)) e in
      let g = (same_from_place i 0 i' (1 + j) (1 + entries t) (omega arith) (omega (arith, lt)) f).1 in
      omega (arith, g)
    where
      go : (b x y : ℕ) → b + x ≡ b + y + 1 + j → x + 0 ≡ y + (1 + j)
      go b x y e = omega (arith, e)

  pub l2_once : (i j i' j' : ℕ) → j < entries t → j' < entries t → l2_position t i j ≡ l2_position t i' j' → (i ≡ i') × (j ≡ j')
  l2_once i j i' j' lt lt' e =
      let f : i * (1 + entries t) + (1 + j) ≡ i' * (1 + entries t) + (1 + j') = go (before_mapping t) (i * (1 + entries t)) (i' * (1 + entries t)) e in
      let g = same_from_place i (1 + j) i' (1 + j') (1 + entries t) (omega (arith, lt)) (omega (arith, lt')) f in
      (g.0, omega (arith, g.1))
    where
      go : (b x y : ℕ) → b + x + 1 + j ≡ b + y + 1 + j' → x + (1 + j) ≡ y + (1 + j')
      go b x y e = omega (arith, e)

  pub entry_once : (k m : ℕ) → 0 < entries t → entry_position t k ≡ entry_position t m → k ≡ m
  entry_once k m some e =
      let parts = l2_once (k / entries t) (k % entries t) (m / entries t) (m % entries t) (mod-lt k some) (mod-lt m some) e in
      same_parts k m (entries t) parts.0 parts.1
