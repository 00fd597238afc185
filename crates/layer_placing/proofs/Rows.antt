-- Rows of counts, and clusters that have one.
use Rattle.std.proofs.Common.{◌≡◌, ◌≢◌, ◌⊎◌, inl, inr, ℕ, zero, suc, ◌+◌, ◌*◌, ◌/◌, ◌%◌, ◌<◌, ◌≤◌, Bool, true, false, List, length, take, refl, sym, ap, ◌∙◌, arith, nat_lt, not}
use Rattle.std.specs.Prelude.{slice_index, ◌==◌, ◌&&◌, ◌||◌}
use Rattle.std.proofs.lemmas.Bool.{cases_lt}
use Rattle.std.proofs.lemmas.Bool.Decides.{nat_tests}
use Rattle.std.proofs.Math.Nat.{mod-lt, div-add-mod, mul_comm}
use Rattle.std.proofs.lemmas.Nat.{div-mul-add}
use Rattle.std.proofs.lemmas.List.{take_all}
use Rattle.shared_disk.specs.Calls.{sectors_in}
use Rattle.shared_disk.specs.Content.{sector_of}
use Rattle.qcow_format.specs.declared.header.Header.{Header}
use Rattle.image_model.specs.File as image
use Rattle.image_model.specs.Layer.{Tables, block_place, block_span, count_of, is_used}
use Rattle.layer_laws.specs.Laws as laws
use Rattle.layer_laws.proofs.Positions.{same_or_not}

-- one of the chosen clusters from `from` up to `n` has its count at index m of its sector, or none has
pub among : (xs : List ℕ) (m from n : ℕ) → ((i : ℕ) × (from ≤ i) × (i < n) × (slice_index xs i % 256 ≡ m)) ⊎ ((i : ℕ) → from ≤ i → i < n → slice_index xs i % 256 ≢ m)
among xs m from zero = inr (λ i low lt. absurd (omega (arith, lt)))
among xs m from (suc n) = go (among xs m from n) (same_or_not (slice_index xs n % 256) m) (cases_lt n from)
  where
    go : ((i : ℕ) × (from ≤ i) × (i < n) × (slice_index xs i % 256 ≡ m)) ⊎ ((i : ℕ) → from ≤ i → i < n → slice_index xs i % 256 ≢ m)
        → (slice_index xs n % 256 ≡ m) ⊎ (slice_index xs n % 256 ≢ m) → (n < from) ⊎ (from ≤ n)
        → ((i : ℕ) × (from ≤ i) × (i < suc n) × (slice_index xs i % 256 ≡ m)) ⊎ ((i : ℕ) → from ≤ i → i < suc n → slice_index xs i % 256 ≢ m)
    go (inl w) here side = inl (w.0, w.1, omega (arith, w.2), w.3)
    go (inr none) (inl e) (inr le) = inl (n, le, omega arith, e)
    go (inr none) (inl e) (inl lt) = inr (λ i low high. absurd (omega (arith, low, high, lt)))
    go (inr none) (inr ne) side = inr (λ i low high. by i low high (same_or_not i n))
      where
        by : (i : ℕ) → from ≤ i → i < suc n → (i ≡ n) ⊎ (i ≢ n) → slice_index xs i % 256 ≢ m
        by i low high (inl e) f = ne (sym (ap (λ k. slice_index xs k % 256) e) ∙ f)
        by i low high (inr other) f = none i low (omega (arith, high, other)) f

-- the same with the clusters themselves
pub among_clusters : (xs : List ℕ) (x from n : ℕ) → ((i : ℕ) × (from ≤ i) × (i < n) × (slice_index xs i ≡ x)) ⊎ ((i : ℕ) → from ≤ i → i < n → slice_index xs i ≢ x)
among_clusters xs x from zero = inr (λ i low lt. absurd (omega (arith, lt)))
among_clusters xs x from (suc n) = go (among_clusters xs x from n) (same_or_not (slice_index xs n) x) (cases_lt n from)
  where
    go : ((i : ℕ) × (from ≤ i) × (i < n) × (slice_index xs i ≡ x)) ⊎ ((i : ℕ) → from ≤ i → i < n → slice_index xs i ≢ x)
        → (slice_index xs n ≡ x) ⊎ (slice_index xs n ≢ x) → (n < from) ⊎ (from ≤ n)
        → ((i : ℕ) × (from ≤ i) × (i < suc n) × (slice_index xs i ≡ x)) ⊎ ((i : ℕ) → from ≤ i → i < suc n → slice_index xs i ≢ x)
    go (inl w) here side = inl (w.0, w.1, omega (arith, w.2), w.3)
    go (inr none) (inl e) (inr le) = inl (n, le, omega arith, e)
    go (inr none) (inl e) (inl lt) = inr (λ i low high. absurd (omega (arith, low, high, lt)))
    go (inr none) (inr ne) side = inr (λ i low high. by i low high (same_or_not i n))
      where
        by : (i : ℕ) → from ≤ i → i < suc n → (i ≡ n) ⊎ (i ≢ n) → slice_index xs i ≢ x
        by i low high (inl e) f = ne (sym (ap (λ k. slice_index xs k) e) ∙ f)
        by i low high (inr other) f = none i low (omega (arith, high, other)) f

-- ---- numbers of clusters in a range of whole sectors of counts

pub row_of_cluster : (x span r : ℕ) → span ≡ 256 * r → x / 256 ≡ x / span * r + x % span / 256
row_of_cluster x span r is = go (x / span) (x % span) split
  where
    split : x ≡ x / span * (256 * r) + x % span
    split = let f = div-add-mod x span in let g = mul_comm (x / span) span in let e : x / span * span ≡ x / span * (256 * r) = ap (λ n. x / span * n) is in omega (arith, f, g, e)

    go : (k j : ℕ) → x ≡ k * (256 * r) + j → x / 256 ≡ k * r + j / 256
    go k j e = let turned : k * (256 * r) ≡ 256 * (k * r) = omega arith in omega (arith, e, turned)

pub column_of_cluster : (x span r : ℕ) → span ≡ 256 * r → x % 256 ≡ x % span % 256
column_of_cluster x span r is = go (x / span) (x % span) split
  where
    split : x ≡ x / span * (256 * r) + x % span
    split = let f = div-add-mod x span in let g = mul_comm (x / span) span in let e : x / span * span ≡ x / span * (256 * r) = ap (λ n. x / span * n) is in omega (arith, f, g, e)

    go : (k j : ℕ) → x ≡ k * (256 * r) + j → x % 256 ≡ j % 256
    go k j e = let turned : k * (256 * r) ≡ 256 * (k * r) = omega arith in omega (arith, e, turned)

-- clusters whose counts stand in one sector are of one range
pub range_same : (x y span r : ℕ) → span ≡ 256 * r → 0 < r → x / 256 ≡ y / 256 → x / span ≡ y / span
range_same x y span r is pos e =
    sym (by_rows x) ∙ ap (λ n. n / r) e ∙ by_rows y
  where
    low : (x : ℕ) → x % span / 256 < r
    low x = let some : 0 < span = omega (arith, is, pos) in let lt = mod-lt x some in omega (arith, lt, is)

    by_rows : (x : ℕ) → x / 256 / r ≡ x / span
    by_rows x = ap (λ n. n / r) (row_of_cluster x span r is) ∙ div-mul-add (x / span) r (x % span / 256) (low x)

pub same_cluster : (x y : ℕ) → x / 256 ≡ y / 256 → x % 256 ≡ y % 256 → x ≡ y
same_cluster x y e f = omega (arith, e, f)

pub take_whole : (n : ℕ) (xs : List ℕ) → length xs ≡ n → take n xs ≡ xs
take_whole n xs e = take_all n xs (omega (arith, e))

pub one_piece : (bytes : List ℕ) → length bytes ≡ 512 → sector_of bytes 0 ≡ bytes
one_piece bytes e = take_whole 512 bytes e

pub one_long : (bytes : List ℕ) → length bytes ≡ 512 → sectors_in bytes ≡ 1
one_long bytes e = ap (λ n. n / 512) e

pub positive : (n : ℕ) → 0 < n → nat_lt 0 n ≡ true
positive n lt = grind (arith, nat_tests)

-- a cluster with a count is used, and one that isn't used has none
pub used_counted : (t : Tables) (x : ℕ) → 0 < count_of t x → is_used t x ≡ true
unfolding is_used
used_counted t x some = ap (λ (b : Bool). b || (x % block_span t == 0 && block_place t (x / block_span t) == 0)) (positive (count_of t x) some)

pub unused_uncounted : (t : Tables) (x : ℕ) → is_used t x ≡ false → count_of t x ≡ 0
unused_uncounted t x e = go (cases_lt 0 (count_of t x))
  where
    go : (0 < count_of t x) ⊎ (count_of t x ≤ 0) → count_of t x ≡ 0
    go (inl some) = absurd (true_false (sym (used_counted t x some) ∙ e))
      where
        true_false : ◌≡◌ {A = Bool} true false → ⊥
        true_false e = cc
    go (inr none) = omega (arith, none)

pub same_use : (h : Header) (f g : image.File) (x : ℕ) → count_of (laws.layer h g) x ≡ count_of (laws.layer h f) x → block_place (laws.layer h g) (x / block_span (laws.layer h f)) ≡ block_place (laws.layer h f) (x / block_span (laws.layer h f))
    → is_used (laws.layer h g) x ≡ is_used (laws.layer h f) x
unfolding is_used
same_use h f g x count block =
    ap (λ (n : ℕ). nat_lt 0 n || (x % block_span (laws.layer h f) == 0 && block_place (laws.layer h g) (x / block_span (laws.layer h f)) == 0)) count
    ∙ ap (λ (n : ℕ). nat_lt 0 (count_of (laws.layer h f) x) || (x % block_span (laws.layer h f) == 0 && n == 0)) block

pub not_true : (b : Bool) → not b ≡ true → b ≡ false
not_true true e = absurd cc
not_true false e = refl
