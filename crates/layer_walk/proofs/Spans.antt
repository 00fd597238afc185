-- The clusters that one refcount block counts.
use Rattle.std.proofs.Common.{◌≡◌, ℕ, ◌+◌, ◌-◌, ◌*◌, ◌/◌, ◌%◌, ◌^◌, ◌<◌, ◌≤◌, Bool, true, false, refl, ap, ◌∙◌, arith, nat_lt, ne_eqb}
use Rattle.std.specs.Prelude.{◌==◌, ◌||◌, ◌&&◌, if◌then◌else◌}
use Rattle.std.proofs.lemmas.Bool.Decides.{nat_tests}
use Rattle.std.proofs.lemmas.Nat.{div-mul-add, mod-mul-add, pow-add, pow_pos}
use Rattle.std.proofs.Math.Nat.{pow-le-pow_right}
use Rattle.image_model.specs.Layer.{Tables, block_place, block_span, count_of, entries, is_used}

-- ---- sizes

pub power_split : (n m : ℕ) → m ≤ n → 2 ^ n ≡ 2 ^ m * 2 ^ (n - m)
power_split n m le = let e : n ≡ m + (n - m) = omega arith in ap (λ k. 2 ^ k) e ∙ pow-add 2 m (n - m)

-- a cluster is a multiple of 4,096 bytes
pub pages : (bits : ℕ) → 12 ≤ bits → 2 ^ bits ≡ 4096 * 2 ^ (bits - 12)
pages bits low = power_split bits 12 low

pub span_of : (bits : ℕ) → 12 ≤ bits → 2 ^ bits / 2 ≡ 256 * (8 * 2 ^ (bits - 12))
span_of bits low = omega (arith, pages bits low)

pub span_some : (bits : ℕ) → 12 ≤ bits → 0 < 2 ^ bits / 2
span_some bits low = let p = pages bits low in let q = pow_pos (bits - 12) in omega (arith, p, q)

pub span_least : (bits : ℕ) → 12 ≤ bits → 2048 ≤ 2 ^ bits / 2
span_least bits low = let p = pages bits low in let q = pow_pos (bits - 12) in omega (arith, p, q)

pub span_most : (bits : ℕ) → bits ≤ 21 → 2 ^ bits / 2 ≤ 2 ^ 20
span_most bits high = let p : 2 ^ bits ≤ 2 ^ 21 = pow-le-pow_right (omega arith) high in omega (arith, p)

pub span_whole : (bits : ℕ) → 12 ≤ bits → 2 ^ bits / 2 % 256 ≡ 0
span_whole bits low = let p = span_of bits low in omega (arith, p)

-- ---- counts of the clusters of entry k

pub count_absent : (t : Tables) (k r : ℕ) → r < block_span t → block_place t k ≡ 0 → count_of t (k * block_span t + r) ≡ 0
count_absent t k r lt none =
    ap (λ (p : ℕ). if p == 0 then 0 else t.file.half (p / 2 + (k * block_span t + r) % block_span t)) (ap (block_place t) (div-mul-add k (block_span t) r lt) ∙ none)

pub count_present : (t : Tables) (k r place : ℕ) → r < block_span t → block_place t k ≡ place → 0 < place
    → count_of t (k * block_span t + r) ≡ t.file.half (place / 2 + r)
count_present t k r place lt is some =
    ap (λ (p : ℕ). if p == 0 then 0 else t.file.half (p / 2 + (k * block_span t + r) % block_span t)) (ap (block_place t) (div-mul-add k (block_span t) r lt) ∙ is)
    ∙ ap (λ (b : Bool). if b then 0 else t.file.half (place / 2 + (k * block_span t + r) % block_span t)) (ne_eqb place 0 (λ e. omega (arith, some, e)))
    ∙ ap (λ m. t.file.half (place / 2 + m)) (mod-mul-add k (block_span t) r lt)

used_by : (t : Tables) (k r : ℕ) → r < block_span t → is_used t (k * block_span t + r) ≡ (nat_lt 0 (count_of t (k * block_span t + r)) || (r == 0 && block_place t k == 0))
unfolding is_used
used_by t k r lt =
    ap (λ n. nat_lt 0 (count_of t (k * block_span t + r)) || (n == 0 && block_place t ((k * block_span t + r) / block_span t) == 0)) (mod-mul-add k (block_span t) r lt)
    ∙ ap (λ n. nat_lt 0 (count_of t (k * block_span t + r)) || (r == 0 && block_place t n == 0)) (div-mul-add k (block_span t) r lt)

-- without a block the first is used, and no other
pub used_first : (t : Tables) (k : ℕ) → 0 < block_span t → block_place t k ≡ 0 → is_used t (k * block_span t + 0) ≡ true
used_first t k lt none =
    used_by t k 0 lt
    ∙ ap (λ n. nat_lt 0 n || (0 == 0 && block_place t k == 0)) (count_absent t k 0 lt none)
    ∙ ap (λ (n : ℕ). nat_lt 0 0 || (0 == 0 && n == 0)) none

pub used_other : (t : Tables) (k r : ℕ) → r < block_span t → 0 < r → block_place t k ≡ 0 → is_used t (k * block_span t + r) ≡ false
used_other t k r lt some none =
    used_by t k r lt
    ∙ ap (λ n. nat_lt 0 n || (r == 0 && block_place t k == 0)) (count_absent t k r lt none)
    ∙ ap (λ (b : Bool). nat_lt 0 0 || (b && block_place t k == 0)) (ne_eqb r 0 (λ e. omega (arith, some, e)))

-- with one those are used whose counts aren't 0
pub used_counted : (t : Tables) (k r place : ℕ) → r < block_span t → block_place t k ≡ place → 0 < place
    → is_used t (k * block_span t + r) ≡ nat_lt 0 (count_of t (k * block_span t + r))
used_counted t k r place lt is some =
    used_by t k r lt
    ∙ ap (λ (n : ℕ). nat_lt 0 (count_of t (k * block_span t + r)) || (r == 0 && n == 0)) is
    ∙ ap (λ (b : Bool). nat_lt 0 (count_of t (k * block_span t + r)) || (r == 0 && b)) (ne_eqb place 0 (λ e. omega (arith, some, e)))
    ∙ none_left (nat_lt 0 (count_of t (k * block_span t + r))) (r == 0)
  where
    none_left : (a b : Bool) → (a || (b && false)) ≡ a
    none_left true b = refl
    none_left false true = refl
    none_left false false = refl

-- past the refcount table there is no block
pub past_table : (t : Tables) (k : ℕ) → t.header.refcount_table_clusters * entries t ≤ k → block_place t k ≡ 0
past_table t k le = ap (λ (b : Bool). (if b then t.file.word ((t.header.refcount_table_offset + 8 * k) / 8) else 0) / 512 * 512) (not_below k (t.header.refcount_table_clusters * entries t) le)
  where
    not_below : (a b : ℕ) → b ≤ a → nat_lt a b ≡ false
    not_below a b le = grind (arith, nat_tests)

-- what begins at a multiple of 256 counts
pub times_whole : (k s : ℕ) → s % 256 ≡ 0 → k * s % 256 ≡ 0
times_whole k s even =
    let split : s ≡ 256 * (s / 256) = omega (arith, even) in
    let e : k * s ≡ 256 * (k * (s / 256)) = ap (λ n. k * n) split ∙ swap k (s / 256) in
    omega (arith, e)
  where
    swap : (a q : ℕ) → a * (256 * q) ≡ 256 * (a * q)
    swap a q = omega arith
