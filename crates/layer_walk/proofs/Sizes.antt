-- Where tables end, by the sizes of clusters.
use Rattle.std.proofs.Common.{◌≡◌, ℕ, zero, suc, ◌+◌, ◌-◌, ◌*◌, ◌/◌, ◌%◌, ◌^◌, ◌<◌, ◌≤◌, sym, ap, ◌∙◌, subst, arith}
use Rattle.std.proofs.lemmas.Nat.{pow_pos}
use Rattle.std.proofs.Math.Nat.{div-lt_iff_lt-mul, div-add-mod, mod-lt, mul-le-mul_left, pow-le-pow_right, mul_comm, add-mul-mod_self_right}
use Rattle.layer_walk.proofs.Spans.{pages, power_split}

-- what is even and below an end that is even too ends there at the latest
even_end : (c p q : ℕ) → 0 < c → p % c ≡ 0 → p < c * q → p + c ≤ c * q
even_end c p q pos even lt =
    let row : p / c < q = div-lt-mul c p q pos lt in
    let whole : c * (p / c) + p % c ≡ p = div-add-mod p c in
    let more : c * (p / c + 1) ≤ c * q = mul-le-mul_left c (omega (arith, row)) in
    let split : c * (p / c + 1) ≡ c * (p / c) + c = omega arith in
    omega (arith, whole, even, more, split)
  where
    div-lt-mul : (c p q : ℕ) → 0 < c → p < c * q → p / c < q
    div-lt-mul c p q pos lt = (div-lt_iff_lt-mul pos).1 (omega (arith, lt, mul_comm c q))

pub last_end : (bits base clusters top : ℕ) → 0 < clusters → base % 2 ^ bits ≡ 0 → bits ≤ top → base + (clusters - 1) * 2 ^ bits < 2 ^ top → base + clusters * 2 ^ bits ≤ 2 ^ top
last_end bits base clusters top some even le lt =
    let p : ℕ = base + (clusters - 1) * 2 ^ bits in
    let split = power_split top bits le in
    let aligned : p % 2 ^ bits ≡ 0 = add-mul-mod_self_right base (clusters - 1) (2 ^ bits) ∙ even in
    let below : p < 2 ^ bits * 2 ^ (top - bits) = subst (λ n. p < n) split lt in
    let end : p + 2 ^ bits ≤ 2 ^ bits * 2 ^ (top - bits) = even_end (2 ^ bits) p (2 ^ (top - bits)) (pow_pos bits) aligned below in
    let whole : p + 2 ^ bits ≡ base + clusters * 2 ^ bits = one_more (2 ^ bits) base clusters some in
    subst (λ n. n ≤ 2 ^ top) whole (subst (λ n. p + 2 ^ bits ≤ n) (sym split) end)
  where
    one_more : (c base n : ℕ) → 0 < n → base + (n - 1) * c + c ≡ base + n * c
    one_more c base n some = let e : (n - 1 + 1) * c ≡ (n - 1) * c + c = omega arith in let f : n - 1 + 1 ≡ n = omega (arith, some) in let g = ap (λ m. m * c) f in omega (arith, e, g)

-- a place at which a cluster begins is one at which a sector begins
pub by_sectors : (bits place : ℕ) → 12 ≤ bits → place % 2 ^ bits ≡ 0 → place % 512 ≡ 0
by_sectors bits place low even =
    let q : ℕ = 2 ^ (bits - 12) in
    let whole : 2 ^ bits * (place / 2 ^ bits) + place % 2 ^ bits ≡ place = div-add-mod place (2 ^ bits) in
    let all : 2 ^ bits * (place / 2 ^ bits) ≡ 512 * (8 * q * (place / 2 ^ bits)) = ap (λ n. n * (place / 2 ^ bits)) (pages bits low) ∙ swap q (place / 2 ^ bits) in
    omega (arith, whole, all, even)
  where
    swap : (q m : ℕ) → 4096 * q * m ≡ 512 * (8 * q * m)
    swap q m = omega arith

-- ---- the refcount table

pub some_clusters : (clusters e k : ℕ) → k < clusters * e → 0 < clusters
some_clusters zero e k lt = absurd (omega (arith, lt))
some_clusters (suc n) e k lt = omega arith

-- its entries go by whole sectors
entries_whole : (bits clusters : ℕ) → 12 ≤ bits → clusters * (2 ^ bits / 8) ≡ 64 * (clusters * (8 * 2 ^ (bits - 12)))
entries_whole bits clusters low =
    let q : ℕ = 2 ^ (bits - 12) in
    let half : 2 ^ bits / 8 ≡ 64 * (8 * q) = omega (arith, pages bits low) in
    ap (λ n. clusters * n) half ∙ swap clusters (8 * q)
  where
    swap : (c m : ℕ) → c * (64 * m) ≡ 64 * (c * m)
    swap c m = omega arith

pub row_within : (bits clusters k : ℕ) → 12 ≤ bits → k < clusters * (2 ^ bits / 8) → k / 64 * 64 + 64 ≤ clusters * (2 ^ bits / 8)
row_within bits clusters k low lt = let all = entries_whole bits clusters low in omega (arith, all, lt)

-- they end where the table does
pub row_low : (bits base clusters k : ℕ) → 12 ≤ bits → base + clusters * 2 ^ bits ≤ 2 ^ 64 → k ≤ clusters * (2 ^ bits / 8) → base + 8 * k ≤ 2 ^ 64
row_low bits base clusters k low end room =
    let whole : 2 ^ bits ≡ 8 * (2 ^ bits / 8) = omega (arith, pages bits low) in
    let all : clusters * 2 ^ bits ≡ 8 * (clusters * (2 ^ bits / 8)) = ap (λ n. clusters * n) whole ∙ swap clusters (2 ^ bits / 8) in
    omega (arith, all, end, room)
  where
    swap : (c m : ℕ) → c * (8 * m) ≡ 8 * (c * m)
    swap c m = omega arith

-- ---- the L1 table

-- its clusters hold its entries
pub rounded : (n c : ℕ) → 0 < c → n ≤ (n + (c - 1)) / c * c
rounded n c pos =
    let whole : c * ((n + (c - 1)) / c) + (n + (c - 1)) % c ≡ n + (c - 1) = div-add-mod (n + (c - 1)) c in
    let rest : (n + (c - 1)) % c < c = mod-lt (n + (c - 1)) pos in
    let turn : c * ((n + (c - 1)) / c) ≡ (n + (c - 1)) / c * c = swap c ((n + (c - 1)) / c) in
    omega (arith, whole, rest, turn, pos)
  where
    swap : (a b : ℕ) → a * b ≡ b * a
    swap a b = omega arith

pub some_row : (n m c i : ℕ) → n ≤ m * c → 8 * i + 8 ≤ n → 0 < m
some_row n zero c i le lt = absurd (omega (arith, le, lt))
some_row n (suc m) c i le lt = omega arith

-- ---- L2 tables

pub entries_few : (bits : ℕ) → bits ≤ 21 → 2 ^ bits / 8 ≤ 262144
entries_few bits high = let width : 2 ^ bits ≤ 2 ^ 21 = pow-le-pow_right (omega arith) high in omega (arith, width)

pub entries_some : (bits : ℕ) → 12 ≤ bits → 512 ≤ 2 ^ bits / 8
entries_some bits low = let e = pages bits low in let q = pow_pos (bits - 12) in omega (arith, e, q)

pub rows_left : (bits j : ℕ) → 12 ≤ bits → j % 64 ≡ 0 → j < 2 ^ bits / 8 → j + 64 ≤ 2 ^ bits / 8
rows_left bits j low even lt = omega (arith, pages bits low, even, lt)

-- a cluster's sectors, by its entries
pub parts_of : (bits : ℕ) → 12 ≤ bits → 2 ^ bits / 8 ≡ 64 * (2 ^ bits / 512)
parts_of bits low = omega (arith, pages bits low)
