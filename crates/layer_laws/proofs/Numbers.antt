-- Places of clusters, and the numbers that stand in them.
use Rattle.std.proofs.Common.{◌≡◌, ◌≢◌, ◌⊎◌, inl, inr, ℕ, ◌+◌, ◌-◌, ◌*◌, ◌/◌, ◌%◌, ◌^◌, ◌<◌, ◌≤◌, sym, ap, ◌∙◌, arith}
use Rattle.std.proofs.Math.Nat.{div-add-mod, mod-lt, mul_comm, mul-le-mul_right}
use Rattle.std.proofs.lemmas.Nat.{div-mul-add, mod-mul-add, pow-add, le-div}
use Rattle.std.proofs.lemmas.Bool.{cases_lt}

-- a place that begins a cluster
pub whole_place : (a c : ℕ) → a % c ≡ 0 → a ≡ a / c * c
whole_place a c even = let f = div-add-mod a c in let g = mul_comm (a / c) c in omega (arith, f, g, even)

pub same_place : (a b c : ℕ) → a % c ≡ 0 → b % c ≡ 0 → a / c ≡ b / c → a ≡ b
same_place a b c even even' same = whole_place a c even ∙ ap (λ k. k * c) same ∙ sym (whole_place b c even')

pub cluster_of : (a x c : ℕ) → a % c ≡ 0 → x < c → (a + x) / c ≡ a / c
cluster_of a x c even lt = ap (λ n. (n + x) / c) (whole_place a c even) ∙ div-mul-add (a / c) c x lt

-- it begins a sector
pub whole_sector : (a c q : ℕ) → c ≡ 512 * q → a % c ≡ 0 → a % 512 ≡ 0
whole_sector a c q is even = go (a / c) (whole_place a c even ∙ ap (λ n. a / c * n) is)
  where
    go : (k : ℕ) → a ≡ k * (512 * q) → a % 512 ≡ 0
    go k e = omega (arith, e)

-- a cluster is of 4,096 bytes or more
pub cluster_sectors : (bits : ℕ) → 12 ≤ bits → 2 ^ bits ≡ 512 * 2 ^ (bits - 9)
cluster_sectors bits le = let split : bits ≡ 9 + (bits - 9) = omega (arith, le) in ap (λ n. 2 ^ n) split ∙ pow-add 2 9 (bits - 9)

-- a byte outside a cluster stands in another sector
pub apart : (b p c q : ℕ) → c ≡ 512 * q → 0 < c → p % c ≡ 0 → b / c ≢ p / c → (b / 512 < p / 512) ⊎ ((p + c) / 512 ≤ b / 512)
apart b p c q is pos even other = go (cases_lt (b / c) (p / c))
  where
    at : p ≡ p / c * c
    at = whole_place p c even

    sectors : p % 512 ≡ 0
    sectors = whole_sector p c q is even

    split : b ≡ b / c * c + b % c
    split = let f = div-add-mod b c in let g = mul_comm (b / c) c in omega (arith, f, g)

    go : (b / c < p / c) ⊎ (p / c ≤ b / c) → (b / 512 < p / 512) ⊎ ((p + c) / 512 ≤ b / 512)
    go (inl lt) =
        let rows : (b / c + 1) * c ≤ p / c * c = mul-le-mul_right c (omega (arith, lt)) in
        let one : (b / c + 1) * c ≡ b / c * c + c = omega arith in
        let rest : b % c < c = mod-lt b pos in
        let below : b < p = omega (arith, rows, one, rest, at, split) in
        inl (omega (arith, below, sectors))
    go (inr le) =
        let more : p / c + 1 ≤ b / c = omega (arith, le, other) in
        let rows : (p / c + 1) * c ≤ b / c * c = mul-le-mul_right c more in
        let one : (p / c + 1) * c ≡ p / c * c + c = omega arith in
        let above : p + c ≤ b = omega (arith, rows, one, at, split) in
        inr (omega (arith, above))

-- a number of 8 or of 2 bytes in a cluster
pub word_cluster : (a j c q : ℕ) → c ≡ 512 * q → a % c ≡ 0 → j < c / 8 → 8 * ((a + 8 * j) / 8) / c ≡ a / c
word_cluster a j c q is even lt =
    let sectors = whole_sector a c q is even in
    let whole : 8 * ((a + 8 * j) / 8) ≡ a + 8 * j = omega (arith, sectors) in
    ap (λ n. n / c) whole ∙ cluster_of a (8 * j) c even (omega (arith, lt))

pub half_cluster : (a j c q : ℕ) → c ≡ 512 * q → a % c ≡ 0 → j < c / 2 → 2 * (a / 2 + j) / c ≡ a / c
half_cluster a j c q is even lt =
    let sectors = whole_sector a c q is even in
    let whole : 2 * (a / 2 + j) ≡ a + 2 * j = omega (arith, sectors) in
    ap (λ n. n / c) whole ∙ cluster_of a (2 * j) c even (omega (arith, lt))

-- entry i of a table that begins a cluster stands in its cluster i / e
pub row_of : (o i e c : ℕ) → c ≡ 8 * e → o + 8 * i ≡ o + i / e * c + 8 * (i % e)
row_of o i e c is =
    let f = div-add-mod i e in
    let g = mul_comm (i / e) e in
    let h : i / e * c ≡ 8 * (i / e * e) = ap (λ n. i / e * n) is ∙ turned (i / e) e in
    omega (arith, f, g, h)
  where
    turned : (k e : ℕ) → k * (8 * e) ≡ 8 * (k * e)
    turned k e = omega arith

-- a place some clusters behind another begins a cluster too
pub behind : (a k c : ℕ) → 0 < c → a % c ≡ 0 → (a + k * c) % c ≡ 0
behind a k c pos even = ap (λ n. (n + k * c) % c) (whole_place a c even) ∙ ap (λ n. n % c) (sum (a / c) k c) ∙ mod-mul-zero (a / c + k) c pos
  where
    sum : (m k c : ℕ) → m * c + k * c ≡ (m + k) * c + 0
    sum m k c = omega arith

    mod-mul-zero : (m c : ℕ) → 0 < c → (m * c + 0) % c ≡ 0
    mod-mul-zero m c pos = mod-mul-add m c 0 pos

-- the L1 table's clusters hold its entries
pub l1_inside : (i l e c : ℕ) → c ≡ 8 * e → 0 < c → i < l → i / e < (8 * l + (c - 1)) / c
l1_inside i l e c is pos lt = let f = le-div (i / e + 1) (8 * l + (c - 1)) c pos low in omega (arith, f)
  where
    split : i / e * e ≤ i
    split = let f = div-add-mod i e in let g = mul_comm (i / e) e in omega (arith, f, g)

    turned : (k e : ℕ) → (k + 1) * (8 * e) ≡ 8 * (k * e) + 8 * e
    turned k e = omega arith

    low : (i / e + 1) * c ≤ 8 * l + (c - 1)
    low =
        let rows : (i / e + 1) * c ≡ 8 * (i / e * e) + 8 * e = ap (λ n. (i / e + 1) * n) is ∙ turned (i / e) e in
        omega (arith, rows, split, lt, is, pos)
