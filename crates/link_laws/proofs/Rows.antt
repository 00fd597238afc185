-- Where the entries of a sector of an L2 table stand.
use Rattle.std.proofs.Common.{◌≡◌, ◌≢◌, ◌⊎◌, inl, inr, ℕ, ◌+◌, ◌*◌, ◌/◌, ◌%◌, ◌<◌, ◌≤◌, sym, ap, ◌∙◌, arith}
use Rattle.std.proofs.Math.Nat.{div-add-mod, mod-lt, mul_comm, mul-le-mul_right}
use Rattle.std.proofs.lemmas.Nat.{div-mul-add, mod-mul-add}
use Rattle.std.proofs.lemmas.Bool.{cases_lt}
use Rattle.layer_laws.proofs.Numbers.{whole_place}

-- a cluster of the virtual disk by its sector of entries and its place in it
pub place_in : (k group : ℕ) → k / 64 ≡ group → k ≡ 64 * group + k % 64
place_in k group e = omega (arith, e)

-- entry m of a sector of a table of 64 * e entries stands in the row and m behind the column of the first one
module _ (group e m : ℕ) (some : 0 < e) (lt : m < 64) where
  abbrev r : ℕ
  r = group % e

  r_lt : r < e
  r_lt = mod-lt group some

  split : 64 * group ≡ group / e * (64 * e) + 64 * r
  split = let f = div-add-mod group e in let g = mul_comm e (group / e) in let t = turned (group / e) e in omega (arith, f, g, t)
    where
      turned : (k e : ℕ) → k * (64 * e) ≡ 64 * (k * e)
      turned k e = omega arith

  split_m : 64 * group + m ≡ group / e * (64 * e) + (64 * r + m)
  split_m = omega (arith, split)

  first_row : 64 * group / (64 * e) ≡ group / e
  first_row = ap (λ (x : ℕ). x / (64 * e)) split ∙ div-mul-add (group / e) (64 * e) (64 * r) (omega (arith, r_lt))

  pub row : (64 * group + m) / (64 * e) ≡ 64 * group / (64 * e)
  row = ap (λ (x : ℕ). x / (64 * e)) split_m ∙ div-mul-add (group / e) (64 * e) (64 * r + m) (omega (arith, r_lt, lt)) ∙ sym first_row

  first_column : 64 * group % (64 * e) ≡ 64 * r
  first_column = ap (λ (x : ℕ). x % (64 * e)) split ∙ mod-mul-add (group / e) (64 * e) (64 * r) (omega (arith, r_lt))

  column : (64 * group + m) % (64 * e) ≡ 64 * r + m
  column = ap (λ (x : ℕ). x % (64 * e)) split_m ∙ mod-mul-add (group / e) (64 * e) (64 * r + m) (omega (arith, r_lt, lt))

  -- its word in the file, where the table begins a sector
  module _ (table : ℕ) (even : table % 512 ≡ 0) where
    pub word_sector : (table + 8 * ((64 * group + m) % (64 * e))) / 8 / 64 ≡ (table + 8 * (64 * group % (64 * e))) / 512
    word_sector = let a = column in let b = first_column in omega (arith, a, b, even, lt)

    pub word_column : (table + 8 * ((64 * group + m) % (64 * e))) / 8 % 64 ≡ m
    word_column = let a = column in omega (arith, a, even, lt)

    -- that sector is one of the table's
    pub sector_low : table / 512 ≤ (table + 8 * (64 * group % (64 * e))) / 512
    sector_low = omega arith

    pub sector_high : (table + 8 * (64 * group % (64 * e))) / 512 < (table + 8 * (64 * e)) / 512
    sector_high = let b = first_column in omega (arith, b, r_lt, even)

-- two places that begin clusters, one below the other
next_cluster : (a b c : ℕ) → a % c ≡ 0 → b % c ≡ 0 → a < b → a + c ≤ b
next_cluster a b c even even' lt = go (cases_lt (a / c) (b / c))
  where
    at : a ≡ a / c * c
    at = whole_place a c even

    at' : b ≡ b / c * c
    at' = whole_place b c even'

    go : (a / c < b / c) ⊎ (b / c ≤ a / c) → a + c ≤ b
    go (inl lt) =
        let rows : (a / c + 1) * c ≤ b / c * c = mul-le-mul_right c (omega (arith, lt)) in
        let one : (a / c + 1) * c ≡ a / c * c + c = omega arith in
        omega (arith, rows, one, at, at')
    go (inr le) =
        let rows : b / c * c ≤ a / c * c = mul-le-mul_right c le in
        absurd (omega (arith, rows, at, at', lt))

-- a cluster that begins in a file of whole clusters lies in it
pub lies_whole : (place size c : ℕ) → place % c ≡ 0 → size % c ≡ 0 → place < size → place + c ≤ size
lies_whole place size c even even' lt = next_cluster place size c even even' lt

-- a sector of one cluster is none of another
pub other_cluster : (a p c q x : ℕ) → c ≡ 512 * q → a % c ≡ 0 → p % c ≡ 0 → a ≢ p → a / 512 ≤ x → x < (a + c) / 512 → (x < p / 512) ⊎ ((p + c) / 512 ≤ x)
other_cluster a p c q x is even even' ne low high = go (cases_lt a p) (cases_lt p a)
  where
    go : (a < p) ⊎ (p ≤ a) → (p < a) ⊎ (a ≤ p) → (x < p / 512) ⊎ ((p + c) / 512 ≤ x)
    go (inl lt) rest = let next = next_cluster a p c even even' lt in inl (omega (arith, next, high))
    go (inr le) (inl lt) = let next = next_cluster p a c even' even lt in inr (omega (arith, next, low))
    go (inr le) (inr le') = absurd (ne (omega (arith, le, le')))
