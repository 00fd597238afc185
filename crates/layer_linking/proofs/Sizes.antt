-- Sizes of clusters, of pieces, and of tables.
use Rattle.std.proofs.Common.{◌≡◌, ◌⊎◌, inl, inr, ℕ, ◌+◌, ◌-◌, ◌*◌, ◌/◌, ◌%◌, ◌^◌, ◌<◌, ◌≤◌, min, take, replicate, sym, ap, ◌∙◌, subst, arith}
use Rattle.std.proofs.Math.Nat.{pow-le-pow_right, div-add-mod, mul_comm, mul-le-mul_right}
use Rattle.std.proofs.lemmas.Bool.{cases_lt}
use Rattle.std.proofs.lemmas.List.{take-replicate}
use Rattle.std.proofs.lemmas.Nat.{pow_pos, pow-add, div_below, mod-mul-add}
use Rattle.layer_laws.proofs.Numbers.{cluster_sectors}

pub wide : (bits : ℕ) → 12 ≤ bits → 4096 ≤ 2 ^ bits
wide bits le = pow-le-pow_right (omega arith) le

pub narrow : (bits : ℕ) → bits ≤ 21 → 2 ^ bits ≤ 2097152
narrow bits le = pow-le-pow_right (omega arith) le

pub some_of : (bits : ℕ) → 12 ≤ bits → 512 ≤ min (2 ^ bits) 65536
some_of bits low = let a = wide bits low in go (2 ^ bits) a
  where
    go : (c : ℕ) → 4096 ≤ c → 512 ≤ min c 65536
    go c le = omega (arith, le)

pub even_of : (bits : ℕ) → 12 ≤ bits → min (2 ^ bits) 65536 % 512 ≡ 0
even_of bits low = go (2 ^ bits) (2 ^ (bits - 9)) (cluster_sectors bits low)
  where
    go : (c q : ℕ) → c ≡ 512 * q → min c 65536 % 512 ≡ 0
    go c q e = by (cases_lt c 65536)
      where
        by : (c < 65536) ⊎ (65536 ≤ c) → min c 65536 % 512 ≡ 0
        by (inl lt) = let m : min c 65536 ≡ c = omega (arith, lt) in ap (λ (x : ℕ). x % 512) m ∙ omega (arith, e)
        by (inr le) = let m : min c 65536 ≡ 65536 = omega (arith, le) in ap (λ (x : ℕ). x % 512) m

-- how many pieces a cluster has
pub few_of : (bits : ℕ) → 12 ≤ bits → bits ≤ 21 → 2 ^ bits / min (2 ^ bits) 65536 ≤ 32
few_of bits low high = go (2 ^ bits) (wide bits low) (narrow bits high)
  where
    go : (c : ℕ) → 4096 ≤ c → c ≤ 2097152 → c / min c 65536 ≤ 32
    go c le most = by (cases_lt c 65536)
      where
        by : (c < 65536) ⊎ (65536 ≤ c) → c / min c 65536 ≤ 32
        by (inl lt) =
            let m : min c 65536 ≡ c = omega (arith, lt) in
            let one : c / c < 33 = div_below c c 33 (omega (arith, le)) (omega (arith, le)) in
            subst (λ (x : ℕ). c / x ≤ 32) (sym m) (omega (arith, one))
        by (inr le) = let m : min c 65536 ≡ 65536 = omega (arith, le) in subst (λ (x : ℕ). c / x ≤ 32) (sym m) (omega (arith, most))

-- they fill it
pub pieces_fill : (bits : ℕ) → 12 ≤ bits → 2 ^ bits / min (2 ^ bits) 65536 * min (2 ^ bits) 65536 ≡ 2 ^ bits
pieces_fill bits low = go (cases_lt bits 17)
  where
    one : (c : ℕ) → 4096 ≤ c → c ≤ 65536 → c / min c 65536 * min c 65536 ≡ c
    one c some few =
        let m : min c 65536 ≡ c = omega (arith, few) in
        let whole : c / c * c ≡ c = let f = div-add-mod c c in let g = mul_comm c (c / c) in let z : c % c ≡ 0 = same_mod c some in omega (arith, f, g, z) in
        ap (λ (x : ℕ). c / x * x) m ∙ whole
      where
        same_mod : (c : ℕ) → 4096 ≤ c → c % c ≡ 0
        same_mod c some = let e : (1 * c + 0) % c ≡ 0 = mod-mul-add 1 c 0 (omega (arith, some)) in let s : 1 * c + 0 ≡ c = omega arith in ap (λ (x : ℕ). x % c) (sym s) ∙ e

    more : (c q : ℕ) → c ≡ 65536 * q → 0 < q → c / min c 65536 * min c 65536 ≡ c
    more c q is some = let m : min c 65536 ≡ 65536 = omega (arith, is, some) in ap (λ (x : ℕ). c / x * x) m ∙ omega (arith, is)

    go : (bits < 17) ⊎ (17 ≤ bits) → 2 ^ bits / min (2 ^ bits) 65536 * min (2 ^ bits) 65536 ≡ 2 ^ bits
    go (inl lt) = let less : bits ≤ 16 = omega (arith, lt) in let few : 2 ^ bits ≤ 2 ^ 16 = pow-le-pow_right (omega arith) less in one (2 ^ bits) (wide bits low) few
    go (inr le) =
        let split : bits ≡ 16 + (bits - 16) = omega (arith, le) in
        more (2 ^ bits) (2 ^ (bits - 16)) (ap (λ (n : ℕ). 2 ^ n) split ∙ pow-add 2 16 (bits - 16)) (pow_pos (bits - 16))

-- a row of a table of at least 512 entries
pub row_small : (group e : ℕ) → group < 2 ^ 58 → 512 ≤ e → 8 * (64 * group / e) < 2 ^ 64
row_small group e few wide =
    let f = div-add-mod (64 * group) e in
    let g = mul_comm e (64 * group / e) in
    let rows : 512 * (64 * group / e) ≤ e * (64 * group / e) = mul-le-mul_right (64 * group / e) wide in
    omega (arith, f, rows, few)

abbrev pub nought : ℕ
nought = 0

pub zeros_taken : (n : ℕ) → n ≤ 65536 → take n (replicate 65536 nought) ≡ replicate n nought
zeros_taken n le = take-replicate n 65536 nought le

pub zeros_of : (n m : ℕ) → n ≤ 65536 → n ≡ m → take n (replicate 65536 nought) ≡ replicate m nought
zeros_of n m le same = zeros_taken n le ∙ ap (λ (k : ℕ). replicate k nought) same
