-- The size of clusters.
use Rattle.std.proofs.Common.{ℕ, ◌≡◌, ◌-◌, ◌*◌, ◌/◌, ◌%◌, ◌^◌, ◌≤◌, subst, arith}
use Rattle.std.proofs.Math.Nat.{pow-le-pow_right, mul-le-mul_right}
use Rattle.layer_laws.proofs.Numbers.{cluster_sectors}

pub wide : (bits : ℕ) → 12 ≤ bits → 4096 ≤ 2 ^ bits
wide bits le = pow-le-pow_right (omega arith) le

pub narrow : (bits : ℕ) → bits ≤ 21 → 2 ^ bits ≤ 2097152
narrow bits le = pow-le-pow_right (omega arith) le

pub whole : (bits : ℕ) → 12 ≤ bits → 2 ^ bits % 512 ≡ 0
whole bits le = go (2 ^ bits) (2 ^ (bits - 9)) (cluster_sectors bits le)
  where
    go : (c q : ℕ) → c ≡ 512 * q → c % 512 ≡ 0
    go c q e = omega (arith, e)

-- the product of what a table's cluster covers fits
pub two_fit : (c : ℕ) → c ≤ 2097152 → c / 8 * (c / 2) ≤ 262144 * 1048576
two_fit c le = go (c / 8) (c / 2) (omega (arith, le)) (omega (arith, le))
  where
    go : (a b : ℕ) → a ≤ 262144 → b ≤ 1048576 → a * b ≤ 262144 * 1048576
    go a b la lb = let x : a * b ≤ 262144 * b = mul-le-mul_right b la in omega (arith, x, lb)

pub three_fit : (c : ℕ) → c ≤ 2097152 → c / 8 * (c / 2) * c ≤ 262144 * 1048576 * 2097152
three_fit c le = let x : c / 8 * (c / 2) * c ≤ 262144 * 1048576 * c = mul-le-mul_right c (two_fit c le) in omega (arith, x, le)

-- what a table covers
pub reordered : (clusters c d : ℕ) → c ≡ d → clusters * (c / 8 * (c / 2) * c) ≡ clusters * (d / 8) * (d / 2) * d
reordered clusters c d e = subst (λ x. clusters * (c / 8 * (c / 2) * c) ≡ clusters * (x / 8) * (x / 2) * x) e (go (c / 8) (c / 2))
  where
    go : (a b : ℕ) → clusters * (a * b * c) ≡ clusters * a * b * c
    go a b = omega arith
