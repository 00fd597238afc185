-- How many bytes of the virtual disk one L1 entry maps, and how long the L1 table may be.
use Rattle.std.proofs.Common.{◌≡◌, ℕ, ◌+◌, ◌-◌, ◌*◌, ◌/◌, ◌%◌, ◌^◌, ◌<◌, ◌≤◌, drop, take, replicate, sym, ap, ◌∙◌, arith, zero, suc, get_or, refl}
use Rattle.std.proofs.lemmas.List.{drop-replicate, take-replicate}
use Rattle.std.proofs.lemmas.Nat.{div-add-mod', le-div, pow_pos}
use Rattle.std.proofs.Math.Nat.{div-lt_iff_lt-mul, div-mul-le_self, lt-div-mul-add, mod-lt, mul-le-mul_left, mul-le-mul_right, pow-le-pow_right}
use Rattle.qcow_format.specs.declared.header.Header.{Header}
use Rattle.layer_laws.proofs.Numbers.{cluster_sectors}
use Rattle.layer_sizing.specs.Sized.{bound, cluster, l1_size_for, span}

pub least_of : (c : ℕ) → 2 ^ 12 ≤ c → 2 ^ 21 ≤ c / 8 * c
least_of c le =
    let rows : 2 ^ 9 ≤ c / 8 = omega (arith, le) in
    let low : 2 ^ 9 * 2 ^ 12 ≤ c / 8 * 2 ^ 12 = mul-le-mul_right (2 ^ 12) rows in
    let high : c / 8 * 2 ^ 12 ≤ c / 8 * c = mul-le-mul_left (c / 8) le in
    omega (arith, low, high)

pub most_of : (c : ℕ) → c ≤ 2 ^ 21 → c / 8 * c ≤ 2 ^ 39
most_of c le =
    let rows : c / 8 ≤ 2 ^ 18 = omega (arith, le) in
    let low : c / 8 * c ≤ c / 8 * 2 ^ 21 = mul-le-mul_left (c / 8) le in
    let high : c / 8 * 2 ^ 21 ≤ 2 ^ 18 * 2 ^ 21 = mul-le-mul_right (2 ^ 21) rows in
    omega (arith, low, high)

pub span_least : (h : Header) → 12 ≤ h.cluster_bits → 2 ^ 21 ≤ span h
span_least h low = least_of (2 ^ h.cluster_bits) (pow-le-pow_right (omega arith) low)

-- ---- how long the table may be

-- so many rows hold no more than they do
pub ceil_le : (a b s : ℕ) → 0 < s → a ≤ b * s → (a + (s - 1)) / s ≤ b
ceil_le a b s some le =
    let more = one_more b s in
    let below : a + (s - 1) < (b + 1) * s = omega (arith, some, le, more) in
    let lt : (a + (s - 1)) / s < b + 1 = (div-lt_iff_lt-mul {k = s} {x = a + (s - 1)} {y = b + 1} some).1 below in
    omega (arith, lt)
  where
    one_more : (b s : ℕ) → (b + 1) * s ≡ s + b * s
    one_more b s = grind arith

-- and no fewer
pub ceil_holds : (a s : ℕ) → 0 < s → a ≤ (a + (s - 1)) / s * s
ceil_holds a s some = let lt = lt-div-mul-add {a = a + (s - 1)} {b = s} some in omega (arith, lt, some)

pub mod_below : (a s : ℕ) → 0 < s → a % s < s
mod_below a s some = mod-lt a some

pub div_mono : (a b s : ℕ) → 0 < s → a ≤ b → a / s ≤ b / s
div_mono a b s pos le = le-div (a / s) b s pos (let below = div-mul-le_self a s in omega (arith, below, le))

-- so many rows are less than a row more than what they hold
pub ceil_below : (a s : ℕ) → 0 < s → (a + (s - 1)) / s * s < a + s
ceil_below a s some = let d = div-add-mod' (a + (s - 1)) s in omega (arith, d, some)

-- the end of a row
pub next_row : (a c : ℕ) → 0 < a → (a - 1) * c + c ≡ a * c
next_row a c pos = let is : a ≡ (a - 1) + 1 = omega (arith, pos) in let one : (a - 1 + 1) * c ≡ (a - 1) * c + c = omega arith in sym (ap (λ x. x * c) is ∙ one)

-- each byte of zeros
pub zero_at : (m k : ℕ) → get_or (replicate {A = ℕ} m 0) k 0 ≡ 0
zero_at zero k = refl
zero_at (suc m) zero = refl
zero_at (suc m) (suc k) = zero_at m k

-- zeros behind others
pub zeros_taken : (from : ℕ) → take (512 - from) (drop from (replicate {A = ℕ} 512 0)) ≡ replicate (512 - from) 0
zeros_taken from = ap (take (512 - from)) (drop-replicate from 512 0) ∙ take-replicate (512 - from) (512 - from) 0 (omega arith)

-- the numbers of a table: how many clusters it has, and how many entries they hold
module _ (h : Header) (low : 12 ≤ h.cluster_bits) (larger : ℕ) (most : larger ≤ bound h) where
  abbrev c : ℕ
  c = cluster h

  abbrev rows : ℕ
  rows = (8 * h.l1_size + (c - 1)) / c

  abbrev l : ℕ
  l = l1_size_for h larger

  sectors : c ≡ 512 * 2 ^ (h.cluster_bits - 9)
  sectors = cluster_sectors h.cluster_bits low

  wide : 0 < c
  wide = pow_pos h.cluster_bits

  eights : c ≡ 8 * (c / 8)
  eights = by c (2 ^ (h.cluster_bits - 9)) sectors
    where
      by : (c q : ℕ) → c ≡ 512 * q → c ≡ 8 * (c / 8)
      by c q is = omega (arith, is)

  pub spans : 0 < span h
  spans = let w = span_least h low in omega (arith, w)

  held : rows * c ≡ 8 * (rows * (c / 8))
  held = ap (λ x. rows * x) eights ∙ shuffle rows (c / 8)
    where
      shuffle : (a b : ℕ) → a * (8 * b) ≡ 8 * (a * b)
      shuffle a b = grind arith

  asked : (larger + (span h - 1)) / span h ≤ rows * (c / 8)
  asked = ceil_le larger (rows * (c / 8)) (span h) spans (omega (arith, most))

  old_held : 8 * h.l1_size ≤ rows * c
  old_held = ceil_holds (8 * h.l1_size) c wide

  pub few : 8 * l ≤ rows * c
  few = omega (arith, asked, held, old_held)

  pub same_rows : (8 * l + (c - 1)) / c ≡ rows
  same_rows =
      let high = ceil_le (8 * l) rows c wide few in
      let low' : rows ≤ (8 * l + (c - 1)) / c = ceil_le (8 * h.l1_size) ((8 * l + (c - 1)) / c) c wide (let holds = ceil_holds (8 * l) c wide in omega (arith, holds)) in
      omega (arith, high, low')
