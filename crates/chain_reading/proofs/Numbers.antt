-- Clusters that the sectors of a part meet.
use Rattle.std.proofs.Common.{◌≡◌, ℕ, ◌+◌, ◌-◌, ◌*◌, ◌/◌, ◌%◌, ◌^◌, ◌<◌, ◌≤◌, ap, ◌∙◌, arith}
use Rattle.std.proofs.Math.Nat.{div-mul-le_self, pow-le-pow_right}
use Rattle.std.proofs.lemmas.Nat.{div-mul-add, mod-mul-add, div-add-mod', le-div, mod_below, pow-add, pow_pos}

-- so many numbers further in the same cluster
pub within : (a s d : ℕ) → 0 < s → a % s + d < s → ((a + d) / s ≡ a / s) × ((a + d) % s ≡ a % s + d)
within a s d some less =
    let split : a / s * s + a % s ≡ a = div-add-mod' a s in
    let e : a + d ≡ a / s * s + (a % s + d) = omega (arith, split) in
    (ap (λ n. n / s) e ∙ div-mul-add (a / s) s (a % s + d) less, ap (λ n. n % s) e ∙ mod-mul-add (a / s) s (a % s + d) less)

-- the first number behind a cluster is in the next one
pub behind : (a s : ℕ) → 0 < s → (a + (s - a % s)) / s ≡ a / s + 1
behind a s some =
    let split : a / s * s + a % s ≡ a = div-add-mod' a s in
    let low : a % s < s = mod_below a s some in
    let more : (a / s + 1) * s ≡ a / s * s + s = omega arith in
    let e : a + (s - a % s) ≡ (a / s + 1) * s + 0 = omega (arith, split, low, more) in
    ap (λ n. n / s) e ∙ div-mul-add (a / s + 1) s 0 some

-- quotients rise
pub rises : (a b s : ℕ) → 0 < s → a ≤ b → a / s ≤ b / s
rises a b s some le = let low : a / s * s ≤ a = div-mul-le_self a s in le-div (a / s) b s some (omega (arith, low))

-- ---- clusters are whole sectors

pub width : (bits : ℕ) → 9 ≤ bits → 2 ^ bits ≡ 512 * (2 ^ bits / 512)
width bits low =
    let parts : bits ≡ 9 + (bits - 9) = omega arith in
    let e : 2 ^ bits ≡ 512 * 2 ^ (bits - 9) = ap (λ n. 2 ^ n) parts ∙ pow-add 2 9 (bits - 9) in
    omega (arith, e)

pub some_width : (bits : ℕ) → 9 ≤ bits → 0 < 2 ^ bits / 512
some_width bits low =
    let e = width bits low in
    let pos : 0 < 2 ^ bits = pow_pos bits in
    omega (arith, e, pos)

pub narrow : (bits : ℕ) → bits ≤ 21 → 2 ^ bits / 512 ≤ 4096
narrow bits high =
    let le : 2 ^ bits ≤ 2 ^ 21 = pow-le-pow_right {n = 2} (omega arith) high in
    omega (arith, le)

-- a sector by its cluster
pub in_cluster : (k s w : ℕ) → 0 < s → w ≡ 512 * s → (512 * k / w ≡ k / s) × (512 * k % w ≡ 512 * (k % s))
in_cluster k s w some is =
    let split : k / s * s + k % s ≡ k = div-add-mod' k s in
    let low : k % s < s = mod_below k s some in
    let more : k / s * w ≡ 512 * (k / s * s) = ap (λ n. k / s * n) is ∙ omega arith in
    let inside : 512 * (k % s) < w = omega (arith, low, is) in
    let e : 512 * k ≡ k / s * w + 512 * (k % s) = omega (arith, split, more) in
    (ap (λ n. n / w) e ∙ div-mul-add (k / s) w (512 * (k % s)) inside, ap (λ n. n % w) e ∙ mod-mul-add (k / s) w (512 * (k % s)) inside)

pub sector_of_place : (place at : ℕ) → (place + 512 * at) / 512 ≡ place / 512 + at
sector_of_place place at = omega arith
