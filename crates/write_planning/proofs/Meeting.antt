-- Which clusters a part meets.
use Rattle.std.proofs.Common.{◌≡◌, ◌⊎◌, inl, inr, ℕ, ◌+◌, ◌-◌, ◌*◌, ◌/◌, ◌<◌, ◌≤◌, ap, ◌∙◌, arith}
use Rattle.std.proofs.lemmas.Bool.{cases_lt}
use Rattle.std.proofs.lemmas.Nat.{div-add-mod', le-div, mod_below}
use Rattle.std.proofs.Math.Nat.{mul-le-mul_right}
use Rattle.write_planning.specs.Part.{IsMet, IsPart, many_met}

pub few_met : (at length width : ℕ) → IsPart at length width → many_met at length width ≤ 17
few_met at length width part = go (cases_lt ((at + length - 1) / width) (at / width + 17))
  where
    go : ((at + length - 1) / width < at / width + 17) ⊎ (at / width + 17 ≤ (at + length - 1) / width) → many_met at length width ≤ 17
    go (inl lt) = omega (arith, lt)
    go (inr le) =
        let rows : (at / width + 17) * width ≤ (at + length - 1) / width * width = mul-le-mul_right width le in
        let one = div-add-mod' at width in
        let two = div-add-mod' (at + length - 1) width in
        let rest = mod_below at width (omega (arith, part.low)) in
        absurd (omega (arith, rows, one, two, rest, part.some, part.few, part.low))

pub div_rises : (a b width : ℕ) → 0 < width → a ≤ b → a / width ≤ b / width
div_rises a b width pos le = let one = div-add-mod' a width in le-div (a / width) b width pos (omega (arith, one, le))

-- the cluster of a byte, by the cluster's own bytes
pub is_quotient : (n q width : ℕ) → 0 < width → q * width ≤ n → n < (q + 1) * width → n / width ≡ q
is_quotient n q width pos low high = go (cases_lt q (n / width))
  where
    least : q ≤ n / width
    least = le-div q n width pos low

    go : (q < n / width) ⊎ (n / width ≤ q) → n / width ≡ q
    go (inl lt) =
        let rows : (q + 1) * width ≤ n / width * width = mul-le-mul_right width (omega (arith, lt)) in
        let one = div-add-mod' n width in
        absurd (omega (arith, rows, one, high))
    go (inr le) = omega (arith, le, least)

pub met_inside : (at length width cluster : ℕ) → IsPart at length width → IsMet at length width cluster → (at / width ≤ cluster) × (cluster < at / width + many_met at length width)
met_inside at length width cluster part met =
    let pos : 0 < width = omega (arith, part.low) in
    let low = div_rises at (at + met.0) width pos (omega arith) in
    let high = div_rises (at + met.0) (at + length - 1) width pos (omega (arith, met.1)) in
    (omega (arith, low, met.2), omega (arith, low, high, met.2))

pub inside_met : (at length width cluster : ℕ) → IsPart at length width → (at / width ≤ cluster) × (cluster < at / width + many_met at length width) → IsMet at length width cluster
inside_met at length width cluster part inside = go (cases_lt at (cluster * width))
  where
    pos : 0 < width
    pos = omega (arith, part.low)

    rises : at / width ≤ (at + length - 1) / width
    rises = div_rises at (at + length - 1) width pos (omega (arith, part.some))

    last : cluster ≤ (at + length - 1) / width
    last = omega (arith, inside.1, rises)

    go : (at < cluster * width) ⊎ (cluster * width ≤ at) → IsMet at length width cluster
    go (inl lt) =
        let rows : cluster * width ≤ (at + length - 1) / width * width = mul-le-mul_right width last in
        let one = div-add-mod' (at + length - 1) width in
        (cluster * width - at, omega (arith, rows, one, lt, part.some), is_quotient (at + (cluster * width - at)) cluster width pos (omega (arith, lt)) (omega (arith, lt, pos)))
    go (inr le) =
        let least = le-div cluster at width pos le in
        let same : at / width ≡ cluster = omega (arith, least, inside.0) in
        (0, part.some, let none : at + 0 ≡ at = omega arith in ap (λ n. n / width) none ∙ same)
