-- Whether a cluster begins past the capacity, by its number.
use Rattle.std.proofs.Common.{◌≡◌, ℕ, ◌+◌, ◌*◌, ◌<◌, ◌≤◌, ◌⊎◌, inl, inr, true, false, sym, ◌∙◌, arith, nat_le}
use Rattle.std.specs.Int.{div_ceil}
use Rattle.std.proofs.lemmas.Bool.{cases_lt}
use Rattle.std.proofs.lemmas.Bool.Decides.{nat_tests}
use Rattle.std.proofs.lemmas.Grind.{div_ceil_times}
use Rattle.std.proofs.Math.Nat.{mul-le-mul_right}

no_less : (q c b : ℕ) → q ≤ c → q * b ≤ c * b
no_less q c b le = mul-le-mul_right b le

more : (q c b : ℕ) → c < q → c * b + b ≤ q * b
more q c b lt = let e : (c + 1) * b ≤ q * b = mul-le-mul_right b (omega arith) in let f : (c + 1) * b ≡ c * b + b = omega arith in omega arith

pub past_by_number : (capacity c b : ℕ) → 0 < b → nat_le (div_ceil capacity b) c ≡ nat_le capacity (c * b)
past_by_number capacity c b pos = go (cases_lt c (div_ceil capacity b))
  where
    go : (c < div_ceil capacity b) ⊎ (div_ceil capacity b ≤ c) → nat_le (div_ceil capacity b) c ≡ nat_le capacity (c * b)
    go (inl lt) =
        let times = div_ceil_times capacity b pos in
        let far : c * b + b ≤ div_ceil capacity b * b = more (div_ceil capacity b) c b lt in
        let e : nat_le (div_ceil capacity b) c ≡ false = grind (arith, nat_tests) in
        let below : c * b < capacity = omega (arith, times.1, far) in
        let f : nat_le capacity (c * b) ≡ false = grind (arith, nat_tests) in
        e ∙ sym f
    go (inr le) =
        let times = div_ceil_times capacity b pos in
        let near : div_ceil capacity b * b ≤ c * b = no_less (div_ceil capacity b) c b le in
        let e : nat_le (div_ceil capacity b) c ≡ true = grind (arith, nat_tests) in
        let above : capacity ≤ c * b = omega (arith, times.0, near) in
        let f : nat_le capacity (c * b) ≡ true = grind (arith, nat_tests) in
        e ∙ sym f
