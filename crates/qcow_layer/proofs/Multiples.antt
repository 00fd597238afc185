-- Multiples that are taken out of a set.
use Rattle.std.proofs.Common.{◌≡◌, ◌≢◌, ℕ, ◌+◌, ◌*◌, ◌/◌, ◌%◌, ◌<◌, Bool, true, false, eqb-true, refl, sym, ap, ◌∙◌, arith, nat_lt}
use Rattle.std.specs.Prelude.{◌==◌, ◌&&◌, not}
use Rattle.std.proofs.Math.Nat.{div-add-mod, mul_comm}
use Rattle.std.proofs.lemmas.Bool.Decides.{nat_tests}
use Rattle.std.proofs.lemmas.Nat.{div-mul-add, mod-mul-add}

abbrev pub is_out : ℕ → ℕ → ℕ → Bool
is_out of count c = c % of == 0 && nat_lt (c / of) count

multiple : (of k c : ℕ) → 0 < of → c ≡ of * k → (c % of ≡ 0) × (c / of ≡ k)
multiple of k c some is =
    let at : c ≡ k * of + 0 = is ∙ mul_comm of k ∙ omega arith in
    (ap (λ n. n % of) at ∙ mod-mul-add k of 0 some, ap (λ n. n / of) at ∙ div-mul-add k of 0 some)

-- the next multiple is out too, and no other number
pub next_out : (of k c : ℕ) → 0 < of → c ≡ of * k → is_out of (k + 1) c ≡ true
next_out of k c some is =
    let m = multiple of k c some is in
    let a : (c % of == 0) ≡ true = ap (λ n. n == 0) m.0 in
    let b : nat_lt (c / of) (k + 1) ≡ true = let e = m.1 in grind (arith, nat_tests) in
    rw (a, b) refl

pub others_out : (of k c : ℕ) → 0 < of → c ≢ of * k → is_out of (k + 1) c ≡ is_out of k c
others_out of k c some apart = go (c % of == 0) refl
  where
    whole : c % of ≡ 0 → c / of ≢ k
    whole even same =
        let split = div-add-mod c of in
        apart (split_at split even same)
      where
        split_at : of * (c / of) + c % of ≡ c → c % of ≡ 0 → c / of ≡ k → c ≡ of * k
        split_at split even same = sym split ∙ ap (λ n. of * (c / of) + n) even ∙ ap (λ n. of * n + 0) same ∙ omega arith

    go : (b : Bool) → (c % of == 0) ≡ b → (b && nat_lt (c / of) (k + 1)) ≡ (b && nat_lt (c / of) k)
    go false e = refl
    go true e =
        let other = whole (eqb-true (c % of) 0 e) in
        tests (c / of) k other
      where
        tests : (q k : ℕ) → q ≢ k → nat_lt q (k + 1) ≡ nat_lt q k
        tests q k other = grind (arith, nat_tests)

pub kept : (had : Bool) (of k c : ℕ) (now : Bool) → now ≡ (had && not (is_out of k c)) → is_out of (k + 1) c ≡ is_out of k c → now ≡ (had && not (is_out of (k + 1) c))
kept had of k c now is same = is ∙ ap (λ b. had && not b) (sym same)

pub gone : (had : Bool) (of k c : ℕ) (now : Bool) → now ≡ false → is_out of (k + 1) c ≡ true → now ≡ (had && not (is_out of (k + 1) c))
gone had of k c now is out = is ∙ sym (ap (λ b. had && not b) out ∙ and_false had)
  where
    and_false : (b : Bool) → (b && false) ≡ false
    and_false true = refl
    and_false false = refl
