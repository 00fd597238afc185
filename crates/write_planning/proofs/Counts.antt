-- How many numbers below an index have a property.
use Rattle.std.proofs.Common.{◌≡◌, ◌⊎◌, inl, inr, ℕ, zero, suc, ◌+◌, ◌<◌, ◌≤◌, Bool, true, false, refl, sym, ap, ◌∙◌, subst, arith}
use Rattle.std.proofs.lemmas.Bool.{cases_lt, cases_order, false_from_ne_true}
use Rattle.image_model.specs.Room.{how_many}
use Rattle.layer_placing.proofs.Least.{grows, next_counted, none_between}

pub not_counted : (P : ℕ → Bool) (x : ℕ) → P x ≡ false → how_many P (x + 1) ≡ how_many P x
not_counted P x is = none_between P x (x + 1) (omega arith) (λ c low high. let same : x ≡ c = omega (arith, low, high) in subst (λ n. P n ≡ false) same is)

pub one_counted : (P : ℕ → Bool) (x n m : ℕ) → P x ≡ true → n ≡ how_many P x → m ≡ n + 1 → m ≡ how_many P (x + 1)
one_counted P x n m is before next = next ∙ ap (λ k. k + 1) before ∙ sym (next_counted P x is)

pub none_counted : (P : ℕ → Bool) (x n m : ℕ) → P x ≡ false → n ≡ how_many P x → m ≡ n → m ≡ how_many P (x + 1)
none_counted P x n m is before next = next ∙ before ∙ sym (not_counted P x is)

pub none_yet : (P : ℕ → Bool) → 0 ≡ how_many P 0
unfolding how_many
none_yet P = refl

pub fewer_below : (P : ℕ → Bool) (x n : ℕ) → P x ≡ true → x < n → how_many P x + 1 ≤ how_many P n
fewer_below P x n is lt = let next = next_counted P x is in let more = grows P (x + 1) n (omega (arith, lt)) in omega (arith, next, more)

pub counted_at : (P : ℕ → Bool) (n m : ℕ) → m < how_many P n → (j : ℕ) × (j < n) × (P j ≡ true) × (how_many P j ≡ m)
counted_at P zero m lt = absurd (omega (arith, lt, none_yet P))
counted_at P (suc n) m lt = go (λ less. counted_at P n m less) (P n) refl
  where
    more : suc n ≡ n + 1
    more = omega arith

    earlier : (m < how_many P n → (j : ℕ) × (j < n) × (P j ≡ true) × (how_many P j ≡ m)) → m < how_many P n → (j : ℕ) × (j < suc n) × (P j ≡ true) × (how_many P j ≡ m)
    earlier before less = let at = before less in (at.0, omega (arith, at.1), at.2, at.3)

    here : (m < how_many P n → (j : ℕ) × (j < n) × (P j ≡ true) × (how_many P j ≡ m)) → P n ≡ true → (m < how_many P n) ⊎ (how_many P n ≤ m) → (j : ℕ) × (j < suc n) × (P j ≡ true) × (how_many P j ≡ m)
    here before is (inl less) = earlier before less
    here before is (inr le) = let next = ap (how_many P) more ∙ next_counted P n is in (n, omega arith, is, omega (arith, next, lt, le))

    go : (m < how_many P n → (j : ℕ) × (j < n) × (P j ≡ true) × (how_many P j ≡ m)) → (b : Bool) → P n ≡ b → (j : ℕ) × (j < suc n) × (P j ≡ true) × (how_many P j ≡ m)
    go before true is = here before is (cases_lt m (how_many P n))
    go before false is = earlier before (let next = ap (how_many P) more ∙ not_counted P n is in omega (arith, next, lt))

pub apart_by_count : (P : ℕ → Bool) (i j m : ℕ) → P i ≡ true → P j ≡ true → how_many P i ≡ m → how_many P j ≡ m → i ≡ j
apart_by_count P i j m one two first second = go (cases_order i j)
  where
    go : (i ≡ j) ⊎ ((i < j) ⊎ (j < i)) → i ≡ j
    go (inl same) = same
    go (inr (inl lt)) = let fewer = fewer_below P i j one lt in absurd (omega (arith, fewer, first, second))
    go (inr (inr lt)) = let fewer = fewer_below P j i two lt in absurd (omega (arith, fewer, first, second))

pub one_more_at_most : (P : ℕ → Bool) (x : ℕ) → how_many P (x + 1) ≤ how_many P x + 1
one_more_at_most P x = go (P x) refl
  where
    go : (b : Bool) → P x ≡ b → how_many P (x + 1) ≤ how_many P x + 1
    go true is = let next = next_counted P x is in omega (arith, next)
    go false is = let next = not_counted P x is in omega (arith, next)

-- where one number at the most has the property
pub one_between : (P : ℕ → Bool) (a b s : ℕ) → a ≤ b → ((j : ℕ) → a ≤ j → j < b → P j ≡ true → j ≡ s) → how_many P b ≤ how_many P a + 1
one_between P a zero s le only = let more = grows P zero a (omega arith) in omega (arith, more)
one_between P a (suc n) s le only = go (λ low. one_between P a n s low (λ j from below. only j from (omega (arith, below)))) (cases_lt n a) (P n) refl
  where
    more : suc n ≡ n + 1
    more = omega arith

    -- it is the last
    none_before : a ≤ n → P n ≡ true → how_many P n ≡ how_many P a
    none_before low is = none_between P a n low (λ c from below. false_from_ne_true (P c) (λ t. let one = only c from (omega (arith, below)) t in let two = only n low (omega arith) is in omega (arith, one, two, below)))

    go : (a ≤ n → how_many P n ≤ how_many P a + 1) → (n < a) ⊎ (a ≤ n) → (b : Bool) → P n ≡ b → how_many P (suc n) ≤ how_many P a + 1
    go before (inl lt) b is = let same : a ≡ suc n = omega (arith, le, lt) in let equal = ap (how_many P) same in omega (arith, equal)
    go before (inr low) true is = let next = ap (how_many P) more ∙ next_counted P n is in let none = none_before low is in omega (arith, next, none)
    go before (inr low) false is = let next = ap (how_many P) more ∙ not_counted P n is in let rest = before low in omega (arith, next, rest)
