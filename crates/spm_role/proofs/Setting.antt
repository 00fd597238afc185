-- A loop that gives each element of a list its new value.
use Rattle.std.proofs.Common.{◌≡◌, ◌≢◌, ◌⊎◌, ℕ, ◌+◌, ◌<◌, ◌≤◌, List, length, get_or, set, sym, ap, subst, ◌∙◌, inl, inr, arith, get_or-set_other, get_or-set_same}
use Rattle.std.specs.Prelude.{map}
use Rattle.std.proofs.lemmas.Bool.{cases_lt}
use Rattle.std.proofs.lemmas.List.{get_or-map, get_or_default, length-map, length-set, same_lists}

-- of these elements the first i have their new values, and the others are as they were
pub record IsSetUpTo {X : Type 0} (f : X → X) (xs ys : List X) (i : ℕ) : Type 0 where
  pub length_same : length ys ≡ length xs
  pub below : (k : ℕ) (d : X) → k < i → k < length xs → get_or ys k d ≡ f (get_or xs k d)
  pub above : (k : ℕ) (d : X) → i ≤ k → get_or ys k d ≡ get_or xs k d

before_or_at : (k i : ℕ) → k < i + 1 → (k < i) ⊎ (k ≡ i)
before_or_at k i low = go (cases_lt k i)
  where
    go : (k < i) ⊎ (i ≤ k) → (k < i) ⊎ (k ≡ i)
    go (inl less) = inl less
    go (inr more) = inr (omega (arith, low, more))

module _ {X : Type 0} (f : X → X) (xs ys : List X) (i : ℕ) (done : IsSetUpTo f xs ys i) where
  -- the next one has its new value
  pub set_next : (y d : X) → i < length ys → y ≡ f (get_or ys i d) → IsSetUpTo f xs (set ys i y) (i + 1)
  set_next y d low is = record {
    length_same = length-set ys i y ∙ done.length_same;
    below = λ k e less inside. below k e inside (before_or_at k i less);
    above = λ k e more. (let ne : k ≢ i = omega (arith, more) in rw get_or-set_other (done.above k e (omega (arith, more))));
  }
    where
      below : (k : ℕ) (e : X) → k < length xs → (k < i) ⊎ (k ≡ i) → get_or (set ys i y) k e ≡ f (get_or xs k e)
      below k e inside (inl less) = let ne : k ≢ i = omega (arith, less) in rw get_or-set_other (done.below k e less inside)
      below k e inside (inr same) = subst (λ (n : ℕ). get_or (set ys i y) n e ≡ f (get_or xs n e)) (sym same)
          (rw get_or-set_same (is ∙ ap f (get_or_default ys i d e low ∙ done.above i e (omega arith))))

  -- all have
  pub all_set : length xs ≤ i → ys ≡ map f xs
  all_set all = same_lists ys (map f xs) (done.length_same ∙ sym (length-map xs f)) (λ k d low. done.below k d (omega (arith, all, low, done.length_same)) (omega (arith, low, done.length_same)) ∙ sym (get_or-map f xs k d d (omega (arith, low, done.length_same))))
