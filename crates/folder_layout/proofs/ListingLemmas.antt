-- What a walk over a piece of a folder's names has seen.
use Rattle.std.proofs.Common.{◌≡◌, ◌≢◌, ◌⊎◌, inl, inr, ℕ, zero, suc, ◌+◌, ◌<◌, ◌≤◌, List, length, get_or, Bool, true, false, ◌==◌, Option, Some, None, arith, ⊎_elim, refl, ap, subst}
use Rattle.std.proofs.lemmas.Bool.Decides.{nat_tests}
use Rattle.std.specs.declared.cmp.Ordering.{Ordering}
use Rattle.folder_layout.specs.Listing.{IsNameIn, name_in, IsAbove, AnswersAbove, IsAtMost, IsListed}

-- each name that ends before a place was looked at, and the next one begins at `start`
pub record Seen {E : Type 0} (order : E → E → Ordering) (stands : List ℕ → E → Type 0) (after : Option E) (piece : List ℕ) (first least : Option E) (start stop : ℕ) : Type 0 where
  pub behind : start ≤ stop
  pub plain : (k : ℕ) → start ≤ k → k < stop → get_or piece k 0 ≢ 0
  pub begins : (k : ℕ) → start ≡ suc k → get_or piece k 0 ≡ 0
  pub kept : (x : E) → IsAtMost order first x → IsAtMost order least x
  pub below : (x : E) (s e : ℕ) → IsNameIn piece s e → e < stop → stands (name_in piece s e) x → IsAbove order after x → IsAtMost order least x
  pub from : (x : E) → least ≡ Some x → (first ≡ Some x) ⊎ IsListed order stands after piece x

eq_of : (a b : ℕ) → (a == b) ≡ true → a ≡ b
eq_of a b same = grind (arith, nat_tests)

ne_of : (a b : ℕ) → (a == b) ≡ false → a ≢ b
ne_of a b differs = grind (arith, nat_tests)

apart : (a b : ℕ) → a ≢ b → (a < b) ⊎ (b < a)
apart zero zero differs = absurd (differs refl)
apart zero (suc b) differs = inl (omega arith)
apart (suc a) zero differs = inr (omega arith)
apart (suc a) (suc b) differs =
    ⊎_elim (λ (less : a < b). inl (omega (arith, less))) (λ (more : b < a). inr (omega (arith, more))) (apart a b (λ same. differs (ap suc same)))

module _ {E : Type 0} (order : E → E → Ordering) (stands : List ℕ → E → Type 0) (after : Option E) (piece : List ℕ) (first least : Option E) where
  pub seen_none : Seen order stands after piece first first 0 0
  seen_none = record {
    behind = omega arith;
    plain = λ k low high. absurd (omega arith);
    begins = λ k e. absurd (omega arith);
    kept = λ x most. most;
    below = λ x s e name before standing above. absurd (omega arith);
    from = λ x same. inl same;
  }

  module _ (start stop : ℕ) (seen : Seen order stands after piece first least start stop) where
    -- a byte other than zero ends no name
    pub seen_plain : get_or piece stop 0 ≢ 0 → Seen order stands after piece first least start (stop + 1)
    seen_plain other = record {
      behind = let b = seen.behind in omega arith;
      plain = λ k low high. go k low (k == stop) refl high;
      begins = seen.begins;
      kept = seen.kept;
      below = λ x s e name before standing above. ends x s e name (e == stop) refl before standing above;
      from = seen.from;
    }
      where
        go : (k : ℕ) → start ≤ k → (b : Bool) → (k == stop) ≡ b → k < stop + 1 → get_or piece k 0 ≢ 0
        go k low true same high = let e : k ≡ stop = eq_of k stop same in rw e other
        go k low false differs high = let n : k ≢ stop = ne_of k stop differs in seen.plain k low (omega (arith, n))

        ends : (x : E) (s e : ℕ) → IsNameIn piece s e → (b : Bool) → (e == stop) ≡ b → e < stop + 1 → stands (name_in piece s e) x → IsAbove order after x → IsAtMost order least x
        ends x s e name true same before standing above = let at : e ≡ stop = eq_of e stop same in absurd (other (rw (← at) name.ends))
        ends x s e name false differs before standing above = let n : e ≢ stop = ne_of e stop differs in seen.below x s e name (omega (arith, n)) standing above

    -- a name that ends here begins where the last one ended
    same_start : (s : ℕ) → IsNameIn piece s stop → s ≡ start
    same_start s name = go s name start seen.behind seen.plain seen.begins
      where
        go : (s : ℕ) → IsNameIn piece s stop → (start : ℕ) → start ≤ stop → ((k : ℕ) → start ≤ k → k < stop → get_or piece k 0 ≢ 0)
            → ((k : ℕ) → start ≡ suc k → get_or piece k 0 ≡ 0) → s ≡ start
        go zero name zero behind plain begins = refl
        go zero name (suc k) behind plain begins = absurd (name.plain k (omega arith) (omega arith) (begins k refl))
        go (suc j) name zero behind plain begins = let o = name.ordered in absurd (plain j (omega arith) (omega arith) (name.begins j refl))
        go (suc j) name (suc k) behind plain begins = order_by (j == k) refl
          where
            order_by : (b : Bool) → (j == k) ≡ b → suc j ≡ suc k
            order_by true same = ap suc (eq_of j k same)
            order_by false differs =
                let n : j ≢ k = ne_of j k differs in
                let o = name.ordered in
                absurd (⊎_elim
                (λ (less : j < k). name.plain k (omega arith) (omega arith) (begins k refl))
                (λ (more : k < j). plain j (omega arith) (omega arith) (name.begins j refl))
                (apart j k n))

    -- a zero byte ends a name, which is looked at
    pub seen_name : (next : Option E) → stop < length piece → get_or piece stop 0 ≡ 0
        → ((x : E) → IsAtMost order least x → IsAtMost order next x)
        → ((x : E) → stands (name_in piece start stop) x → IsAbove order after x → IsAtMost order next x)
        → ((x : E) → next ≡ Some x → (least ≡ Some x) ⊎ (stands (name_in piece start stop) x × IsAbove order after x))
        → Seen order stands after piece first next (stop + 1) (stop + 1)
    seen_name next within here kept below from = record {
      behind = omega arith;
      plain = λ k low high. absurd (omega arith);
      begins = λ k e. let same : k ≡ stop = omega (arith, e) in rw same here;
      kept = λ x most. kept x (seen.kept x most);
      below = λ x s e name before standing above. ends x s e name (e == stop) refl before standing above;
      from = λ x same. ⊎_elim (λ old. seen.from x old) (λ new. inr (record { start = start; stop = stop; name = this; standing = new.0; above = new.1 })) (from x same);
    }
      where
        this : IsNameIn piece start stop
        this = record { ordered = seen.behind; within = within; ends = here; plain = seen.plain; begins = seen.begins }

        ends : (x : E) (s e : ℕ) → IsNameIn piece s e → (b : Bool) → (e == stop) ≡ b → e < stop + 1 → stands (name_in piece s e) x → IsAbove order after x → IsAtMost order next x
        ends x s e name true same before standing above =
            let at : e ≡ stop = eq_of e stop same in
            let named : IsNameIn piece s stop = rw (← at) name in
            let begin : s ≡ start = same_start s named in
            below x (rw (← at, ← begin) standing) above
        ends x s e name false differs before standing above =
            let n : e ≢ stop = ne_of e stop differs in kept x (seen.below x s e name (omega (arith, n)) standing above)

  -- at the piece's end each of its names was looked at
  pub seen_all : (start : ℕ) → Seen order stands after piece first least start (length piece) → (x : E) → IsListed order stands after piece x → IsAtMost order least x
  seen_all start seen x listed = seen.below x listed.start listed.stop listed.name listed.name.within listed.standing listed.above

-- what is taken from a piece is above what was asked, as what was there before is
pub answers_above : {E : Type 0} (order : E → E → Ordering) (stands : List ℕ → E → Type 0) (after : Option E) (piece : List ℕ) (least next : Option E)
    → ((x : E) → next ≡ Some x → (least ≡ Some x) ⊎ IsListed order stands after piece x) → AnswersAbove order after least → AnswersAbove order after next
answers_above order stands after piece least None from above = tt
answers_above order stands after piece None (Some x) from above = ⊎_elim (λ old. absurd (some_is_none x old)) (λ (new : IsListed order stands after piece x). new.above) (from x refl)
  where
    some_is_none : {E : Type 0} (x : E) → None ≡ Some x → ⊥
    some_is_none x e = cc
answers_above order stands after piece (Some y) (Some x) from above =
    ⊎_elim (λ old. let same : y ≡ x = cc in subst (λ z. IsAbove order after z) same above) (λ (new : IsListed order stands after piece x). new.above) (from x refl)
