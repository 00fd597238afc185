-- There is one first fault at most.
use Rattle.std.proofs.Common.{◌≡◌, ℕ, ◌<◌, ◌≤◌, ◌⊎◌, inl, inr, zero, suc, ◌/◌, Bool, true, false, eqb, Option, Some, None, Result, Ok, Err, refl, sym, ap, ◌∙◌, subst, arith}
use Rattle.std.specs.Prelude.{MatchResult}
use Rattle.std.proofs.lemmas.Bool.{cases_lt, eqb-true}
use Rattle.std.proofs.lemmas.Bool.Decides.{nat_tests}
use Rattle.sd_names.specs.declared.fault.LayerFault.{LayerFault}
use Rattle.sd_names.specs.declared.fault.LayerFault.TheVariants.{Shared, LowRefcount}
use Rattle.qcow_format.specs.declared.header.Header.{Header}
use Rattle.image_model.specs.File.{File}
use Rattle.image_model.specs.Layer.{Tables, count_of, cluster_size}
use Rattle.image_model.specs.Soundness.{IsClean, FaultAt, own, again, uncounted, FirstFault, NamedBefore, HasFault, IsSound, layer_header, item, names, own_fault}

pub clean_without_fault : (t : Tables) (capacity n : ℕ) (fault : LayerFault) → IsClean t capacity n → FaultAt t capacity n fault → ⊥
clean_without_fault t capacity n fault clean (own e) = let f = clean.fine in cc
clean_without_fault t capacity n _ clean (again {place = place} f e before) = clean.once place e before
clean_without_fault t capacity n _ clean (uncounted {place = place} f e first none) = let c = clean.counted place e in omega arith

same_place : (p q : ℕ) (o : Option ℕ) → o ≡ Some p → o ≡ Some q → p ≡ q
same_place p q o e f = cc

no_name : (p : ℕ) (o : Option ℕ) → o ≡ None → o ≡ Some p → ⊥
no_name p o e f = cc

one_fault : (t : Tables) (capacity n : ℕ) (a b : LayerFault) → FaultAt t capacity n a → FaultAt t capacity n b → a ≡ b
one_fault t capacity n a b (own e) (own f) = cc
one_fault t capacity n a _ (own e) (again fine f before) = absurd cc
one_fault t capacity n a _ (own e) (uncounted fine f first none) = absurd cc
one_fault t capacity n _ b (again fine e before) (own f) = absurd cc
one_fault t capacity n _ _ (again {place = p} fine e before) (again {place = q} fine' f before') = let same = same_place p q _ e f in cc
one_fault t capacity n _ _ (again {place = p} fine e before) (uncounted {place = q} fine' f first none) =
    absurd (first (subst (λ (x : ℕ). NamedBefore t capacity n x) (same_place p q _ e f) before))
one_fault t capacity n _ b (uncounted fine e first none) (own f) = absurd cc
one_fault t capacity n _ _ (uncounted {place = p} fine e first none) (again {place = q} fine' f before) =
    absurd (first (subst (λ (x : ℕ). NamedBefore t capacity n x) (sym (same_place p q _ e f)) before))
one_fault t capacity n _ _ (uncounted {place = p} fine e first none) (uncounted {place = q} fine' f first' none') = let same = same_place p q _ e f in cc

first_is_one : (t : Tables) (capacity : ℕ) (a b : LayerFault) → FirstFault t capacity a → FirstFault t capacity b → a ≡ b
first_is_one t capacity a b x y = go (cases_lt x.at y.at) (cases_lt y.at x.at)
  where
    go : (x.at < y.at) ⊎ (y.at ≤ x.at) → (y.at < x.at) ⊎ (x.at ≤ y.at) → a ≡ b
    go (inl lt) rest = absurd (clean_without_fault t capacity x.at a (y.before x.at lt) x.here)
    go (inr le) (inl lt) = absurd (clean_without_fault t capacity y.at b (x.before y.at lt) y.here)
    go (inr le) (inr le') =
        let same : x.at ≡ y.at = omega arith in
        one_fault t capacity y.at a b (subst (λ (n : ℕ). FaultAt t capacity n a) same x.here) y.here

pub one_at_most : (file : File) (capacity : ℕ) (a b : LayerFault) → HasFault file capacity a → HasFault file capacity b → a ≡ b
one_at_most file capacity a b = go (layer_header file capacity)
  where
    go : (r : Result Header LayerFault)
        → MatchResult r (λ h. FirstFault (record { header = h; file = file }) capacity a) (λ e. e ≡ a)
        → MatchResult r (λ h. FirstFault (record { header = h; file = file }) capacity b) (λ e. e ≡ b)
        → a ≡ b
    go (Ok h) x y = first_is_one (record { header = h; file = file }) capacity a b x y
    go (Err e) x y = sym x ∙ y

-- ---- and a layer without one is sound

is_named : (o : Option ℕ) (place : ℕ) → (o ≡ Some place) ⊎ (o ≡ Some place → ⊥)
is_named None place = inr (λ e. cc)
is_named (Some p) place = go (eqb p place) refl
  where
    go : (b : Bool) → eqb p place ≡ b → (Some p ≡ Some place) ⊎ (Some p ≡ Some place → ⊥)
    go true e = let same = eqb-true p place e in inl (ap (λ (x : ℕ). Some x) same)
    go false e = inr (λ (f : Some p ≡ Some place). let same : p ≡ place = cc in grind (arith, nat_tests))

before_or_here : (t : Tables) (capacity n place : ℕ) → NamedBefore t capacity (suc n) place → (NamedBefore t capacity n place → ⊥) → (names t capacity n ≡ Some place → ⊥) → ⊥
before_or_here t capacity n place b nowhere other = go (cases_lt b.0 n)
  where
    go : (b.0 < n) ⊎ (n ≤ b.0) → ⊥
    go (inl lt) = nowhere (b.0, lt, b.2)
    go (inr le) = let same : b.0 ≡ n = omega (arith, b.1) in other (rw same at b.2)

-- a place was named before a position, or wasn't
pub named_before : (t : Tables) (capacity n place : ℕ) → NamedBefore t capacity n place ⊎ (NamedBefore t capacity n place → ⊥)
named_before t capacity zero place = inr (λ b. omega (arith, b.1))
named_before t capacity (suc n) place = go (named_before t capacity n place) (is_named (names t capacity n) place)
  where
    go : NamedBefore t capacity n place ⊎ (NamedBefore t capacity n place → ⊥)
        → (names t capacity n ≡ Some place) ⊎ (names t capacity n ≡ Some place → ⊥)
        → NamedBefore t capacity (suc n) place ⊎ (NamedBefore t capacity (suc n) place → ⊥)
    go (inl b) here = inl (b.0, omega (arith, b.1), b.2)
    go (inr nowhere) (inl here) = inl (n, omega arith, here)
    go (inr nowhere) (inr other) = inr (λ b. before_or_here t capacity n place b nowhere other)

Fault : Tables → ℕ → ℕ → Type 0
Fault t capacity n = (fault : LayerFault) × FaultAt t capacity n fault

by_count : (t : Tables) (capacity n : ℕ) → own_fault t.file.size (item t capacity n) ≡ None → (place : ℕ) → names t capacity n ≡ Some place
    → (NamedBefore t capacity n place → ⊥) → (k : ℕ) → count_of t (place / cluster_size t) ≡ k → IsClean t capacity n ⊎ Fault t capacity n
unfolding Fault
by_count t capacity n fine place e first zero none = inr (LowRefcount place, uncounted fine e first none)
by_count t capacity n fine place e first (suc k) some = inl (record {
  fine = fine;
  once = λ p f before. first (subst (λ (x : ℕ). NamedBefore t capacity n x) (same_place p place (names t capacity n) f e) before);
  counted = λ p f. let same = same_place p place (names t capacity n) f e in rw (same, some) (omega arith);
})

by_name : (t : Tables) (capacity n : ℕ) → own_fault t.file.size (item t capacity n) ≡ None → (o : Option ℕ) → names t capacity n ≡ o → IsClean t capacity n ⊎ Fault t capacity n
unfolding Fault
by_name t capacity n fine None e = inl (record {
  fine = fine;
  once = λ p f before. absurd (no_name p (names t capacity n) e f);
  counted = λ p f. absurd (no_name p (names t capacity n) e f);
})
by_name t capacity n fine (Some place) e = go (named_before t capacity n place)
  where
    go : NamedBefore t capacity n place ⊎ (NamedBefore t capacity n place → ⊥) → IsClean t capacity n ⊎ Fault t capacity n
    go (inl before) = inr (Shared place, again fine e before)
    go (inr first) = by_count t capacity n fine place e first (count_of t (place / cluster_size t)) refl

one_more : (t : Tables) (capacity n m : ℕ) → ((k : ℕ) → k < n → IsClean t capacity k) → IsClean t capacity n → (m < n) ⊎ (n ≤ m) → m < suc n → IsClean t capacity m
one_more t capacity n m clean here (inl lt) below = clean m lt
one_more t capacity n m clean here (inr le) below = let same : n ≡ m = omega arith in subst (λ (k : ℕ). IsClean t capacity k) same here

-- a position is clean or has a fault
clean_or_fault : (t : Tables) (capacity n : ℕ) → IsClean t capacity n ⊎ Fault t capacity n
unfolding Fault
clean_or_fault t capacity n = by_itself (own_fault t.file.size (item t capacity n)) refl
  where
    by_itself : (o : Option LayerFault) → own_fault t.file.size (item t capacity n) ≡ o → IsClean t capacity n ⊎ Fault t capacity n
    by_itself (Some fault) e = inr (fault, own e)
    by_itself None e = by_name t capacity n e (names t capacity n) refl

all_clean : (t : Tables) (capacity n : ℕ) → ((m : ℕ) → m < n → IsClean t capacity m) ⊎ ((fault : LayerFault) × FirstFault t capacity fault)
unfolding Fault
all_clean t capacity zero = inl (λ m lt. absurd (omega arith))
all_clean t capacity (suc n) = go (all_clean t capacity n) (clean_or_fault t capacity n)
  where
    go : ((m : ℕ) → m < n → IsClean t capacity m) ⊎ ((fault : LayerFault) × FirstFault t capacity fault) → IsClean t capacity n ⊎ Fault t capacity n
        → ((m : ℕ) → m < suc n → IsClean t capacity m) ⊎ ((fault : LayerFault) × FirstFault t capacity fault)
    go (inr first) here = inr first
    go (inl clean) (inr fault) = inr (fault.0, record { at = n; here = fault.1; before = clean })
    go (inl clean) (inl here) = inl (λ m lt. one_more t capacity n m clean here (cases_lt m n) lt)

clean_without_first : (t : Tables) (capacity : ℕ) → ((fault : LayerFault) → FirstFault t capacity fault → ⊥) → (n : ℕ) → IsClean t capacity n
clean_without_first t capacity none n = go (all_clean t capacity (suc n))
  where
    go : ((m : ℕ) → m < suc n → IsClean t capacity m) ⊎ ((fault : LayerFault) × FirstFault t capacity fault) → IsClean t capacity n
    go (inl clean) = clean n (omega arith)
    go (inr first) = absurd (none first.0 first.1)

pub sound_if_none : (file : File) (capacity : ℕ) → ((fault : LayerFault) → HasFault file capacity fault → ⊥) → IsSound file capacity
sound_if_none file capacity none = go (layer_header file capacity) none
  where
    go : (r : Result Header LayerFault)
        → ((fault : LayerFault) → MatchResult r (λ h. FirstFault (record { header = h; file = file }) capacity fault) (λ e. e ≡ fault) → ⊥)
        → MatchResult r (λ h. (n : ℕ) → IsClean (record { header = h; file = file }) capacity n) (λ e. ⊥)
    go (Ok h) none = clean_without_first (record { header = h; file = file }) capacity none
    go (Err e) none = none e refl
