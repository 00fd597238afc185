-- Named clusters are used, and a write that is short wants one length.
use Rattle.std.proofs.Common.{◌≡◌, ℕ, zero, suc, ◌+◌, ◌*◌, ◌/◌, ◌%◌, ◌^◌, ◌<◌, ◌≤◌, ◌⊎◌, inl, inr, min, Bool, true, refl, sym, ap, subst, arith, nat_lt, not}
use Rattle.std.specs.Prelude.{◌||◌, ◌&&◌, ◌==◌, if◌then◌else◌}
use Rattle.std.proofs.Math.Nat.{mul-div_cancel}
use Rattle.std.proofs.lemmas.Nat.{pow_pos, le-div}
use Rattle.std.proofs.lemmas.Bool.{cases_lt}
use Rattle.std.proofs.lemmas.Bool.Decides.{nat_tests}
use Rattle.image_model.specs.Layer.{Tables, block_place, block_span, cluster_size, count_of, is_used}
use Rattle.image_model.specs.Soundness.{IsClean}
use Rattle.image_model.specs.Room.{IsWanted, Named, Room, enough, free_below, how_many, never}

-- ---- named clusters

some_count : (n : ℕ) → 0 < n → nat_lt 0 n ≡ true
some_count n lt = grind (arith, nat_tests)

pub used_if_named : (t : Tables) (capacity c : ℕ) → ((n : ℕ) → IsClean t capacity n) → Named t capacity c → is_used t c ≡ true
unfolding is_used
used_if_named t capacity c clean named =
    let here : c * cluster_size t / cluster_size t ≡ c = mul-div_cancel c (pow_pos t.header.cluster_bits) in
    let some : 0 < count_of t c = subst (λ x. 0 < count_of t x) here ((clean named.0).counted (c * cluster_size t) named.1) in
    ap (λ b. b || (c % block_span t == 0 && block_place t (c / block_span t) == 0)) (some_count (count_of t c) some)

-- ---- how many there are

one_more : (P : ℕ → Bool) (m : ℕ) → how_many P (suc m) ≡ how_many P m + (if P m then 1 else 0)
unfolding how_many
one_more P m = refl

how_many_grow : (P : ℕ → Bool) (n m : ℕ) → n ≤ m → how_many P n ≤ how_many P m
how_many_grow P n zero le = let same : n ≡ zero = omega (arith, le) in subst (λ x. how_many P x ≤ how_many P zero) (sym same) (omega arith)
how_many_grow P n (suc m) le = go (cases_lt m n) (how_many_grow P n m)
  where
    go : (m < n) ⊎ (n ≤ m) → (n ≤ m → how_many P n ≤ how_many P m) → how_many P n ≤ how_many P (suc m)
    go (inl lt) grow = let same : n ≡ suc m = omega (arith, le, lt) in subst (λ x. how_many P x ≤ how_many P (suc m)) (sym same) (omega arith)
    go (inr less) grow = let more = grow less in let e = one_more P m in omega (arith, more, e)

-- ---- the length that would do

same_end : (r : Room) (need a b : ℕ) → need ≤ free_below r a → ((less : ℕ) → less < b → free_below r less < need) → b ≤ a
same_end r need a b some least = go (cases_lt a b)
  where
    go : (a < b) ⊎ (b ≤ a) → b ≤ a
    go (inl lt) = let few = least a lt in absurd (omega (arith, few, some))
    go (inr le) = le

not_never : (r : Room) (need end bound : ℕ) → 0 < r.cluster → need ≤ free_below r end → end * r.cluster ≤ bound → free_below r (bound / r.cluster) < need → ⊥
not_never r need end bound pos some within few =
    let low : end ≤ bound / r.cluster = le-div end bound r.cluster pos within in
    let more = how_many_grow (λ c. not (r.used c)) end (bound / r.cluster) low in
    omega (arith, few, some, more)

pub one_wanted : (r : Room) (need a b : ℕ) → 0 < r.cluster → IsWanted r need a → IsWanted r need b → a ≡ b
one_wanted r need _ _ pos (enough {end = x} some least within) (enough {end = y} some' least' within') =
    let le = same_end r need x y some least' in
    let ge = same_end r need y x some' least in
    ap (λ n. n * r.cluster) (omega (arith, le, ge))
one_wanted r need _ _ pos (enough {end = x} some least within) (never few) = absurd (not_never r need x (min r.covered (2 ^ 56)) pos some within few)
one_wanted r need _ _ pos (never few) (enough {end = x} some least within) = absurd (not_never r need x (min r.covered (2 ^ 56)) pos some within few)
one_wanted r need _ _ pos (never few) (never few') = refl
