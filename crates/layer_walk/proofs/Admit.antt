-- One position more is clean.
use Rattle.std.proofs.Common.{◌≡◌, ℕ, suc, ◌*◌, ◌/◌, ◌%◌, ◌<◌, ◌≤◌, ◌⊎◌, inl, inr, Bool, true, false, Option, Some, None, refl, sym, ap, ◌∙◌, subst, arith, eq-eqb, nat_le}
use Rattle.std.specs.Prelude.{◌==◌, ◌||◌, if◌then◌else◌}
use Rattle.std.proofs.Math.Nat.{mul-div_cancel, div-add-mod}
use Rattle.std.proofs.Math.Bool.{or-true}
use Rattle.std.proofs.lemmas.Nat.{pow_pos}
use Rattle.std.proofs.lemmas.Bool.{cases_lt, eqb-true}
use Rattle.std.proofs.lemmas.Bool.Decides.{nat_tests}
use Rattle.sd_names.specs.declared.fault.LayerFault.{LayerFault}
use Rattle.sd_names.specs.declared.fault.LayerFault.TheVariants.{OutOfFile}
use Rattle.image_model.specs.Layer.{Tables, cluster_size}
use Rattle.image_model.specs.Soundness.{Item, own_fault, outside, names, item, NamedBefore}
use Rattle.layer_walk.specs.Items.{NamesCluster}
use Rattle.layer_walk.specs.Checked.{Checked, IsOnce, with_name}

-- ---- clusters

cluster_pos : (t : Tables) → 0 < cluster_size t
cluster_pos t = pow_pos t.header.cluster_bits

pub whole : (cluster place : ℕ) → place % cluster ≡ 0 → place / cluster * cluster ≡ place
whole cluster place even = let e = div-add-mod place cluster in omega arith

-- ---- an item without a fault of its own

both_none : (wrong out : Option LayerFault) → (elim wrong as (λ _. Option LayerFault) [ None ↦ out | Some fault ↦ Some fault ]) ≡ None → (wrong ≡ None) × (out ≡ None)
both_none None out e = (refl, e)
both_none (Some fault) out e = absurd cc

own_none : (size : ℕ) (x : Item) → own_fault size x ≡ None → (x.wrong ≡ None) × (outside size x.at x.name ≡ None)
own_none size x e = both_none x.wrong (outside size x.at x.name) e

named_inside : (size at place : ℕ) → outside size at (Some place) ≡ None → place < size
named_inside size at place = go (nat_le size place) refl
  where
    go : (b : Bool) → nat_le size place ≡ b → (if b then Some (OutOfFile at) else None) ≡ None → place < size
    go true e f = absurd cc
    go false e f = grind (arith, nat_tests)

pub inside : (size : ℕ) (x : Item) (place : ℕ) → own_fault size x ≡ None → x.name ≡ Some place → place < size
inside size x place fine is = named_inside size x.at place (ap (outside size x.at) (sym is) ∙ (own_none size x fine).1)

-- ---- what comes before the next position

earlier : (t : Tables) (capacity n place : ℕ) → NamedBefore t capacity n place → NamedBefore t capacity (suc n) place
earlier t capacity n place b = (b.0, omega (arith, b.1), b.2)

before_or_here : (t : Tables) (capacity n place : ℕ) → NamedBefore t capacity (suc n) place → NamedBefore t capacity n place ⊎ (names t capacity n ≡ Some place)
before_or_here t capacity n place b = go (cases_lt b.0 n)
  where
    go : (b.0 < n) ⊎ (n ≤ b.0) → NamedBefore t capacity n place ⊎ (names t capacity n ≡ Some place)
    go (inl lt) = inl (b.0, lt, b.2)
    go (inr le) = let same : b.0 ≡ n = omega (arith, b.1) in inr (ap (names t capacity) (sym same) ∙ b.2)

-- a set of clusters has a name's cluster exactly where the name was made before
taken : (t : Tables) (capacity n place : ℕ) (used : ℕ → Bool) → Checked t capacity n used → place % cluster_size t ≡ 0
    → used (place / cluster_size t) ≡ true → NamedBefore t capacity n place
taken t capacity n place used known aligned e =
    subst (NamedBefore t capacity n) (whole (cluster_size t) place aligned) (known.marked (place / cluster_size t) e)

free : (t : Tables) (capacity n place : ℕ) (used : ℕ → Bool) → Checked t capacity n used → place % cluster_size t ≡ 0
    → used (place / cluster_size t) ≡ false → NamedBefore t capacity n place → ⊥
free t capacity n place used known aligned e b =
    let f = known.unmarked (place / cluster_size t) (subst (NamedBefore t capacity n) (sym (whole (cluster_size t) place aligned)) b) in cc

module _ (t : Tables) (capacity n : ℕ) (used : ℕ → Bool) (known : Checked t capacity n used) (aligned : NamesCluster (cluster_size t) (item t capacity n)) where
  aligned_name : (place : ℕ) → own_fault t.file.size (item t capacity n) ≡ None → names t capacity n ≡ Some place → place % cluster_size t ≡ 0
  aligned_name place fine is = aligned place (own_none t.file.size (item t capacity n) fine).0 is

  pub named_before : (place : ℕ) → own_fault t.file.size (item t capacity n) ≡ None → names t capacity n ≡ Some place → used (place / cluster_size t) ≡ true → NamedBefore t capacity n place
  named_before place fine is u = taken t capacity n place used known (aligned_name place fine is) u

  -- the cluster that it names, if it does, wasn't named
  abbrev pub IsFree : Type 0
  IsFree = (place : ℕ) → names t capacity n ≡ Some place → used (place / cluster_size t) ≡ false

  once_here : own_fault t.file.size (item t capacity n) ≡ None → IsFree → IsOnce t capacity n
  once_here fine is_free = record { fine = fine; once = λ place is b. free t capacity n place used known (aligned_name place fine is) (is_free place is) b }

  marked_by : (o : Option ℕ) (c : ℕ) → names t capacity n ≡ o → own_fault t.file.size (item t capacity n) ≡ None
      → with_name (cluster_size t) used o c ≡ true → NamedBefore t capacity (suc n) (c * cluster_size t)
  marked_by None c is fine e = earlier t capacity n _ (known.marked c e)
  marked_by (Some place) c is fine e = go (c == place / cluster_size t) refl e
    where
      go : (b : Bool) → (c == place / cluster_size t) ≡ b → (b || used c) ≡ true → NamedBefore t capacity (suc n) (c * cluster_size t)
      go false f e = earlier t capacity n _ (known.marked c e)
      go true f e =
          let same : c ≡ place / cluster_size t = eqb-true c (place / cluster_size t) f in
          let full : place ≡ c * cluster_size t = sym (whole (cluster_size t) place (aligned_name place fine is)) ∙ ap (λ x. x * cluster_size t) (sym same) in
          (n, omega arith, is ∙ ap (λ x. Some x) full)

  with_old : (o : Option ℕ) (c : ℕ) → used c ≡ true → with_name (cluster_size t) used o c ≡ true
  with_old None c e = e
  with_old (Some place) c e = ap (λ b. (c == place / cluster_size t) || b) e ∙ or-true _

  with_new : (o : Option ℕ) (c : ℕ) → o ≡ Some (c * cluster_size t) → with_name (cluster_size t) used o c ≡ true
  with_new None c e = absurd cc
  with_new (Some place) c e =
      let same : place ≡ c * cluster_size t = cc in
      let f : c ≡ place / cluster_size t = sym (ap (λ x. x / cluster_size t) same ∙ mul-div_cancel c (cluster_pos t)) in
      ap (λ b. b || used c) (eq-eqb c (place / cluster_size t) f)

  pub advance : (used' : ℕ → Bool) → own_fault t.file.size (item t capacity n) ≡ None → IsFree
      → ((c : ℕ) → used' c ≡ with_name (cluster_size t) used (names t capacity n) c) → Checked t capacity (suc n) used'
  advance used' fine is_free marks = record {
    once = λ m lt. by_once m (cases_lt m n) lt;
    aligned = λ m place lt is. by_aligned m place (cases_lt m n) lt is;
    marked = λ c f. marked_by (names t capacity n) c refl fine (sym (marks c) ∙ f);
    unmarked = λ c b. marks c ∙ by_named c (before_or_here t capacity n (c * cluster_size t) b);
  }
    where
      by_once : (m : ℕ) → (m < n) ⊎ (n ≤ m) → m < suc n → IsOnce t capacity m
      by_once m (inl lt) l = known.once m lt
      by_once m (inr le) l = subst (IsOnce t capacity) (omega arith) (once_here fine is_free)

      by_aligned : (m place : ℕ) → (m < n) ⊎ (n ≤ m) → m < suc n → names t capacity m ≡ Some place → place % cluster_size t ≡ 0
      by_aligned m place (inl lt) l is = known.aligned m place lt is
      by_aligned m place (inr le) l is = let same : n ≡ m = omega arith in aligned_name place fine (ap (names t capacity) same ∙ is)

      by_named : (c : ℕ) → NamedBefore t capacity n (c * cluster_size t) ⊎ (names t capacity n ≡ Some (c * cluster_size t)) → with_name (cluster_size t) used (names t capacity n) c ≡ true
      by_named c (inl b) = with_old (names t capacity n) c (known.unmarked c b)
      by_named c (inr is) = with_new (names t capacity n) c is
