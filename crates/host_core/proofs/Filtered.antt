-- Which tasks of a list pass a test.
use Rattle.std.proofs.Common.{◌≡◌, ◌⊎◌, Bool, true, false, List, [], ◌∷◌, refl, sym, ap, subst, ◌∙◌, inl, inr}
use Rattle.std.proofs.lemmas.Bool.{false≢true}
use Rattle.std.specs.List.{filter}
use Rattle.std.specs.Prelude.{Contains, if◌then◌else◌}
use Rattle.shared_disk.proofs.Outcomes.{cons_cases, contains_here, contains_more, nothing_in}
use Rattle.host_core.specs.Memory.{Listed}

filtered_by : (f : Listed → Bool) (a x : Listed) (xs : List Listed) (b : Bool) → f x ≡ b → (Contains (filter f xs) a → Contains xs a × (f a ≡ true))
    → Contains (if b then x ∷ filter f xs else filter f xs) a → Contains (x ∷ xs) a × (f a ≡ true)
filtered_by f a x xs false e rest among = let was = rest among in (contains_more x a xs was.0, was.1)
filtered_by f a x xs true e rest among = first (cons_cases x a (filter f xs) among)
  where
    first : (x ≡ a) ⊎ Contains (filter f xs) a → Contains (x ∷ xs) a × (f a ≡ true)
    first (inl same) = (subst (λ (u : Listed). Contains (x ∷ xs) u) same (contains_here x xs), ap f (sym same) ∙ e)
    first (inr more) = let was = rest more in (contains_more x a xs was.0, was.1)

pub filtered : (f : Listed → Bool) (a : Listed) (xs : List Listed) → Contains (filter f xs) a → Contains xs a × (f a ≡ true)
filtered f a [] among = absurd (nothing_in a among)
filtered f a (x ∷ xs) among = filtered_by f a x xs (f x) refl (filtered f a xs) among

passing_by : (f : Listed → Bool) (a x : Listed) (xs : List Listed) (b : Bool) → f x ≡ b → f a ≡ true → (Contains xs a → Contains (filter f xs) a)
    → (x ≡ a) ⊎ Contains xs a → Contains (if b then x ∷ filter f xs else filter f xs) a
passing_by f a x xs true e holds rest (inl same) = subst (λ (u : Listed). Contains (x ∷ filter f xs) u) same (contains_here x (filter f xs))
passing_by f a x xs true e holds rest (inr more) = contains_more x a (filter f xs) (rest more)
passing_by f a x xs false e holds rest (inl same) = absurd (false≢true (sym e ∙ ap f same ∙ holds))
passing_by f a x xs false e holds rest (inr more) = rest more

pub passing : (f : Listed → Bool) (a : Listed) (xs : List Listed) → f a ≡ true → Contains xs a → Contains (filter f xs) a
passing f a [] holds among = absurd (nothing_in a among)
passing f a (x ∷ xs) holds among = passing_by f a x xs (f x) refl holds (passing f a xs holds) (cons_cases x a xs among)
