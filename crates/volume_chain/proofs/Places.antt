-- A volume that is put back where it stood.
use Rattle.std.proofs.Common.{◌≡◌, ℕ, zero, suc, List, [], ◌∷◌, Some, ap, sym}
use Rattle.std.specs.Prelude.{slice_get, slice_set}
use Rattle.std.proofs.lemmas.Option.{none-some, same_Some}

pub put_back : {A : Type 0} (xs : List A) (i : ℕ) (x y : A) → slice_get xs i ≡ Some y → slice_set (slice_set xs i x) i y ≡ xs
put_back {A = A} [] i x y e = absurd (none-some y e)
put_back {A = A} (z ∷ zs) zero x y e = ap (λ (w : A). w ∷ zs) (sym (same_Some z y e))
put_back {A = A} (z ∷ zs) (suc i) x y e = ap (λ (ws : List A). z ∷ ws) (put_back zs i x y e)
