-- The walk over a head's extensions, one at a time.
use Rattle.std.proofs.Common.{◌≡◌, ℕ, zero, suc, ◌+◌, ◌<◌, ◌≤◌, Bool, true, false, eqb, leb, List, [], ◌∷◌, length, refl, sym, ap, ◌∙◌, arith}
use Rattle.std.specs.Prelude.{not, ◌&&◌}
use Rattle.std.proofs.lemmas.Bool.{lt-ltb}
use Rattle.std.proofs.lemmas.Bool.Decides.{nat_tests}
use Rattle.qcow_format.specs.Bytes.{number}
use Rattle.qcow_format.specs.Extension.{Placed, placed_at, end_of, is_extension, extensions_up_to, extensions_at, extensions_of}

and_right : (a b : Bool) → (a && b) ≡ true → b ≡ true
and_right true b e = e
and_right false b e = absurd cc

-- what stands at a place ends within the head
pub extension_within : (head : List ℕ) (at : ℕ) → is_extension head at ≡ true → end_of (placed_at head at) ≤ length head
extension_within head at e =
    let fits = and_right (not (eqb (number 4 at head) 0)) (leb (end_of (placed_at head at)) (length head)) e in
    grind (arith, nat_tests)

and_false : (a b : Bool) → b ≡ false → (a && b) ≡ false
and_false true b e = e
and_false false b e = refl

no_room : (head : List ℕ) (at : ℕ) → length head ≤ at → is_extension head at ≡ false
no_room head at le =
    and_false (not (eqb (number 4 at head) 0)) (leb (end_of (placed_at head at)) (length head)) (grind (arith, nat_tests))

-- none stands there, and so none from there on
pub up_to-none : (n : ℕ) (head : List ℕ) (at : ℕ) → is_extension head at ≡ false → extensions_up_to n head at ≡ []
unfolding extensions_up_to
up_to-none zero head at e = refl
up_to-none (suc n) head at e = rw e refl

up_to-some : (n : ℕ) (head : List ℕ) (at : ℕ) → is_extension head at ≡ true → extensions_up_to (suc n) head at ≡ placed_at head at ∷ extensions_up_to n head (end_of (placed_at head at))
unfolding extensions_up_to
up_to-some n head at e = rw e refl

step : (n m : ℕ) (head : List ℕ) (at : ℕ) (b : Bool) → is_extension head at ≡ b
    → (is_extension head at ≡ true → extensions_up_to n head (end_of (placed_at head at)) ≡ extensions_up_to m head (end_of (placed_at head at)))
    → extensions_up_to (suc n) head at ≡ extensions_up_to (suc m) head at
step n m head at true e rest =
    up_to-some n head at e ∙ ap (λ (es : List Placed). placed_at head at ∷ es) (rest e) ∙ sym (up_to-some m head at e)
step n m head at false e rest = up_to-none (suc n) head at e ∙ sym (up_to-none (suc m) head at e)

-- the number of steps doesn't matter where there are enough
up_to-enough : (n m : ℕ) (head : List ℕ) (at : ℕ) → length head ≤ at + n → length head ≤ at + m → extensions_up_to n head at ≡ extensions_up_to m head at
up_to-enough zero m head at p q =
    let none = no_room head at (omega arith) in
    up_to-none 0 head at none ∙ sym (up_to-none m head at none)
up_to-enough (suc n) zero head at p q =
    let none = no_room head at (omega arith) in
    up_to-none (suc n) head at none ∙ sym (up_to-none 0 head at none)
up_to-enough (suc n) (suc m) head at p q =
    step n m head at (is_extension head at) refl (λ is. let within = extension_within head at is in up_to-enough n m head (end_of (placed_at head at)) (omega arith) (omega arith))

pub extensions_at-none : (head : List ℕ) (at : ℕ) → is_extension head at ≡ false → extensions_at head at ≡ []
extensions_at-none head at e = up_to-none (length head) head at e

pub extensions_at-some : (head : List ℕ) (at : ℕ) → is_extension head at ≡ true → extensions_at head at ≡ placed_at head at ∷ extensions_at head (end_of (placed_at head at))
extensions_at-some head at e =
    up_to-enough (length head) (suc (length head)) head at (omega arith) (omega arith)
    ∙ up_to-some (length head) head at e

pub ruleset walk = (extensions_at-none, extensions_at-some)

pub extensions_of-short : (head : List ℕ) → length head < 512 → extensions_of head ≡ []
extensions_of-short head lt = rw (lt-ltb (length head) 512 lt) refl
