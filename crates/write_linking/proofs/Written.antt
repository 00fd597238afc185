-- A file is written in several steps.
use Rattle.std.proofs.Common.{ℕ, List, Option, ◌∙◌, sym, inl, inr}
use Rattle.shared_disk.specs.Content.{File}
use Rattle.chain_model.specs.Own.{own_in}
use Rattle.chain_laws.specs.Laid.{Laying}
use Rattle.chain_laws.specs.Written.{FileWritten, IsHeld}

held_on : (l : Laying) (k : ℕ) (a b c : Option (List ℕ)) → IsHeld l k a b → IsHeld l k b c → IsHeld l k a c
held_on l k a b c (inl e) (inl f) = inl (f ∙ e)
held_on l k a b c (inr (inl h)) (inl f) = inr (inl (h.0, f ∙ h.1))
held_on l k a b c (inr (inr h)) (inl f) = inr (inr (h.0, f ∙ h.1))
held_on l k a b c first (inr (inl h)) = inr (inl h)
held_on l k a b c (inl e) (inr (inr h)) = inr (inr (sym e ∙ h.0, h.1))
held_on l k a b c (inr (inl g)) (inr (inr h)) = let none = h.0 in let some = g.1 in absurd cc
held_on l k a b c (inr (inr g)) (inr (inr h)) = let none = h.0 in let some = g.1 in absurd cc

pub written_on : (l : Laying) (f g k : File) → FileWritten l f g → FileWritten l g k → FileWritten l f k
written_on l f g k first second out is =
    let b = second out is in
    let a = first b.0 b.1 in
    (a.0, a.1, λ x says n low. held_on l n (own_in x a.0 n) (own_in x b.0 n) (own_in x out n) (a.2 x says n low) (b.2 x says n low))
