-- A part is laid in several steps.
use Rattle.std.proofs.Common.{◌≡◌, ℕ, List, [], ◌∷◌, Option, refl, sym, ◌∙◌, inl, inr}
use Rattle.std.specs.Prelude.{◌≢◌}
use Rattle.sd_names.specs.declared.id.Id.{Id}
use Rattle.chain_model.specs.Folder.{Volumes}
use Rattle.chain_model.specs.Records.{Records}
use Rattle.chain_model.specs.Chain.{path_of}
use Rattle.chain_model.specs.Covered.{IsClear}
use Rattle.chain_model.specs.Own.{own}
use Rattle.chain_laws.specs.Laid.{IsPartCovered, Laying}
use Rattle.chain_laws.specs.Written.{IsHeld, IsWritten}

pub written_itself : (l : Laying) (x : Volumes) → IsWritten l x x
written_itself l x = record { others = λ w other k. refl; held = λ k s. inl refl }

held_through : (l : Laying) (k : ℕ) (a b c : Option (List ℕ)) → IsHeld l k a b → IsHeld l k b c → IsHeld l k a c
held_through l k a b c (inl e) (inl f) = inl (f ∙ e)
held_through l k a b c (inr (inl h)) (inl f) = inr (inl (h.0, f ∙ h.1))
held_through l k a b c (inr (inr h)) (inl f) = inr (inr (h.0, f ∙ h.1))
held_through l k a b c first (inr (inl h)) = inr (inl h)
held_through l k a b c (inl e) (inr (inr h)) = inr (inr (sym e ∙ h.0, h.1))
held_through l k a b c (inr (inl g)) (inr (inr h)) = let none = h.0 in let some = g.1 in absurd cc
held_through l k a b c (inr (inr g)) (inr (inr h)) = let none = h.0 in let some = g.1 in absurd cc

pub written_through : (l : Laying) (x y z : Volumes) → IsWritten l x y → IsWritten l y z → IsWritten l x z
written_through l x y z first second = record {
  others = λ w other k. second.others w other k ∙ first.others w other k;
  held = λ k s. held_through l k (own l.records x l.volume k) (own l.records y l.volume k) (own l.records z l.volume k) (first.held k s) (second.held k s);
}

clear_still : (r : Records) (x y : Volumes) (b : Id) (k : ℕ) (ws : List Id) → ((w : Id) → w ≢ b → own r y w k ≡ own r x w k) → IsClear r x b k ws → IsClear r y b k ws
clear_still r x y b k [] same clear = tt
clear_still r x y b k (w ∷ ws) same clear =
    (clear.0, elim clear.1 [ inl held ↦ inl (held.0, same w clear.0 ∙ held.1) | inr rest ↦ inr (clear_still r x y b k ws same rest) ])

pub still_covered : (l : Laying) (x y : Volumes) → IsPartCovered l x → IsWritten l x y → IsPartCovered l y
still_covered l x y covered written k inside u us legal other below =
    clear_still l.records x y l.volume k (path_of l.records u us) (λ w apart. written.others w apart k) (covered k inside u us legal other below)
