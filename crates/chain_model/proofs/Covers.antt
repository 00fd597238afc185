-- A write to a covered sector changes what no other volume reads.
use Rattle.std.proofs.Common.{◌≡◌, ◌⊎◌, ℕ, true, List, [], ◌∷◌, Option, Some, unwrap_or, refl, sym, ap, ◌∙◌, inl, inr}
use Rattle.std.specs.Prelude.{◌≢◌}
use Rattle.sd_names.specs.declared.id.Id.{Id}
use Rattle.chain_model.specs.Folder.{Volumes}
use Rattle.chain_model.specs.Records.{Records, is_legal}
use Rattle.chain_model.specs.Chain.{IsBelow, path_of}
use Rattle.chain_model.specs.Own.{own}
use Rattle.chain_model.specs.Flat.{first_of, flat}
use Rattle.chain_model.specs.Covered.{IsClear, IsCovered}

first_clear : (r : Records) (x y : Volumes) (b : Id) (k : ℕ) (ws : List Id) → ((w : Id) → w ≢ b → own r y w k ≡ own r x w k) → IsClear r x b k ws → first_of r y ws k ≡ first_of r x ws k
first_clear r x y b k [] same clear = refl
first_clear r x y b k (w ∷ ws) same clear = go (same w clear.0) clear.1 (λ rest. first_clear r x y b k ws same rest)
  where
    go : own r y w k ≡ own r x w k → ((s : List ℕ) × (own r x w k ≡ Some s)) ⊎ IsClear r x b k ws → (IsClear r x b k ws → first_of r y ws k ≡ first_of r x ws k)
        → unwrap_or (own r y w k) (first_of r y ws k) ≡ unwrap_or (own r x w k) (first_of r x ws k)
    go e (inl held) more =
        ap (λ (o : Option (List ℕ)). unwrap_or o (first_of r y ws k)) (e ∙ held.1) ∙ sym (ap (λ (o : Option (List ℕ)). unwrap_or o (first_of r x ws k)) held.1)
    go e (inr rest) more = ap (λ (o : Option (List ℕ)). unwrap_or o (first_of r y ws k)) e ∙ ap (λ (s : List ℕ). unwrap_or (own r x w k) s) (more rest)

pub others_read_alike : (r : Records) (x y : Volumes) (b u : Id) (us : List Id) (k : ℕ) → IsCovered r b k x → ((w : Id) → w ≢ b → own r y w k ≡ own r x w k)
    → is_legal r u ≡ true → u ≢ b → IsBelow r u us → flat r y u us k ≡ flat r x u us k
others_read_alike r x y b u us k covered same legal other below = first_clear r x y b k (path_of r u us) same (covered u us legal other below)
