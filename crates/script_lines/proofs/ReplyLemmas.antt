-- Words behind spaces.
use Rattle.std.proofs.Common.{◌≡◌, ℕ, ◌+◌, ◌<◌, ◌++◌, List, [], ◌∷◌, length, take, map, get_or, sym, ◌∙◌, ap}
use Rattle.std.proofs.lemmas.List.{append_assoc, append-nil, map_more}
use Rattle.script_lines.specs.Reply.{spaced}

-- one more word
pub spaced_push : (ws : List (List ℕ)) (w : List ℕ) → spaced (ws ++ w ∷ []) ≡ spaced ws ++ 32 ∷ w
spaced_push [] w = ap (λ xs. 32 ∷ xs) (append-nil w)
spaced_push (v ∷ ws) w =
    ap (λ xs. 32 ∷ (v ++ xs)) (spaced_push ws w) ∙ ap (λ xs. 32 ∷ xs) (sym (append_assoc v (spaced ws) (32 ∷ w)))

-- the words of a list, one more of it
pub spaced_more : {A : Type 0} (f : A → List ℕ) (xs : List A) (i : ℕ) (d : A) → i < length xs
    → spaced (map f (take (i + 1) xs)) ≡ spaced (map f (take i xs)) ++ 32 ∷ f (get_or xs i d)
spaced_more f xs i d within = ap spaced (map_more f xs i d within) ∙ spaced_push (map f (take i xs)) (f (get_or xs i d))

-- pushed behind what was pushed before
pub pushed_more : {A : Type 0} (f : A → List ℕ) (xs : List A) (i : ℕ) (d : A) (old mid new : List ℕ) → i < length xs
    → mid ≡ old ++ spaced (map f (take i xs)) → new ≡ mid ++ 32 ∷ f (get_or xs i d)
    → new ≡ old ++ spaced (map f (take (i + 1) xs))
pushed_more f xs i d old mid new within before now =
    now ∙ ap (λ ys. ys ++ 32 ∷ f (get_or xs i d)) before
    ∙ append_assoc old (spaced (map f (take i xs))) (32 ∷ f (get_or xs i d))
    ∙ ap (λ ys. old ++ ys) (sym (spaced_more f xs i d within))
