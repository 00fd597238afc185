-- The steps of a task: the last of the first so many, and those behind it.
use Rattle.std.proofs.Common.{◌≡◌, ℕ, zero, suc, ◌+◌, ◌-◌, ◌≤◌, List, [], ◌∷◌, ◌++◌, length, take, drop, refl, sym, ap, ◌∙◌, subst, arith}
use Rattle.std.specs.Prelude.{Contains}
use Rattle.std.proofs.lemmas.List.{take-append-drop}
use Rattle.shared_disk.proofs.Outcomes.{contains_here, contains_more}
use Rattle.task_store.specs.declared.undo.Undo.{Undo}

not_nothing : (before : List Undo) (step : Undo) → ◌≡◌ {A = List Undo} [] (before ++ step ∷ []) → ⊥
not_nothing [] step e = cc
not_nothing (x ∷ xs) step e = cc

-- of no steps none is the last
pub none_last : (steps before : List Undo) (step : Undo) → take 0 steps ≡ before ++ step ∷ [] → ⊥
none_last steps before step is = not_nothing before step is

append_assoc : (xs ys zs : List Undo) → (xs ++ ys) ++ zs ≡ xs ++ (ys ++ zs)
append_assoc [] ys zs = refl
append_assoc (x ∷ xs) ys zs = ap (λ (l : List Undo). x ∷ l) (append_assoc xs ys zs)

-- the whole list, round the last of the first so many
pub split_at : (steps before : List Undo) (count : ℕ) (step : Undo) → take count steps ≡ before ++ step ∷ [] → steps ≡ before ++ step ∷ drop count steps
split_at steps before count step is =
    sym (take-append-drop count steps) ∙ ap (λ (l : List Undo). l ++ drop count steps) is ∙ append_assoc before (step ∷ []) (drop count steps)

drop_before : (before behind : List Undo) (n : ℕ) → length before ≡ n → drop n (before ++ behind) ≡ behind
drop_before [] behind zero is = refl
drop_before [] behind (suc n) is = absurd (omega (arith, is))
drop_before (x ∷ xs) behind zero is = absurd (omega (arith, is))
drop_before (x ∷ xs) behind (suc n) is = drop_before xs behind n (less (length xs) n is)
  where
    less : (a n : ℕ) → suc a ≡ suc n → a ≡ n
    less a n e = omega (arith, e)

length_both : (xs ys : List Undo) → length (xs ++ ys) ≡ length xs + length ys
length_both [] ys = omega arith
length_both (x ∷ xs) ys = ap (λ (n : ℕ). suc n) (length_both xs ys) ∙ omega arith

length_take : (steps : List Undo) (count : ℕ) → count ≤ length steps → length (take count steps) ≡ count
length_take steps zero few = refl
length_take [] (suc n) few = absurd (omega (arith, few))
length_take (x ∷ xs) (suc n) few = ap (λ (m : ℕ). suc m) (length_take xs n (omega (arith, few)))

-- behind one step less stand that step and the others
pub behind_less : (steps before : List Undo) (count : ℕ) (step : Undo) → count ≤ length steps → take count steps ≡ before ++ step ∷ [] → drop (count - 1) steps ≡ step ∷ drop count steps
behind_less steps before count step few is =
    ap (λ (l : List Undo). drop (count - 1) l) (split_at steps before count step is) ∙ drop_before before (step ∷ drop count steps) (count - 1) (one_less (length before) count long)
  where
    long : length before + 1 ≡ count
    long = sym (length_both before (step ∷ [])) ∙ ap (λ (l : List Undo). length l) (sym is) ∙ length_take steps count few

    one_less : (a n : ℕ) → a + 1 ≡ n → a ≡ n - 1
    one_less a n e = omega (arith, e)

-- where the first so many are none, all stand behind
pub all_behind : (steps : List Undo) (count : ℕ) → take count steps ≡ [] → drop count steps ≡ steps
all_behind steps count none = ap (λ (l : List Undo). l ++ drop count steps) (sym none) ∙ take-append-drop count steps

-- and it is one of them
pub last_among : (steps before : List Undo) (count : ℕ) (step : Undo) → take count steps ≡ before ++ step ∷ [] → Contains steps step
last_among steps before count step is =
    subst (λ (l : List Undo). Contains l step) (sym (split_at steps before count step is)) (among before)
  where
    among : (xs : List Undo) → Contains (xs ++ step ∷ drop count steps) step
    among [] = contains_here step (drop count steps)
    among (x ∷ xs) = contains_more x step (xs ++ step ∷ drop count steps) (among xs)

-- none stands behind all
pub drop_all : (steps : List Undo) → drop (length steps) steps ≡ []
drop_all [] = refl
drop_all (x ∷ xs) = drop_all xs
