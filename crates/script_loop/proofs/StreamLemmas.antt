-- The bytes that a source in memory gives.
use Rattle.std.proofs.Common.{◌≡◌, ℕ, ◌+◌, ◌-◌, List, [], ◌++◌, length, take, drop, sym, ap, ◌∙◌}
use Rattle.std.proofs.lemmas.List.{drop-drop, take-append-drop, take_rest}

-- what is given, and then the rest
pub moved_front : (items slice room before : List ℕ) (at n : ℕ) → slice ≡ items → drop at items ≡ before
    → take n room ≡ take n (take (length slice - at) (drop at slice)) → before ≡ take n room ++ drop (at + n) items
moved_front items slice room before at n same is front =
    let left : take (length slice - at) (drop at slice) ≡ before = take_rest slice at ∙ ap (drop at) same ∙ is in
    let given : take n room ≡ take n before = front ∙ ap (take n) left in
    sym (take-append-drop n before) ∙ ap (λ (xs : List ℕ). xs ++ drop n before) (sym given)
    ∙ ap (λ (xs : List ℕ). take n room ++ xs) (ap (drop n) (sym is) ∙ drop-drop n at items)

-- nothing is given for room only at the end
pub none_at_end : (items slice before : List ℕ) (at : ℕ) → slice ≡ items → drop at items ≡ before → take (length slice - at) (drop at slice) ≡ [] → before ≡ []
none_at_end items slice before at same is none = sym (take_rest slice at ∙ ap (drop at) same ∙ is) ∙ none
