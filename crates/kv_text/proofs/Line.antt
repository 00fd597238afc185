-- The length of a line, and what stands behind it.
use Rattle.std.proofs.Common.{◌≡◌, ◌+◌, ◌++◌, ◌∷◌, [], ℕ, List, length, drop, ap, sym, refl, ◌∙◌, arith, length-append}
use Rattle.std.proofs.lemmas.List.{drop-drop}
use Rattle.kv_text.specs.Text.{KeyValue, line, text_of}

pub length-line : (key value : List ℕ) → length (line key value) ≡ length key + length value + 2
length-line key value =
    omega (arith, length-append (key ++ 61 ∷ value) (10 ∷ []), length-append key (61 ∷ value))

pub drop-line : (key value behind : List ℕ) → drop (length (line key value)) behind ≡ drop 1 (drop (length value) (drop 1 (drop (length key) behind)))
drop-line key value behind =
    let e : length (line key value) ≡ length key + 1 + length value + 1 = omega (arith, length-line key value) in
    ap (λ (n : ℕ). drop n behind) e
    ∙ sym (drop-drop 1 (length key + 1 + length value) behind)
    ∙ ap (drop 1) (sym (drop-drop (length value) (length key + 1) behind))
    ∙ ap (λ (b : List ℕ). drop 1 (drop (length value) b)) (sym (drop-drop 1 (length key) behind))

-- the length of a text that was written
abbrev pub total : List KeyValue → ℕ
total [] = 0
total (p ∷ ps) = length p.key + length p.value + 2 + total ps

pub length-text_of : (ps : List KeyValue) → length (text_of ps) ≡ total ps
length-text_of [] = refl
length-text_of (p ∷ ps) =
    omega (arith, length-append (line p.key p.value) (text_of ps), length-line p.key p.value, length-text_of ps)
