-- Words joined by a byte, and split at it again.
use Rattle.std.proofs.Common.{◌≡◌, ℕ, ◌+◌, ◌<◌, ◌≤◌, ◌==◌, Bool, true, false, List, [], ◌∷◌, ◌++◌, length, filter, refl, ◌∙◌, ap, arith, ltb, length-append}
use Rattle.std.specs.Prelude.{All}
use Rattle.std.specs.List.{list_all, slice_split, join_with_byte}
use Rattle.std.proofs.lemmas.Bool.{and_parts, eq-eqb, lt-ltb}
use Rattle.std.proofs.lemmas.List.Elements.{All-cons, All-nil}
use Rattle.std.proofs.lemmas.List.Folds.{list_all-append}
use Rattle.std.proofs.lemmas.List.Splits.{slice_split_none, slice_split_at}
use Rattle.script_lines.specs.Words.{is_word, words}

-- what holds of each word
abbrev pub Each : (List ℕ → Type 0) → List (List ℕ) → Type 0
Each P [] = Unit {0}
Each P (w ∷ ws) = P w × Each P ws

pub Each-append : (P : List ℕ → Type 0) (xs ys : List (List ℕ)) → Each P xs → Each P ys → Each P (xs ++ ys)
Each-append P [] ys h k = k
Each-append P (x ∷ xs) ys h k = (h.0, Each-append P xs ys h.1 k)

pub Each-more : (P Q : List ℕ → Type 0) → ((w : List ℕ) → P w → Q w) → (ws : List (List ℕ)) → Each P ws → Each Q ws
Each-more P Q more [] h = tt
Each-more P Q more (w ∷ ws) h = (more w h.0, Each-more P Q more ws h.1)

-- a text without this byte
abbrev pub Lacks : ℕ → List ℕ → Type 0
Lacks c w = All (λ b. (b == c) ≡ false) w

pub lacks : (c : ℕ) (p : ℕ → Bool) → ((b : ℕ) → p b ≡ true → (b == c) ≡ false) → (w : List ℕ) → list_all p w ≡ true → Lacks c w
lacks c p h [] e = All-nil (λ b. (b == c) ≡ false)
lacks c p h (x ∷ xs) e =
    let parts = and_parts (p x) (list_all p xs) e in All-cons (λ b. (b == c) ≡ false) x xs (h x parts.0) (lacks c p h xs parts.1)

pub passes_more : (p q : ℕ → Bool) → ((b : ℕ) → p b ≡ true → q b ≡ true) → (xs : List ℕ) → list_all p xs ≡ true → list_all q xs ≡ true
passes_more p q h [] e = refl
passes_more p q h (x ∷ xs) e =
    let parts = and_parts (p x) (list_all p xs) e in rw (h x parts.0, passes_more p q h xs parts.1) refl

-- words that lack the byte that joins them
pub split_joined : (c : ℕ) (w : List ℕ) (ws : List (List ℕ)) → Lacks c w → Each (Lacks c) ws → slice_split (λ b. b == c) (join_with_byte c (w ∷ ws)) ≡ w ∷ ws
split_joined c w [] h rest = slice_split_none (λ b. b == c) w h
split_joined c w (v ∷ vs) h rest =
    slice_split_at (λ b. b == c) w c (join_with_byte c (v ∷ vs)) h (eq-eqb c c refl)
    ∙ ap (λ ps. w ∷ ps) (split_joined c v vs rest.0 rest.1)

-- each of joined words has bytes
kept : (ws : List (List ℕ)) → Each (λ w. 0 < length w) ws → filter is_word ws ≡ ws
kept [] h = refl
kept (w ∷ ws) h = let test : ltb 0 (length w) ≡ true = lt-ltb 0 (length w) h.0 in rw test (ap (λ vs. w ∷ vs) (kept ws h.1))

pub words_joined : (w : List ℕ) (ws : List (List ℕ)) → Each (Lacks 32) (w ∷ ws) → Each (λ v. 0 < length v) (w ∷ ws)
    → words (join_with_byte 32 (w ∷ ws)) ≡ w ∷ ws
unfolding words
words_joined w ws lack some = ap (filter is_word) (split_joined 32 w ws lack.0 lack.1) ∙ kept (w ∷ ws) some

-- a test of joined words
pub joined_passes : (p : ℕ → Bool) (c : ℕ) → p c ≡ true → (ws : List (List ℕ)) → Each (λ w. list_all p w ≡ true) ws → list_all p (join_with_byte c ws) ≡ true
joined_passes p c pc [] h = refl
joined_passes p c pc (w ∷ []) h = h.0
joined_passes p c pc (w ∷ v ∷ vs) h =
    list_all-append p w (c ∷ join_with_byte c (v ∷ vs)) ∙ rw (h.0, pc, joined_passes p c pc (v ∷ vs) h.1) refl

-- the bytes of words, with one behind each
abbrev pub size : List (List ℕ) → ℕ
size [] = 0
size (w ∷ ws) = length w + 1 + size ws

pub size-append : (xs ys : List (List ℕ)) → size (xs ++ ys) ≡ size xs + size ys
size-append [] ys = omega arith
size-append (x ∷ xs) ys = omega (arith, size-append xs ys)

pub length-joined : (c : ℕ) (ws : List (List ℕ)) → length (join_with_byte c ws) ≤ size ws
length-joined c [] = omega arith
length-joined c (w ∷ []) = omega arith
length-joined c (w ∷ v ∷ vs) =
    let rest = length-joined c (v ∷ vs) in simp length-append (omega (arith, rest))
