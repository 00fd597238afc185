-- The words of a line, one after the other.
use Rattle.std.proofs.Common.{◌≡◌, ℕ, ◌-◌, ◌<◌, ◌≤◌, ◌==◌, Bool, true, false, not, cond, List, [], ◌∷◌, length, take, drop, refl, sym, ◌∙◌, ap, arith, one-add, filter, ltb}
use Rattle.std.specs.List.{slice_split, onto_first, position_or_len}
use Rattle.std.proofs.lemmas.List.{length-take-le, drop_all, take_all, take_rest}
use Rattle.std.proofs.lemmas.Bool.{lt-ltb}
use Rattle.script_lines.specs.Words.{is_space, is_word, words}

-- spaces in front are passed over
pub words-drop : (line : List ℕ) → words line ≡ words (drop (position_or_len (λ b. not (is_space b)) line) line)
unfolding words
words-drop [] = refl
words-drop (b ∷ bs) = go (words-drop bs) (b == 32) refl
  where
    go : words bs ≡ words (drop (position_or_len (λ b. not (is_space b)) bs) bs) → (v : Bool) → (b == 32) ≡ v
        → words (b ∷ bs) ≡ words (drop (position_or_len (λ b. not (is_space b)) (b ∷ bs)) (b ∷ bs))
    go rest true e = rw (e, one-add) rest
    go rest false e = rw e (rw e refl)

-- behind them a word begins
pub word_begins : (line : List ℕ) → position_or_len (λ b. not (is_space b)) line < length line
    → 0 < position_or_len is_space (drop (position_or_len (λ b. not (is_space b)) line) line)
word_begins [] h = absurd (omega arith)
word_begins (b ∷ bs) h = go (word_begins bs) (b == 32) refl h
  where
    go : (position_or_len (λ b. not (is_space b)) bs < length bs
        → 0 < position_or_len is_space (drop (position_or_len (λ b. not (is_space b)) bs) bs))
        → (v : Bool) → (b == 32) ≡ v → position_or_len (λ b. not (is_space b)) (b ∷ bs) < length (b ∷ bs)
        → 0 < position_or_len is_space (drop (position_or_len (λ b. not (is_space b)) (b ∷ bs)) (b ∷ bs))
    go rest true e h = let k = rw (e, one-add) at h in rw (e, one-add) (rest (omega arith))
    go rest false e h = rw e (rw e (omega arith))

-- what is split off behind the first space
abbrev rest_of : List ℕ → List (List ℕ)
rest_of [] = []
rest_of (b ∷ bs) = cond (b == 32) (slice_split is_space bs) (rest_of bs)

split_front : (xs : List ℕ) → slice_split is_space xs ≡ take (position_or_len is_space xs) xs ∷ rest_of xs
split_front [] = refl
split_front (b ∷ bs) = go (split_front bs) (b == 32) refl
  where
    go : slice_split is_space bs ≡ take (position_or_len is_space bs) bs ∷ rest_of bs → (v : Bool) → (b == 32) ≡ v → slice_split is_space (b ∷ bs) ≡ take (position_or_len is_space (b ∷ bs)) (b ∷ bs) ∷ rest_of (b ∷ bs)
    go rest true e = rw e refl
    go rest false e = rw (e, one-add) (ap (onto_first b) rest)

words_rest : (xs : List ℕ) → filter is_word (rest_of xs) ≡ words (drop (position_or_len is_space xs) xs)
unfolding words
words_rest [] = refl
words_rest (b ∷ bs) = go (words_rest bs) (b == 32) refl
  where
    go : filter is_word (rest_of bs) ≡ words (drop (position_or_len is_space bs) bs) → (v : Bool) → (b == 32) ≡ v → filter is_word (rest_of (b ∷ bs)) ≡ words (drop (position_or_len is_space (b ∷ bs)) (b ∷ bs))
    go rest true e = rw e (rw e refl)
    go rest false e = rw (e, one-add) rest

-- a word that begins a line ends at the first space
pub words_front : (xs : List ℕ) (n : ℕ) → n ≡ position_or_len is_space xs → 0 < n → n ≤ length xs → words xs ≡ take n xs ∷ words (drop n xs)
unfolding words
words_front xs n is some within =
    let split : slice_split is_space xs ≡ take n xs ∷ rest_of xs = rw is (split_front xs) in
    let word : ltb 0 (length (take n xs)) ≡ true = lt-ltb 0 (length (take n xs)) (omega (arith, length-take-le n xs within)) in
    let after : filter is_word (rest_of xs) ≡ words (drop n xs) = rw is (words_rest xs) in
    ap (filter is_word) split ∙ rw word (ap (λ ws. take n xs ∷ ws) after)

-- a word may reach to the end of its line
pub words_end : (xs : List ℕ) → position_or_len is_space xs ≡ length xs → 0 < position_or_len is_space xs
    → words xs ≡ xs ∷ words (take (length xs - length xs) (drop (length xs) xs))
words_end xs e some =
    let front = words_front xs (length xs) (sym e) (omega (arith, e)) (omega arith) in
    let whole : take (length xs) xs ≡ xs = take_all (length xs) xs (omega arith) in
    let nothing : take (length xs - length xs) (drop (length xs) xs) ≡ drop (length xs) xs = take_rest xs (length xs) in
    rw nothing (front ∙ ap (λ w. w ∷ words (drop (length xs) xs)) whole)

-- a line without another byte than spaces has no word
pub words_none : (line : List ℕ) → position_or_len (λ b. not (is_space b)) line ≡ length line → words line ≡ []
unfolding words
words_none line e = words-drop line ∙ rw (e, drop_all (length line) line (omega arith)) refl
