-- What is kept of a line, as more of it comes.
use Rattle.std.proofs.Common.{◌≡◌, ℕ, zero, suc, ◌-◌, ◌<◌, ◌≤◌, min, List, [], ◌∷◌, ◌++◌, length, take, Some, None, slice_get, refl, sym, ap, ◌∙◌, arith, length-take}
use Rattle.std.proofs.Math.Decide.{dec_lt}

-- the front of two texts
take_append : (n : ℕ) (xs ys : List ℕ) → take n (xs ++ ys) ≡ take n xs ++ take (n - length xs) ys
take_append zero xs ys = let none : 0 ≡ 0 - length xs = omega arith in ap (λ m. take m ys) none
take_append (suc n) [] ys = let all : suc n ≡ suc n - 0 = omega arith in ap (λ m. take m ys) all
take_append (suc n) (x ∷ xs) ys = ap (λ (zs : List ℕ). x ∷ zs) (take_append n xs ys ∙ ap (λ m. take n xs ++ take m ys) (omega arith))

pub take_whole : (n : ℕ) (xs : List ℕ) → length xs ≤ n → take n xs ≡ xs
take_whole zero [] h = refl
take_whole zero (x ∷ xs) h = absurd (omega arith)
take_whole (suc n) [] h = refl
take_whole (suc n) (x ∷ xs) h = ap (λ (zs : List ℕ). x ∷ zs) (take_whole n xs (omega arith))

-- no more than there is
take_min : (n : ℕ) (xs : List ℕ) → take (min (length xs) n) xs ≡ take n xs
take_min n xs = elim (dec_lt n (length xs)) [
  | yes few ↦ let is : min (length xs) n ≡ n = omega arith in ap (λ m. take m xs) is
  | no all ↦
      let is : min (length xs) n ≡ length xs = omega arith in
      ap (λ m. take m xs) is ∙ take_whole (length xs) xs (omega arith) ∙ sym (take_whole n xs (omega arith))
]

-- a piece behind what is kept
pub push_kept : (n : ℕ) (kept line piece : List ℕ) → kept ≡ take n line → kept ++ take (min (length piece) (n - length kept)) piece ≡ take n (line ++ piece)
push_kept n kept line piece is =
    let left : n - length kept ≡ n - length line = omega (arith, ap length is, length-take n line) in
    ap (λ (xs : List ℕ). xs ++ take (min (length piece) (n - length kept)) piece) is
    ∙ ap (λ (ys : List ℕ). take n line ++ ys) (take_min (n - length kept) piece ∙ ap (λ m. take m piece) left)
    ∙ sym (take_append n line piece)

-- whether something is kept tells whether something has come
pub some_kept : (n : ℕ) (kept line : List ℕ) (byte : ℕ) → kept ≡ take (suc n) line → Some byte ≡ slice_get kept 0 → 0 < length line
some_kept n kept [] byte is found = let none : Some byte ≡ None = found ∙ ap (λ (xs : List ℕ). slice_get xs 0) is in absurd (cc)
some_kept n kept (x ∷ xs) byte is found = omega arith

pub none_kept : (n : ℕ) (kept line : List ℕ) → kept ≡ take (suc n) line → None ≡ slice_get kept 0 → line ≡ []
none_kept n kept [] is found = refl
none_kept n kept (x ∷ xs) is found = let none : None ≡ Some x = found ∙ ap (λ (ys : List ℕ). slice_get ys 0) is in absurd (cc)
