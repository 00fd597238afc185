-- The texts of identifiers are in the order of their bytes.
use Rattle.std.proofs.Common.{◌≡◌, ◌⊎◌, ℕ, zero, suc, ◌+◌, ◌*◌, ◌/◌, ◌%◌, ◌<◌, ◌≤◌, ◌==◌, Bool, true, false, List, [], ◌∷◌, ◌++◌, length, get_or, nat_lt, if◌then◌else◌, refl, sym, ap, ◌∙◌, subst, inl, inr, arith}
use Rattle.std.proofs.lemmas.Bool.Decides.{nat_tests}
use Rattle.std.specs.Ordering.{nat_cmp, ordering_then}
use Rattle.std.specs.declared.cmp.Ordering.{Ordering}
use Rattle.std.specs.declared.cmp.Ordering.TheVariants.{Less, Equal, Greater}
use Rattle.uuid.specs.Text.{digit_place, hex_digit, is_hyphen_place, lower, nibble}
use Rattle.uuid.proofs.TextLemmas.{by_index_at, nibble_even, nibble_odd, nibble_small}
use Rattle.sd_names.specs.Id.{IsIdBytes, id_text}
use Rattle.sd_names.specs.Place.{path_cmp}
use Rattle.sd_names.proofs.IdLemmas.{id_text-length}

-- the first place at which two lists differ, the first one being below there
pub record IsBelowAt (xs ys : List ℕ) (k : ℕ) : Type 0 where
  pub within : k < length xs
  pub under : get_or xs k 0 < get_or ys k 0
  pub same : (j : ℕ) → j < k → get_or xs j 0 ≡ get_or ys j 0

less_of : (x y : ℕ) → nat_cmp x y ≡ Less → x < y
less_of x y e = grind (arith, nat_tests)

equal_of : (x y : ℕ) → nat_cmp x y ≡ Equal → x ≡ y
equal_of x y e = grind (arith, nat_tests)

of_less : (x y : ℕ) → x < y → nat_cmp x y ≡ Less
of_less x y e = grind (arith, nat_tests)

pub of_equal : (x : ℕ) → nat_cmp x x ≡ Equal
of_equal x = grind (arith, nat_tests)

below_on : (x y : ℕ) (xs ys : List ℕ) (k : ℕ) → x ≡ y → IsBelowAt xs ys k → IsBelowAt (x ∷ xs) (y ∷ ys) (suc k)
below_on x y xs ys k e b = record { within = omega (arith, b.within); under = b.under; same = λ j. at j }
  where
    at : (j : ℕ) → j < suc k → get_or (x ∷ xs) j 0 ≡ get_or (y ∷ ys) j 0
    at zero lt = e
    at (suc j) lt = b.same j (omega (arith, lt))

below_first : (x y : ℕ) (xs ys : List ℕ) → x < y → IsBelowAt (x ∷ xs) (y ∷ ys) 0
below_first x y xs ys lt = record { within = omega arith; under = lt; same = λ j none. absurd (omega (arith, none)) }

below_step : (x y : ℕ) (xs ys : List ℕ) (o : Ordering) → nat_cmp x y ≡ o → ordering_then o (path_cmp xs ys) ≡ Less
    → (path_cmp xs ys ≡ Less → (k : ℕ) × IsBelowAt xs ys k) → (k : ℕ) × IsBelowAt (x ∷ xs) (y ∷ ys) k
below_step x y xs ys Less is e more = (0, below_first x y xs ys (less_of x y is))
below_step x y xs ys Equal is e more = let m = more e in (suc m.0, below_on x y xs ys m.0 (equal_of x y is) m.1)
below_step x y xs ys Greater is e more = absurd cc

-- a list that is below one as long has such a place
pub below_at : (xs ys : List ℕ) → length xs ≡ length ys → path_cmp xs ys ≡ Less → (k : ℕ) × IsBelowAt xs ys k
below_at [] [] len e = absurd cc
below_at [] (y ∷ ys) len e = absurd (omega (arith, len))
below_at (x ∷ xs) [] len e = absurd (omega (arith, len))
below_at (x ∷ xs) (y ∷ ys) len e = below_step x y xs ys (nat_cmp x y) refl e (below_at xs ys (omega (arith, len)))

then_same : (x y : ℕ) (o : Ordering) → x ≡ y → o ≡ Less → ordering_then (nat_cmp x y) o ≡ Less
then_same x y o e is = let t : nat_cmp x y ≡ Equal = subst (λ (z : ℕ). nat_cmp x z ≡ Equal) e (of_equal x) in rw (t, is) refl

-- and a list with one is below, whatever follows
pub below_from : (xs ys rest more : List ℕ) (k : ℕ) → k < length ys → IsBelowAt xs ys k → path_cmp (xs ++ rest) (ys ++ more) ≡ Less
below_from [] ys rest more k within b = absurd (omega (arith, b.within))
below_from (x ∷ xs) [] rest more k within b = absurd (omega (arith, within))
below_from (x ∷ xs) (y ∷ ys) rest more zero within b = let t : nat_cmp x y ≡ Less = of_less x y b.under in rw t refl
below_from (x ∷ xs) (y ∷ ys) rest more (suc k) within b =
    then_same x y (path_cmp (xs ++ rest) (ys ++ more)) (b.same 0 (omega arith))
    (below_from xs ys rest more k (omega (arith, within)) (record { within = omega (arith, b.within); under = b.under; same = λ j lt. b.same (suc j) (omega (arith, lt)) }))

-- ---- digits

-- the first digit at which two identifiers differ
record IsBelowDigit (a b : List ℕ) (j : ℕ) : Type 0 where
  within : j < 32
  under : nibble a j < nibble b j
  same : (i : ℕ) → i < j → nibble a i ≡ nibble b i

abbrev half_at : ℕ → ℕ → ℕ
half_at i n = if i % 2 == 0 then n / 16 % 16 else n % 16

same_digit : (a b : List ℕ) (i : ℕ) → get_or a (i / 2) 0 ≡ get_or b (i / 2) 0 → nibble a i ≡ nibble b i
same_digit a b i e = ap (half_at i) e

high_digit : (a b : List ℕ) (k : ℕ) → k < 16 → get_or b k 0 < 256 → IsBelowAt a b k → get_or a k 0 / 16 < get_or b k 0 / 16 → IsBelowDigit a b (2 * k)
high_digit a b k small byte at less = record {
  within = omega (arith, small);
  under = omega (arith, nibble_even a k, nibble_even b k, less, byte);
  same = λ i lt. same_digit a b i (at.same (i / 2) (omega (arith, lt)));
}

low_same : (a b : List ℕ) (k i : ℕ) → IsBelowAt a b k → get_or a k 0 / 16 ≡ get_or b k 0 / 16 → i < 2 * k + 1 → (i < 2 * k) ⊎ (i ≡ 2 * k) → nibble a i ≡ nibble b i
low_same a b k i at high lt (inl less) = same_digit a b i (at.same (i / 2) (omega (arith, less)))
low_same a b k i at high lt (inr e) =
    let same : nibble a (2 * k) ≡ nibble b (2 * k) = nibble_even a k ∙ ap (λ (n : ℕ). n % 16) high ∙ sym (nibble_even b k) in
    subst (λ (j : ℕ). nibble a j ≡ nibble b j) (sym e) same

less_or : (i n : ℕ) → i < n + 1 → (i < n) ⊎ (i ≡ n)
less_or i n lt = go (nat_lt i n) refl
  where
    go : (b : Bool) → nat_lt i n ≡ b → (i < n) ⊎ (i ≡ n)
    go true t = inl (grind (arith, nat_tests))
    go false t = inr (grind (arith, nat_tests))

low_digit : (a b : List ℕ) (k : ℕ) → k < 16 → IsBelowAt a b k → get_or a k 0 / 16 ≡ get_or b k 0 / 16 → IsBelowDigit a b (2 * k + 1)
low_digit a b k small at high = record {
  within = omega (arith, small);
  under = omega (arith, nibble_odd a k, nibble_odd b k, high, at.under);
  same = λ i lt. low_same a b k i at high lt (less_or i (2 * k) lt);
}

below_digit : (a b : List ℕ) (k : ℕ) → k < 16 → get_or b k 0 < 256 → IsBelowAt a b k → (j : ℕ) × IsBelowDigit a b j
below_digit a b k small byte at = go (nat_lt (get_or a k 0 / 16) (get_or b k 0 / 16)) refl
  where
    go : (t : Bool) → nat_lt (get_or a k 0 / 16) (get_or b k 0 / 16) ≡ t → (j : ℕ) × IsBelowDigit a b j
    go true t = (2 * k, high_digit a b k small byte at (grind (arith, nat_tests)))
    go false t =
        let under = at.under in
        let least : get_or b k 0 / 16 ≤ get_or a k 0 / 16 = grind (arith, nat_tests) in
        (2 * k + 1, low_digit a b k small at (omega (arith, least, under)))

-- ---- characters

abbrev char_at : List ℕ → ℕ → ℕ
char_at bytes k = if is_hyphen_place k then 45 else hex_digit lower (nibble bytes (digit_place k))

text_at : (bytes : List ℕ) (k : ℕ) → k < 36 → get_or (id_text bytes) k 0 ≡ char_at bytes k
text_at bytes k within = by_index_at 36 (char_at bytes) k 0 within

-- where a digit stands in the text
abbrev place_of : ℕ → ℕ
place_of j = if nat_lt j 8 then j else if nat_lt j 12 then j + 1 else if nat_lt j 16 then j + 2 else if nat_lt j 20 then j + 3 else j + 4

place_small : (j : ℕ) → j < 32 → place_of j < 36
place_small j small = grind (arith, nat_tests)

place_digit : (j : ℕ) → j < 32 → is_hyphen_place (place_of j) ≡ false
place_digit j small = grind (arith, nat_tests)

place_back : (j : ℕ) → j < 32 → digit_place (place_of j) ≡ j
place_back j small = grind (arith, nat_tests)

digit_before : (j q : ℕ) → j < 32 → q < place_of j → is_hyphen_place q ≡ false → digit_place q < j
digit_before j q small lt none = grind (arith, nat_tests)

hex_rises : (c d : ℕ) → c < d → d < 16 → hex_digit lower c < hex_digit lower d
hex_rises c d less small = grind (arith, nat_tests)

char_under : (a b : List ℕ) (j : ℕ) → IsBelowDigit a b j → char_at a (place_of j) < char_at b (place_of j)
char_under a b j at =
    let digit : is_hyphen_place (place_of j) ≡ false = place_digit j at.within in
    let back : digit_place (place_of j) ≡ j = place_back j at.within in
    rw (digit, back) (hex_rises (nibble a j) (nibble b j) at.under (nibble_small b j))

char_same : (a b : List ℕ) (j q : ℕ) → IsBelowDigit a b j → q < place_of j → char_at a q ≡ char_at b q
char_same a b j q at lt = go (is_hyphen_place q) refl
  where
    go : (t : Bool) → is_hyphen_place q ≡ t → (if t then 45 else hex_digit lower (nibble a (digit_place q))) ≡ (if t then 45 else hex_digit lower (nibble b (digit_place q)))
    go true t = refl
    go false t = ap (hex_digit lower) (at.same (digit_place q) (digit_before j q at.within lt t))

text_below : (a b : List ℕ) (j : ℕ) → IsBelowDigit a b j → IsBelowAt (id_text a) (id_text b) (place_of j)
text_below a b j at =
    let small : place_of j < 36 = place_small j at.within in
    record {
      within = subst (λ (n : ℕ). place_of j < n) (sym (id_text-length a)) small;
      under = subst (λ (n : ℕ). n < get_or (id_text b) (place_of j) 0) (sym (text_at a (place_of j) small))
          (subst (λ (n : ℕ). char_at a (place_of j) < n) (sym (text_at b (place_of j) small)) (char_under a b j at));
      same = λ q lt. let within : q < 36 = omega (arith, lt, small) in text_at a q within ∙ char_same a b j q at lt ∙ sym (text_at b q within);
    }

-- an identifier below another has a text below the other's, whatever follows the texts
pub texts_rise : (a b rest more : List ℕ) → IsIdBytes a → IsIdBytes b → path_cmp a b ≡ Less → path_cmp (id_text a ++ rest) (id_text b ++ more) ≡ Less
texts_rise a b rest more is_a is_b less =
    let at = below_at a b (is_a.sixteen ∙ sym is_b.sixteen) less in
    let small : at.0 < 16 = omega (arith, at.1.within, is_a.sixteen) in
    let byte : get_or b at.0 0 < 256 = is_b.in_range at.0 0 (omega (arith, small, is_b.sixteen)) in
    let digit = below_digit a b at.0 small byte at.1 in
    below_from (id_text a) (id_text b) rest more (place_of digit.0) (subst (λ (n : ℕ). place_of digit.0 < n) (sym (id_text-length b)) (place_small digit.0 digit.1.within)) (text_below a b digit.0 digit.1)

-- a text is below itself with more behind it
pub shorter_first : (xs rest : List ℕ) → 0 < length rest → path_cmp xs (xs ++ rest) ≡ Less
shorter_first [] [] some = absurd (omega (arith, some))
shorter_first [] (y ∷ ys) some = refl
shorter_first (x ∷ xs) rest some = then_same x x (path_cmp xs (xs ++ rest)) refl (shorter_first xs rest some)
