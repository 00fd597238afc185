-- The domains that a text lists.
use Rattle.std.proofs.Common.{◌≡◌, ◌&&◌, ℕ, suc, ◌+◌, ◌<◌, ◌≤◌, Bool, true, false, List, [], ◌∷◌, ◌++◌, length, get_or, drop, refl, sym, ap, ◌∙◌, arith, Option, Some, None, is_some, option_map, option_and_then, append_assoc, length-append, nat_le, nat_lt, not, Ordering, Less, Equal, Greater, length-drop, if◌then◌else◌}
use Rattle.std.proofs.Math.Seq.{drop-cons}
use Rattle.std.specs.Cmp.Lexicographic.{slice_cmp}
use Rattle.std.specs.Ordering.{is_ge, is_lt, nat_cmp}
use Rattle.std.specs.List.{slice_split, before_first, after_first, position, position_or_len}
use Rattle.std.proofs.lemmas.Bool.{false≢true, ltb-true, ltb-false}
use Rattle.std.proofs.lemmas.Bool.Decides.{nat_tests}
use Rattle.std.proofs.lemmas.List.Splits.{slice_split_first, slice_split_none, length-slice_split}
use Rattle.std.proofs.lemmas.List.Sums.{fails_before_first}
use Rattle.sd_names.specs.declared.id.Id.{Id}
use Rattle.domain_meta.specs.Values.{is_comma, is_rising, domain_of, domains_of_words, listed_of}

-- the first word ends at the first comma
pub words_first : (text : List ℕ) → is_some (position is_comma text) ≡ true → slice_split is_comma text ≡ before_first is_comma text ∷ slice_split is_comma (after_first is_comma text)
words_first text e = go (nat_lt (position_or_len is_comma text) (length text)) refl
  where
    go : (b : Bool) → nat_lt (position_or_len is_comma text) (length text) ≡ b → slice_split is_comma text ≡ before_first is_comma text ∷ slice_split is_comma (after_first is_comma text)
    go true t = slice_split_first is_comma text 0 (ltb-true (position_or_len is_comma text) (length text) t)
    go false t = absurd (false≢true (sym (rw t refl) ∙ e))

pub words_none : (text : List ℕ) → is_some (position is_comma text) ≡ false → slice_split is_comma text ≡ text ∷ []
words_none text e = go (nat_lt (position_or_len is_comma text) (length text)) refl
  where
    go : (b : Bool) → nat_lt (position_or_len is_comma text) (length text) ≡ b → slice_split is_comma text ≡ text ∷ []
    go true t = absurd (false≢true (sym e ∙ rw t refl))
    go false t =
        let beyond = ltb-false (position_or_len is_comma text) (length text) t in
        slice_split_none is_comma text (λ k d below. fails_before_first is_comma text k d (omega (arith, beyond)))

pub not_true : (b : Bool) → not b ≡ true → b ≡ false
not_true true e = absurd (false≢true e)
not_true false e = refl

pub not_false : (b : Bool) → not b ≡ false → b ≡ true
not_false true e = refl
not_false false e = absurd (false≢true (sym e))

lt_from_ge : (o : Ordering) → is_ge o ≡ true → is_lt o ≡ false
lt_from_ge Less e = absurd (false≢true e)
lt_from_ge Equal e = refl
lt_from_ge Greater e = refl

lt_unless_ge : (o : Ordering) → is_ge o ≡ false → is_lt o ≡ true
lt_unless_ge Less e = refl
lt_unless_ge Equal e = absurd (false≢true (sym e))
lt_unless_ge Greater e = absurd (false≢true (sym e))

-- identifiers from place k on, of which there are two
two_left : (ids : List Id) (k j : ℕ) (d e : Id) → k + 1 ≡ j → j < length ids → drop k ids ≡ get_or ids k d ∷ get_or ids j e ∷ drop (suc j) ids
two_left ids k j d e step h =
    let next : suc k ≡ j = omega arith in
    drop-cons ids k d (omega arith) ∙ ap (λ (i : ℕ). get_or ids k d ∷ drop i ids) next ∙ ap (λ (l : List Id). get_or ids k d ∷ l) (drop-cons ids j e h)

pub not_rising : (ids : List Id) (k j : ℕ) (d e : Id) → k + 1 ≡ j → j < length ids → is_ge (slice_cmp nat_cmp (get_or ids k d).0 (get_or ids j e).0) ≡ true → is_rising (drop k ids) ≡ false
not_rising ids k j d e step h ge = rw (two_left ids k j d e step h, lt_from_ge _ ge) refl

pub still_rising : (ids : List Id) (k j : ℕ) (d e : Id) → k + 1 ≡ j → j < length ids → is_ge (slice_cmp nat_cmp (get_or ids k d).0 (get_or ids j e).0) ≡ false → is_rising (drop j ids) ≡ is_rising (drop k ids)
still_rising ids k j d e step h lt =
    ap is_rising (drop-cons ids j e h) ∙ sym (ap is_rising (two_left ids k j d e step h) ∙ rw (lt_unless_ge _ lt) refl)

one_rises : (ids : List Id) → length ids ≤ 1 → is_rising ids ≡ true
one_rises [] h = refl
one_rises (x ∷ []) h = refl
one_rises (x ∷ y ∷ more) h = absurd (omega arith)

pub last_rises : (ids : List Id) (k : ℕ) → length ids ≤ k + 1 → is_rising (drop k ids) ≡ true
last_rises ids k h = one_rises (drop k ids) (omega (arith, length-drop k ids))

-- a word that is no domain
pub none_here : (word : List ℕ) (more : List (List ℕ)) → domain_of word ≡ None → domains_of_words (word ∷ more) ≡ None
none_here word more e = rw e refl

-- one domain more
pub one_more : (ids : List Id) (id : Id) (word : List ℕ) (more : List (List ℕ)) → domain_of word ≡ Some id
    → option_map (λ left. ids ++ left) (domains_of_words (word ∷ more)) ≡ option_map (λ left. (ids ++ id ∷ []) ++ left) (domains_of_words more)
one_more ids id word more e = rw e (go (domains_of_words more))
  where
    go : (o : Option (List Id)) → option_map (λ left. ids ++ left) (option_map (λ left. id ∷ left) o) ≡ option_map (λ left. (ids ++ id ∷ []) ++ left) o
    go None = refl
    go (Some left) = ap (λ (l : List Id). Some l) (sym (append_assoc ids (id ∷ []) left))

pub listed_none : (value : List ℕ) → domains_of_words (slice_split is_comma value) ≡ None → None ≡ listed_of value
unfolding listed_of
listed_none value e = rw e refl

-- more than four
cut_some : (text : List ℕ) → (first : List ℕ) × (more : List (List ℕ)) × (slice_split is_comma text ≡ first ∷ more)
cut_some text = go (slice_split is_comma text) refl
  where
    go : (ls : List (List ℕ)) → slice_split is_comma text ≡ ls → (first : List ℕ) × (more : List (List ℕ)) × (slice_split is_comma text ≡ first ∷ more)
    go [] e = let long = length-slice_split is_comma text in absurd (omega (arith, long, ap length e))
    go (first ∷ more) e = (first, more, e)

above_four : (n : ℕ) → 4 < n → nat_le n 4 ≡ false
above_four n h = grind (arith, nat_tests)

five_none : (ids : List Id) (word : List ℕ) (more : List (List ℕ)) → length ids ≡ 4
    → option_and_then (λ ids. if nat_le (length ids) 4 && is_rising ids then Some ids else None) (option_map (λ left. ids ++ left) (domains_of_words (word ∷ more))) ≡ None
five_none ids word more four = first (domain_of word)
  where
    rest : (id : Id) (o : Option (List Id)) → option_and_then (λ ids. if nat_le (length ids) 4 && is_rising ids then Some ids else None) (option_map (λ left. ids ++ left) (option_map (λ left. id ∷ left) o)) ≡ None
    rest id None = refl
    rest id (Some left) =
        let long : length (ids ++ id ∷ left) ≡ length ids + suc (length left) = length-append ids (id ∷ left) in
        let many : nat_le (length (ids ++ id ∷ left)) 4 ≡ false = above_four (length (ids ++ id ∷ left)) (omega arith) in
        rw many refl

    first : (o : Option Id) → option_and_then (λ ids. if nat_le (length ids) 4 && is_rising ids then Some ids else None) (option_map (λ left. ids ++ left) (option_and_then (λ id. option_map (λ left. id ∷ left) (domains_of_words more)) o)) ≡ None
    first None = refl
    first (Some id) = rest id (domains_of_words more)

pub too_many : (value text : List ℕ) (ids : List Id) → length ids ≡ 4
    → domains_of_words (slice_split is_comma value) ≡ option_map (λ left. ids ++ left) (domains_of_words (slice_split is_comma text)) → None ≡ listed_of value
unfolding listed_of
too_many value text ids four e =
    let cut = cut_some text in
    sym (rw (e, cut.2) (five_none ids cut.0 cut.1 four))
