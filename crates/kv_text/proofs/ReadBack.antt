-- Pairs that were written, read again.
use Rattle.std.proofs.Common.{◌≡◌, ◌==◌, ◌||◌, ℕ, suc, ◌+◌, ◌<◌, Bool, true, false, List, [], ◌∷◌, ◌++◌, length, take, drop, map, codes, refl, sym, ap, ◌∙◌, arith, append_assoc, length-append, lt-ltb, Ok, Result, None, All}
use Rattle.std.specs.List.{filter_map, list_any, position_or_len}
use Rattle.std.specs.Result.{result_ok}
use Rattle.std.proofs.Math.ListN.{get_or-append}
use Rattle.std.proofs.Math.Seq.{get_or-append_seam}
use Rattle.std.proofs.lemmas.List.{take_at, drop_at, append-nil}
use Rattle.std.proofs.lemmas.List.Elements.{All-nil, All-cons, All-head, All-tail}
use Rattle.std.proofs.lemmas.List.Folds.{list_any-append}
use Rattle.std.proofs.lemmas.List.Splits.{slice_split_at}
use Rattle.std.proofs.lemmas.List.Sums.{position_or_len_is}
use Rattle.std.proofs.lemmas.Bool.{false≢true}
use Rattle.std.proofs.lemmas.Slice.Eq.{bytes_eq-Decides}
use Rattle.kv_text.specs.Lookup.{first_bad_line}
use Rattle.kv_text.proofs.Steps.{or_true, suc_full}
use Rattle.kv_text.specs.Text.{KeyValue, IsWritable, lines, line, whole, text_of, items, is_eof, is_line_feed, is_equals_sign, item_of, items_from, next_number, has_eof}

-- neither passes
pub both_false : (a b : Bool) → (a || b) ≡ false → (a ≡ false) × (b ≡ false)
both_false true b e = absurd (false≢true (sym e))
both_false false b e = (refl, e)

-- what no element passes, none of the elements passes
pub none_passes : {X : Type 0} (p : X → Bool) (xs : List X) → list_any p xs ≡ false → All (λ x. p x ≡ false) xs
none_passes p [] e = All-nil (λ x. p x ≡ false)
none_passes p (x ∷ xs) e =
    let parts = both_false (p x) (list_any p xs) e in
    All-cons (λ y. p y ≡ false) x xs parts.0 (none_passes p xs parts.1)

whole_line : (p : KeyValue) → IsWritable p → list_any is_line_feed (whole p) ≡ false
whole_line p w = list_any-append is_line_feed p.key (61 ∷ p.value) ∙ rw (w.key, w.value) refl

pub lines-line : (p : KeyValue) (rest : List ℕ) → IsWritable p → lines (line p.key p.value ++ rest) ≡ whole p ∷ lines rest
lines-line p rest w =
    ap lines (append_assoc (whole p) (10 ∷ []) rest)
    ∙ slice_split_at is_line_feed (whole p) 10 rest (none_passes is_line_feed (whole p) (whole_line p w)) refl

-- the lines of what was written, and those of what stands behind it
pub lines-text_of : (ps : List KeyValue) (rest : List ℕ) → All IsWritable ps → lines (text_of ps ++ rest) ≡ map whole ps ++ lines rest
lines-text_of [] rest all = refl
lines-text_of (p ∷ ps) rest all =
    ap lines (append_assoc (line p.key p.value) (text_of ps) rest)
    ∙ lines-line p (text_of ps ++ rest) (All-head IsWritable p ps all)
    ∙ ap (λ (ls : List (List ℕ)). whole p ∷ ls) (lines-text_of ps rest (All-tail IsWritable p ps all))

-- the first `=` of a written line stands behind its key
divided : (p : KeyValue) → IsWritable p → position_or_len is_equals_sign (whole p) ≡ length p.key
divided p w =
    let none = none_passes is_equals_sign p.key w.divided in
    let long : length (whole p) ≡ length p.key + suc (length p.value) = length-append p.key (61 ∷ p.value) in
    position_or_len_is is_equals_sign (whole p) (length p.key) 0 (omega arith)
    (λ k below. rw (get_or-append p.key (61 ∷ p.value) 0 k below) (none k 0 below))
    (λ within. rw (get_or-append_seam p.key 61 p.value 0) refl)

pub item_of-whole : (number : ℕ) (p : KeyValue) → IsWritable p → item_of number (whole p) ≡ Ok p
item_of-whole number p w =
    let within : length p.key < length (whole p) = omega (arith, length-append p.key (61 ∷ p.value)) in
    let front : take (length p.key) (whole p) ≡ p.key = take_at p.key (61 ∷ p.value) (length p.key) refl in
    let behind : drop (length p.key + 1) (whole p) ≡ p.value =
    ap (drop (length p.key + 1)) (sym (append_assoc p.key (61 ∷ []) p.value)) ∙ drop_at (p.key ++ 61 ∷ []) p.value (length p.key + 1) (length-append p.key (61 ∷ [])) in
    rw (divided p w, lt-ltb (length p.key) (length (whole p)) within, front, behind) refl

-- a written line isn't empty
pub empty_not : (key value : List ℕ) → (length (key ++ 61 ∷ value) == 0) ≡ false
empty_not [] value = suc_full (length value)
empty_not (x ∷ key) value = suc_full (length (key ++ 61 ∷ value))

-- and is no line `EOF`
pub eof_not : (p : KeyValue) → is_eof (whole p) ≡ false
eof_not p = go (is_eof (whole p)) refl
  where
    go : (b : Bool) → is_eof (whole p) ≡ b → b ≡ false
    go false e = refl
    go true e =
        let same = (bytes_eq-Decides (whole p) (codes "EOF")).0 e in
        let has : list_any is_equals_sign (whole p) ≡ true = list_any-append is_equals_sign p.key (61 ∷ p.value) ∙ or_true (list_any is_equals_sign p.key) in
        absurd (false≢true (sym (ap (list_any is_equals_sign) same) ∙ has))

items_from-whole : (number : ℕ) (p : KeyValue) (more : List (List ℕ)) → IsWritable p → items_from number (whole p ∷ more) ≡ Ok p ∷ items_from (next_number number) more
items_from-whole number p more w = rw (empty_not p.key p.value, eof_not p) (ap (λ (i : Result KeyValue ℕ). i ∷ items_from (next_number number) more) (item_of-whole number p w))

pub items_from-text_of : (ps : List KeyValue) (rest : List (List ℕ)) → ((n : ℕ) → items_from n rest ≡ []) → All IsWritable ps → (number : ℕ) → items_from number (map whole ps ++ rest) ≡ map Ok ps
items_from-text_of [] rest none all number = none number
items_from-text_of (p ∷ ps) rest none all number =
    items_from-whole number p (map whole ps ++ rest) (All-head IsWritable p ps all)
    ∙ ap (λ (is : List (Result KeyValue ℕ)). Ok p ∷ is) (items_from-text_of ps rest none (All-tail IsWritable p ps all) (next_number number))

pub eof-text_of : (ps : List KeyValue) (rest : List (List ℕ)) → list_any is_eof (map whole ps ++ rest) ≡ list_any is_eof rest
eof-text_of [] rest = refl
eof-text_of (p ∷ ps) rest = rw (eof_not p) (eof-text_of ps rest)

pub items_open : (ps : List KeyValue) → All IsWritable ps → items (text_of ps) ≡ map Ok ps
items_open ps all =
    ap items (sym (append-nil (text_of ps))) ∙ ap (items_from 1) (lines-text_of ps [] all) ∙ items_from-text_of ps ([] ∷ []) (λ n. refl) all 1

pub items_closed : (ps : List KeyValue) → All IsWritable ps → items (text_of ps ++ codes "EOF\n") ≡ map Ok ps
items_closed ps all =
    ap (items_from 1) (lines-text_of ps (codes "EOF\n") all) ∙ items_from-text_of ps (lines (codes "EOF\n")) (λ n. refl) all 1

pub eof_closed : (ps : List KeyValue) → All IsWritable ps → has_eof (text_of ps ++ codes "EOF\n") ≡ true
eof_closed ps all =
    ap (list_any is_eof) (lines-text_of ps (codes "EOF\n") all) ∙ eof-text_of ps (lines (codes "EOF\n"))

-- written pairs are no bad lines, and all of them are pairs
pub no_bad_line : (ps : List KeyValue) → first_bad_line (map Ok ps) ≡ None
no_bad_line [] = refl
no_bad_line (p ∷ ps) = no_bad_line ps

pub all_pairs : (ps : List KeyValue) → filter_map result_ok (map {B = Result KeyValue ℕ} Ok ps) ≡ ps
all_pairs [] = refl
all_pairs (p ∷ ps) = ap (λ (l : List KeyValue). p ∷ l) (all_pairs ps)
