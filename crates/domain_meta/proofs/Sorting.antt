-- A sorted list of lines is the same lines in order.
use Rattle.std.proofs.Common.{◌≡◌, ℕ, suc, ◌+◌, ◌<◌, Bool, true, false, cond, List, [], ◌∷◌, get_or, map, refl, sym, ap, ◌∙◌, arith, subst, Ordering, Less, Equal, Greater}
use Rattle.std.specs.Borrow.{Bor}
use Rattle.std.specs.Cmp.Lexicographic.{slice_cmp}
use Rattle.std.specs.List.{sum_by}
use Rattle.std.specs.List.Sorted.{IsPermutation, IsSorted}
use Rattle.std.specs.Ordering.{is_le, is_lt, is_gt, is_eq, nat_cmp, ordering_reverse}
use Rattle.std.specs.Str.{bytes_eq}
use Rattle.std.proofs.lemmas.Bool.{false≢true}
use Rattle.std.proofs.lemmas.Cmp.{nat_list_cmp_total, upto, tied_itself}
use Rattle.std.proofs.lemmas.List.Sorted.{IsPermutation-map, sum_by-IsPermutation}
use Rattle.std.proofs.lemmas.List.Sums.{sum_by-cons}
use Rattle.std.proofs.lemmas.Map.Text.{is_eq-slice_cmp}
use Rattle.std.proofs.lemmas.Slice.Eq.{bytes_eq-Decides}
use Rattle.domain_meta.specs.Checksum.{in_order, placed}

abbrev cmp : List ℕ → List ℕ → Ordering
cmp a b = slice_cmp nat_cmp a b

-- a stands no later than b
abbrev Upto : List ℕ → List ℕ → Type 0
Upto a b = is_le (cmp a b) ≡ true

reversed : (a b : List ℕ) → cmp a b ≡ ordering_reverse (cmp b a)
reversed a b = nat_list_cmp_total.antisymm a b

not_gt : (o : Ordering) → is_le o ≡ true → is_gt o ≡ false
not_gt Less h = refl
not_gt Equal h = refl
not_gt Greater h = absurd (false≢true h)

le_from_gt : (o : Ordering) → is_gt o ≡ false → is_le o ≡ true
le_from_gt Less h = refl
le_from_gt Equal h = refl
le_from_gt Greater h = absurd (false≢true (sym h))

le_reversed : (o : Ordering) → is_lt o ≡ false → is_le (ordering_reverse o) ≡ true
le_reversed Less h = absurd (false≢true (sym h))
le_reversed Equal h = refl
le_reversed Greater h = refl

le_other : (o : Ordering) → is_le o ≡ false → is_le (ordering_reverse o) ≡ true
le_other Less h = absurd (false≢true (sym h))
le_other Equal h = absurd (false≢true (sym h))
le_other Greater h = refl

eq_both : (o : Ordering) → is_le o ≡ true → is_le (ordering_reverse o) ≡ true → is_eq o ≡ true
eq_both Less h g = absurd (false≢true g)
eq_both Equal h g = refl
eq_both Greater h g = absurd (false≢true h)

Upto-trans : (a b c : List ℕ) → Upto a b → Upto b c → Upto a c
Upto-trans a b c h g =
    le_from_gt (cmp a c) (upto nat_list_cmp_total a b c (not_gt (cmp a b) h) (not_gt (cmp b c) g))

Upto-other : (a b : List ℕ) → is_le (cmp a b) ≡ false → Upto b a
Upto-other a b h = ap is_le (reversed b a) ∙ le_other (cmp a b) h

Upto-refl : (a : List ℕ) → Upto a a
Upto-refl a = ap is_le (tied_itself nat_list_cmp_total a)

Upto-both : (a b : List ℕ) → Upto a b → Upto b a → a ≡ b
Upto-both a b h g =
    (bytes_eq-Decides a b).0 (sym (is_eq-slice_cmp a b) ∙ eq_both (cmp a b) h (sym (ap is_le (reversed b a)) ∙ g))

-- a line stands no later than each of these
abbrev Before : List ℕ → List (List ℕ) → Type 0
Before a [] = Unit {0}
Before a (b ∷ more) = Upto a b × Before a more

-- each line stands no later than those behind it
abbrev Rising : List (List ℕ) → Type 0
Rising [] = Unit {0}
Rising (a ∷ more) = Before a more × Rising more

Before-earlier : (a b : List ℕ) (ls : List (List ℕ)) → Upto a b → Before b ls → Before a ls
Before-earlier a b [] h all = tt
Before-earlier a b (c ∷ more) h all = (Upto-trans a b c h all.0, Before-earlier a b more h all.1)

Before-placed : (a line : List ℕ) (ls : List (List ℕ)) → Upto a line → Before a ls → Before a (placed line ls)
Before-placed a line [] h all = (h, tt)
Before-placed a line (first ∷ more) h all = go (is_le (cmp line first)) (Before-placed a line more h all.1)
  where
    go : (b : Bool) → Before a (placed line more) → Before a (cond b (line ∷ first ∷ more) (first ∷ placed line more))
    go true later = (h, all)
    go false later = (all.0, later)

Rising-placed : (line : List ℕ) (ls : List (List ℕ)) → Rising ls → Rising (placed line ls)
Rising-placed line [] rising = (tt, tt)
Rising-placed line (first ∷ more) rising = go (is_le (cmp line first)) refl (Rising-placed line more rising.1)
  where
    go : (b : Bool) → is_le (cmp line first) ≡ b → Rising (placed line more) → Rising (cond b (line ∷ first ∷ more) (first ∷ placed line more))
    go true e later = ((e, Before-earlier line first more e rising.0), rising)
    go false e later = (Before-placed first line more (Upto-other line first e) rising.0, later)

Rising-in_order : (ls : List (List ℕ)) → Rising (in_order ls)
Rising-in_order [] = tt
Rising-in_order (line ∷ more) = Rising-placed line (in_order more) (Rising-in_order more)

-- how often a line comes
abbrev one : List ℕ → List ℕ → ℕ
one z line = cond (bytes_eq line z) 1 0

abbrev times : List ℕ → List (List ℕ) → ℕ
times z ls = sum_by (one z) ls

times-cons : (z line : List ℕ) (ls : List (List ℕ)) → times z (line ∷ ls) ≡ one z line + times z ls
times-cons z line ls = sum_by-cons (one z) line ls

times-placed : (z line : List ℕ) (ls : List (List ℕ)) → times z (placed line ls) ≡ one z line + times z ls
times-placed z line [] = times-cons z line []
times-placed z line (first ∷ more) = go (is_le (cmp line first)) (times-placed z line more)
  where
    go : (b : Bool) → times z (placed line more) ≡ one z line + times z more → times z (cond b (line ∷ first ∷ more) (first ∷ placed line more)) ≡ one z line + times z (first ∷ more)
    go true e = times-cons z line (first ∷ more)
    go false e = omega (arith, e, times-cons z first more, times-cons z first (placed line more))

times-in_order : (z : List ℕ) (ls : List (List ℕ)) → times z (in_order ls) ≡ times z ls
times-in_order z [] = refl
times-in_order z (line ∷ more) = let e = times-placed z line (in_order more) in let f = times-in_order z more in omega (arith, e, f, times-cons z line more)

one_itself : (z : List ℕ) → one z z ≡ 1
one_itself z = rw ((bytes_eq-Decides z z).1 refl) refl

Upto-among : (a z : List ℕ) (ls : List (List ℕ)) → Before a ls → 0 < times z ls → Upto a z
Upto-among a z [] all h = absurd (omega arith)
Upto-among a z (line ∷ more) all h = head (bytes_eq line z) refl (Upto-among a z more all.1)
  where
    head : (b : Bool) → bytes_eq line z ≡ b → (0 < times z more → Upto a z) → Upto a z
    head true e later = subst (λ l. Upto a l) ((bytes_eq-Decides line z).0 e) all.0
    head false e later = later (let k : one z line ≡ 0 = rw e refl in omega (arith, k, h, times-cons z line more))

-- a line that comes stands no earlier than the first
Upto-found : (a z : List ℕ) (more : List (List ℕ)) → Before a more → 0 < times z (a ∷ more) → Upto a z
Upto-found a z more all h = head (bytes_eq a z) refl
  where
    head : (b : Bool) → bytes_eq a z ≡ b → Upto a z
    head true e = subst (λ l. Upto a l) ((bytes_eq-Decides a z).0 e) (Upto-refl a)
    head false e = Upto-among a z more all (let k : one z a ≡ 0 = rw e refl in omega (arith, k, h, times-cons z a more))

-- two lists that rise and have the same lines are one
unique : (xs ys : List (List ℕ)) → Rising xs → Rising ys → ((z : List ℕ) → times z xs ≡ times z ys) → xs ≡ ys
unique [] [] up down same = refl
unique [] (y ∷ ys) up down same = let e = same y in let k = one_itself y in absurd (omega (arith, e, k, times-cons y y ys))
unique (x ∷ xs) [] up down same = let e = same x in let k = one_itself x in absurd (omega (arith, e, k, times-cons x x xs))
unique (x ∷ xs) (y ∷ ys) up down same =
    let before : Upto x y = Upto-found x y xs up.0 (let e = same y in let k = one_itself y in omega (arith, e, k, times-cons y y ys)) in
    let behind : Upto y x = Upto-found y x ys down.0 (let e = same x in let k = one_itself x in omega (arith, e, k, times-cons x x xs)) in
    let first : x ≡ y = Upto-both x y before behind in
    let rest : xs ≡ ys = unique xs ys up.1 down.1 (λ z. let e = same z in let k : one z x ≡ one z y = ap (one z) first in omega (arith, e, k, times-cons z x xs, times-cons z y ys)) in
    ap (λ (l : List ℕ). l ∷ xs) first ∙ ap (λ (ls : List (List ℕ)). y ∷ ls) rest

blank : Bor (List ℕ)
blank = record { ref_ptr = (0, 0); now = [] }

abbrev SortedLines : List (Bor (List ℕ)) → Type 0
SortedLines xs = IsSorted (λ a b. slice_cmp nat_cmp a.now b.now) xs

Sorted-tail : (x : Bor (List ℕ)) (xs : List (Bor (List ℕ))) → SortedLines (x ∷ xs) → SortedLines xs
Sorted-tail x xs h = λ k d low below.
    let e : suc k + 1 ≡ suc (k + 1) = omega arith in
    subst (λ (j : ℕ). is_lt (cmp (get_or (x ∷ xs) j d).now (get_or (x ∷ xs) (suc k) d).now) ≡ false) e (h (suc k) d (omega arith) (omega arith))

Rising-sorted : (xs : List (Bor (List ℕ))) → SortedLines xs → Rising (map (λ l. l.now) xs)
Rising-sorted [] h = tt
Rising-sorted (x ∷ []) h = (tt, tt)
Rising-sorted (x ∷ y ∷ more) h =
    let rest = Rising-sorted (y ∷ more) (Sorted-tail x (y ∷ more) h) in
    let first : Upto x.now y.now = ap is_le (reversed x.now y.now) ∙ le_reversed (cmp y.now x.now) (h 0 blank (omega arith) (omega arith)) in
    ((first, Before-earlier x.now y.now (map (λ l. l.now) more) first rest.0), rest)

pub in_order-sorted : (xs ys : List (Bor (List ℕ))) → IsPermutation xs ys → SortedLines ys → map (λ l. l.now) ys ≡ in_order (map (λ l. l.now) xs)
in_order-sorted xs ys moved sorted =
    unique (map (λ l. l.now) ys) (in_order (map (λ l. l.now) xs)) (Rising-sorted ys sorted) (Rising-in_order (map (λ l. l.now) xs))
    (λ z. sum_by-IsPermutation (one z) (map (λ l. l.now) xs) (map (λ l. l.now) ys) (IsPermutation-map (λ l. l.now) xs ys moved) ∙ sym (times-in_order z (map (λ l. l.now) xs)))
