-- The pieces of printed data, from the front.
use Rattle.std.proofs.Common.{◌≡◌, ℕ, zero, suc, ◌+◌, ◌-◌, ◌*◌, ◌/◌, ◌%◌, ◌<◌, ◌≤◌, ◌==◌, Bool, true, false, not, cond, List, [], ◌∷◌, ◌++◌, length, take, drop, map, refl, sym, ◌∙◌, ap, arith, eqb, slice_index, length-drop}
use Rattle.std.specs.List.{list_all, prefix_len, position_or_len, join_with_byte}
use Rattle.std.proofs.lemmas.Bool.{eq-eqb, ne_eqb, eqb-true}
use Rattle.std.proofs.lemmas.List.{get_or-take, length-take-le, drop-drop, append-nil, append_assoc}
use Rattle.std.proofs.lemmas.List.Sums.{prefix_len-le-length}
use Rattle.hex.specs.Hex.{encode_lower}
use Rattle.script_lines.specs.Printed.{sectors, Piece, run, digits, piece_of, joined, pieces_of, piece_text, printed_sectors, printed, printed_behind}

-- a test that fails twice is the test
not-not : (b : Bool) → not (not b) ≡ b
not-not true = refl
not-not false = refl

pub other_than : (first : ℕ) (xs : List ℕ) → position_or_len (λ b. not (b == first)) xs ≡ prefix_len (λ b. b == first) xs
other_than first xs = ap (λ p. prefix_len p xs) (λ i x. not-not (x == first) i)

-- a front of a list that passes a test, and how far it passes
all_within : (p : ℕ → Bool) (n : ℕ) (xs : List ℕ) → n ≤ prefix_len p xs → list_all p (take n xs) ≡ true
all_within p zero xs h = refl
all_within p (suc n) [] h = refl
all_within p (suc n) (x ∷ xs) h = go (p x) refl (all_within p n xs) h
  where
    go : (v : Bool) → p x ≡ v → (n ≤ prefix_len p xs → list_all p (take n xs) ≡ true) → suc n ≤ cond (p x) (1 + prefix_len p xs) 0
        → list_all p (take (suc n) (x ∷ xs)) ≡ true
    go true e rest h = let k : suc n ≤ 1 + prefix_len p xs = rw e at h in rw e (rest (omega arith))
    go false e rest h = let k : suc n ≤ 0 = rw e at h in absurd (omega arith)

not_within : (p : ℕ → Bool) (n : ℕ) (xs : List ℕ) → n ≤ length xs → prefix_len p xs < n → list_all p (take n xs) ≡ false
not_within p zero xs within h = absurd (omega arith)
not_within p (suc n) [] within h = absurd (omega arith)
not_within p (suc n) (x ∷ xs) within h = go (p x) refl (not_within p n xs (omega arith)) h
  where
    go : (v : Bool) → p x ≡ v → (prefix_len p xs < n → list_all p (take n xs) ≡ false) → cond (p x) (1 + prefix_len p xs) 0 < suc n
        → list_all p (take (suc n) (x ∷ xs)) ≡ false
    go true e rest h = let k : 1 + prefix_len p xs < suc n = rw e at h in rw e (rest (omega arith))
    go false e rest h = rw e refl

-- and what is left of it behind a front
prefix_drop : (p : ℕ → Bool) (n : ℕ) (xs : List ℕ) → n ≤ prefix_len p xs → prefix_len p (drop n xs) + n ≡ prefix_len p xs
prefix_drop p zero xs h = omega arith
prefix_drop p (suc n) [] h = absurd (omega arith)
prefix_drop p (suc n) (x ∷ xs) h = go (p x) refl (prefix_drop p n xs) h
  where
    go : (v : Bool) → p x ≡ v → (n ≤ prefix_len p xs → prefix_len p (drop n xs) + n ≡ prefix_len p xs) → suc n ≤ cond (p x) (1 + prefix_len p xs) 0
        → prefix_len p (drop n xs) + suc n ≡ cond (p x) (1 + prefix_len p xs) 0
    go true e rest h = let k : suc n ≤ 1 + prefix_len p xs = rw e at h in rw e (omega (arith, rest (omega arith)))
    go false e rest h = let k : suc n ≤ 0 = rw e at h in absurd (omega arith)

-- no run of this byte comes first
abbrev NoRun : ℕ → List Piece → Type 0
NoRun b [] = Unit {0}
NoRun b (run m c ∷ ps) = c ≡ b → ⊥
NoRun b (digits s ∷ ps) = Unit {0}

NoRun-joined : (b l c : ℕ) (ps : List Piece) → (c ≡ b → ⊥) → NoRun b (joined (run l c) ps)
NoRun-joined b l c [] other = other
NoRun-joined b l c (digits s ∷ ps) other = other
NoRun-joined b l c (run m d ∷ ps) other = go (c == d)
  where
    go : (v : Bool) → NoRun b (cond v (run (l + m) c ∷ ps) (run l c ∷ run m d ∷ ps))
    go true = other
    go false = other

joined-apart : (b l : ℕ) (ps : List Piece) → NoRun b ps → joined (run l b) ps ≡ run l b ∷ ps
joined-apart b l [] h = refl
joined-apart b l (digits s ∷ ps) h = refl
joined-apart b l (run m c ∷ ps) h =
    let test : eqb b c ≡ false = ne_eqb b c (λ e. h (sym e)) in rw test refl

joined-same : (b l m : ℕ) (ps : List Piece) → joined (run l b) (run m b ∷ ps) ≡ run (l + m) b ∷ ps
joined-same b l m ps = let test : eqb b b ≡ true = eq-eqb b b refl in rw test refl

joined-some : (p : Piece) (ps : List Piece) → joined p ps ≡ [] → ⊥
joined-some (digits s) ps e = cc e
joined-some (run l b) [] e = cc e
joined-some (run l b) (digits s ∷ ps) e = cc e
joined-some (run l b) (run m c ∷ ps) e = go (b == c) e
  where
    go : (v : Bool) → cond v (run (l + m) b ∷ ps) (run l b ∷ run m c ∷ ps) ≡ [] → ⊥
    go true e = cc e
    go false e = cc e

-- a sector that doesn't hold this byte alone
no_run : (b n : ℕ) (xs : List ℕ) → length xs ≡ 512 * n → prefix_len (λ x. x == b) xs < 512 → NoRun b (pieces_of (sectors n xs))
unfolding pieces_of sectors
no_run b zero xs size short = tt
no_run b (suc n) xs size short =
    go (pieces_of (sectors n (drop 512 xs))) (take 512 xs) (list_all (λ x. x == slice_index (take 512 xs) 0) (take 512 xs)) refl
    (not_within (λ x. x == b) 512 xs (omega arith) short)
  where
    go : (ps : List Piece) (s : List ℕ) (v : Bool) → list_all (λ x. x == slice_index s 0) s ≡ v → list_all (λ x. x == b) s ≡ false
        → NoRun b (joined (cond v (run (length s) (slice_index s 0)) (digits s)) ps)
    go ps s true e other =
        NoRun-joined b (length s) (slice_index s 0) ps (λ same. let f : list_all (λ x. x == b) s ≡ true = rw same at e in cc (f, other))
    go ps s false e other = tt

-- a run before other pieces
abbrev with_run : ℕ → ℕ → List Piece → List Piece
with_run zero b ps = ps
with_run (suc k) b ps = run (512 * suc k) b ∷ ps

longer : (b k : ℕ) (ps : List Piece) → NoRun b ps → joined (run 512 b) (with_run k b ps) ≡ run (512 * suc k) b ∷ ps
longer b zero ps h = joined-apart b 512 ps h
longer b (suc k) ps h =
    let total : 512 + 512 * suc k ≡ 512 * suc (suc k) = omega arith in
    joined-same b 512 (512 * suc k) ps ∙ ap (λ n. run n b ∷ ps) total

prefix_head : (b : ℕ) (xs : List ℕ) → 0 < prefix_len (λ x. x == b) xs → slice_index xs 0 ≡ b
prefix_head b [] h = absurd (omega arith)
prefix_head b (x ∷ xs) h = go (x == b) refl h
  where
    go : (v : Bool) → (x == b) ≡ v → 0 < cond (x == b) (1 + prefix_len (λ y. y == b) xs) 0 → x ≡ b
    go true e h = eqb-true x b e
    go false e h = let k : 0 < 0 = rw e at h in absurd (omega arith)

-- the pieces of data that begins with so many sectors of one byte, and no more
record Leads (b r m n : ℕ) (xs : List ℕ) : Type 0 where
  front : pieces_of (sectors n xs) ≡ with_run r b (pieces_of (sectors m (drop (512 * r) xs)))
  ends : NoRun b (pieces_of (sectors m (drop (512 * r) xs)))

leads : (b r m n : ℕ) (xs : List ℕ) → m + r ≡ n → length xs ≡ 512 * n → 512 * r ≤ prefix_len (λ x. x == b) xs → prefix_len (λ x. x == b) xs < 512 * r + 512
    → Leads b r m n xs
unfolding pieces_of sectors
leads b zero m n xs e size low high =
    let same : m ≡ n = omega arith in
    let out : NoRun b (pieces_of (sectors m xs)) = no_run b m xs (omega arith) (omega arith) in
    record { front = ap (λ k. pieces_of (sectors k xs)) (sym same); ends = out }
leads b (suc r) m zero xs e size low high = absurd (omega arith)
leads b (suc r) m (suc n) xs e size low high =
    let p : ℕ → Bool = λ x. x == b in
    let dropped = prefix_drop p 512 xs (omega arith) in
    let rest = leads b r m n (drop 512 xs) (omega arith) (simp length-drop (omega arith)) (omega (arith, dropped)) (omega (arith, dropped)) in
    let first : slice_index (take 512 xs) 0 ≡ b = get_or-take 512 xs 0 0 (omega arith) ∙ prefix_head b xs (omega arith) in
    let same : list_all (λ x. x == slice_index (take 512 xs) 0) (take 512 xs) ≡ true = rw first (all_within p 512 xs (omega arith)) in
    let len : length (take 512 xs) ≡ 512 = length-take-le 512 xs (omega (arith, prefix_len-le-length p xs)) in
    let piece : piece_of (take 512 xs) ≡ run 512 b = rw (same, len, first) refl in
    let upto : 512 + 512 * r ≡ 512 * suc r = omega arith in
    let behind : drop (512 * r) (drop 512 xs) ≡ drop (512 * suc r) xs = drop-drop (512 * r) 512 xs ∙ ap (λ k. drop k xs) upto in
    record {
      front = ap (λ q. joined q (pieces_of (sectors n (drop 512 xs)))) piece
          ∙ ap (joined (run 512 b)) rest.front
          ∙ longer b r (pieces_of (sectors m (drop (512 * r) (drop 512 xs)))) rest.ends
          ∙ ap (λ ys. run (512 * suc r) b ∷ pieces_of (sectors m ys)) behind;
      ends = rw behind at rest.ends;
    }

-- data that begins with a run
pub run_first : (xs : List ℕ) (r n m : ℕ) → 0 < r → m + r ≡ n → length xs ≡ 512 * n
    → r ≡ prefix_len (λ x. x == slice_index xs 0) xs / 512
    → pieces_of (sectors n xs) ≡ run (512 * r) (slice_index xs 0) ∷ pieces_of (sectors m (drop (512 * r) xs))
run_first xs zero n m some e size is = absurd (omega arith)
run_first xs (suc r) n m some e size is =
    (leads (slice_index xs 0) (suc r) m n xs e size (omega arith) (omega arith)).front

-- data that begins with another sector
pub digits_first : (xs : List ℕ) (m : ℕ) → length xs ≡ 512 * suc m → prefix_len (λ x. x == slice_index xs 0) xs < 512
    → pieces_of (sectors (suc m) xs) ≡ digits (take 512 xs) ∷ pieces_of (sectors m (drop 512 xs))
unfolding pieces_of sectors
digits_first xs m size short =
    let first : slice_index (take 512 xs) 0 ≡ slice_index xs 0 = get_or-take 512 xs 0 0 (omega arith) in
    let test : list_all (λ x. x == slice_index (take 512 xs) 0) (take 512 xs) ≡ false =
    rw first (not_within (λ x. x == slice_index xs 0) 512 xs (omega arith) short) in
    rw test refl

-- what the first piece prints, and what is behind it
join_first : (p : Piece) (ps : List Piece) → (ps ≡ [] → ⊥)
    → join_with_byte 43 (map piece_text (p ∷ ps)) ≡ piece_text p ++ (43 ∷ join_with_byte 43 (map piece_text ps))
join_first p [] some = absurd (some refl)
join_first p (q ∷ qs) some = refl

pieces-some : (m : ℕ) (xs : List ℕ) → 0 < m → pieces_of (sectors m xs) ≡ [] → ⊥
unfolding pieces_of sectors
pieces-some zero xs some e = omega arith
pieces-some (suc m) xs some e = joined-some (piece_of (take 512 xs)) (pieces_of (sectors m (drop 512 xs))) e

pub printed_first : (p : Piece) (xs rest : List ℕ) (n m : ℕ) → length xs ≡ 512 * n → length rest ≡ 512 * m
    → pieces_of (sectors n xs) ≡ p ∷ pieces_of (sectors m rest) → printed xs ≡ piece_text p ++ printed_behind rest
unfolding printed printed_sectors printed_behind pieces_of sectors
printed_first p xs [] n m size left e =
    let count : length xs / 512 ≡ n = omega arith in
    let none : m ≡ 0 = omega arith in
    rw (count, e, none) (sym (append-nil (piece_text p)))
printed_first p xs (b ∷ bs) n m size left e =
    let count : length xs / 512 ≡ n = omega arith in
    let more : length (b ∷ bs) / 512 ≡ m = omega arith in
    rw (count, e, more) (join_first p (pieces_of (sectors m (b ∷ bs))) (pieces-some m (b ∷ bs) (omega arith)))

pub nothing_printed : (xs : List ℕ) → length xs ≡ 0 → (printed xs ≡ []) × (printed_behind xs ≡ [])
unfolding printed printed_sectors printed_behind pieces_of sectors
nothing_printed [] e = (refl, refl)
nothing_printed (x ∷ xs) e = absurd (omega arith)

pub printed_more : (xs : List ℕ) → 0 < length xs → printed_behind xs ≡ 43 ∷ printed xs
unfolding printed_behind
printed_more [] some = absurd (omega arith)
printed_more (x ∷ xs) some = refl

-- what is pushed for the first piece
pub run_printed : (xs : List ℕ) (size : ℕ) → length xs % 512 ≡ 0 → 0 < size → size ≤ length xs
    → size ≡ 512 * (prefix_len (λ x. x == slice_index xs 0) xs / 512)
    → printed xs ≡ piece_text (run size (slice_index xs 0)) ++ printed_behind (drop size xs)
run_printed xs size whole some within is =
    let r = prefix_len (λ x. x == slice_index xs 0) xs / 512 in
    let n = length xs / 512 in
    let first = run_first xs r n (n - r) (omega arith) (omega arith) (omega arith) refl in
    let left : length (drop (512 * r) xs) ≡ 512 * (n - r) = simp length-drop (omega arith) in
    rw is (printed_first (run (512 * r) (slice_index xs 0)) xs (drop (512 * r) xs) n (n - r) (omega arith) left first)

pub digits_printed : (xs : List ℕ) → length xs % 512 ≡ 0 → 0 < length xs
    → 512 * (prefix_len (λ x. x == slice_index xs 0) xs / 512) ≤ 0
    → printed xs ≡ encode_lower (take 512 xs) ++ printed_behind (drop 512 xs)
digits_printed xs whole some none =
    let m = length xs / 512 - 1 in
    let size : length xs ≡ 512 * suc m = omega arith in
    let left : length (drop 512 xs) ≡ 512 * m = simp length-drop (omega arith) in
    printed_first (digits (take 512 xs)) xs (drop 512 xs) (suc m) m size left (digits_first xs m size (omega arith))

pub pushed : (old new piece behind all : List ℕ) → new ≡ old ++ piece → all ≡ piece ++ behind → new ++ behind ≡ old ++ all
pushed old new piece behind all is parts = rw (is, parts) (append_assoc old piece behind)
