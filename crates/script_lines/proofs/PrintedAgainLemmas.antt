-- Printed data, read again as data text.
use Rattle.std.proofs.Common.{◌≡◌, ℕ, zero, suc, ◌+◌, ◌*◌, ◌/◌, ◌%◌, ◌<◌, ◌≤◌, ◌^◌, ◌==◌, ◌&&◌, Bool, true, false, cond, List, [], ◌∷◌, ◌++◌, length, take, drop, map, replicate, refl, sym, ◌∙◌, ap, arith, position, Some, None, Ok, ltb, leb, slice_index, length-append, length-drop}
use Rattle.std.specs.Prelude.{All, decimal}
use Rattle.std.specs.List.{list_all, slice_split, position_or_len, join_with_byte}
use Rattle.std.specs.Char.{is_ascii_digit}
use Rattle.std.proofs.lemmas.Bool.{and_parts, eqb-true, lt-ltb, le-ltb, le-leb}
use Rattle.std.proofs.lemmas.Bool.Decides.{nat_tests}
use Rattle.std.proofs.lemmas.Fmt.{digits_decimal}
use Rattle.std.proofs.lemmas.List.{append_assoc, append-nil, take-append-drop, length-replicate, replicate-append-replicate, length-take-le}
use Rattle.std.proofs.lemmas.List.Elements.{All-head, All-tail, All-nil, All-cons, All-append, All-take, All-drop}
use Rattle.std.proofs.Math.Seq.{take-append_seam, drop-append-add}
use Rattle.hex.specs.Hex.{IsBytes, decode_sized, encode_lower, encode_with, lower_digits}
use Rattle.hex.proofs.HexLemmas.{decode_of-encode_lower, decode_sized-twice, length-encode_with}
use Rattle.script_lines.specs.Data.{is_plus, is_star, byte_of, digits_of, part_of, parts_of, within_bounds, data_of}
use Rattle.script_lines.specs.Printed.{sectors, Piece, run, digits, piece_of, joined, pieces_of, piece_text, printed_sectors, printed}
use Rattle.decimal_numbers.proofs.NumberLemmas.{own, number_of-decimal}
use Rattle.script_lines.proofs.IdentifierLemmas.{passes_at}
use Rattle.script_lines.proofs.DataLemmas.{part_run, part_digits, byte_of-ok}
use Rattle.script_lines.proofs.JoinedLemmas.{Each, Lacks, lacks, passes_more, split_joined}

-- a byte of a number or of lower-case hexadecimal digits
abbrev pub is_figure : ℕ → Bool
is_figure b = leb 48 b && leb b 102

-- decimal digits
digit_is_figure : (b : ℕ) → is_ascii_digit b ≡ true → is_figure b ≡ true
digit_is_figure b e = grind (arith, nat_tests)

pub decimal_figures : (n : ℕ) → n < 2 ^ 64 → list_all is_figure (decimal n) ≡ true
decimal_figures n h = passes_more is_ascii_digit is_figure digit_is_figure (decimal n) (digits_decimal own n h)

-- hexadecimal digits
figure_at : (d : ℕ) → d < 16 → is_figure (slice_index lower_digits d) ≡ true
figure_at d h = passes_at is_figure lower_digits d h refl

pub bytes_from : (xs : List ℕ) → All (λ b. b < 256) xs → IsBytes xs
bytes_from [] h i = omega arith
bytes_from (x ∷ xs) h zero = All-head (λ b. b < 256) x xs h
bytes_from (x ∷ xs) h (suc i) = bytes_from xs (All-tail (λ b. b < 256) x xs h) i

pub encoded_figures : (xs : List ℕ) → All (λ b. b < 256) xs → list_all is_figure (encode_lower xs) ≡ true
unfolding encode_with
encoded_figures [] h = refl
encoded_figures (x ∷ xs) h =
    let small = All-head (λ b. b < 256) x xs h in
    rw (figure_at (x / 16) (omega arith), figure_at (x % 16) (omega arith), encoded_figures xs (All-tail (λ b. b < 256) x xs h)) refl

-- figures are no sign between parts
figure_no_plus : (b : ℕ) → is_figure b ≡ true → (b == 43) ≡ false
figure_no_plus b e = grind (arith, nat_tests)

figure_no_star : (b : ℕ) → is_figure b ≡ true → (b == 42) ≡ false
figure_no_star b e = grind (arith, nat_tests)

-- the first star of a run's text
star_place : (front back : List ℕ) → list_all is_figure front ≡ true → position_or_len is_star (front ++ 42 ∷ back) ≡ length front
star_place [] back e = refl
star_place (x ∷ xs) back e =
    let parts = and_parts (is_figure x) (list_all is_figure xs) e in
    let rest = star_place xs back parts.1 in
    rw (figure_no_star x parts.0) (omega (arith, rest))

no_star : (xs : List ℕ) → list_all is_figure xs ≡ true → position_or_len is_star xs ≡ length xs
no_star [] e = refl
no_star (x ∷ xs) e =
    let parts = and_parts (is_figure x) (list_all is_figure xs) e in
    let rest = no_star xs parts.1 in
    rw (figure_no_star x parts.0) (omega (arith, rest))

-- a byte of two digits, and digits
byte_read : (b : ℕ) → b < 256 → byte_of (encode_lower (b ∷ [])) ≡ Some b
byte_read b h =
    let all : All (λ c. c < 256) (b ∷ []) = All-cons (λ c. c < 256) b [] h (All-nil (λ c. c < 256)) in
    let sized : decode_sized (encode_lower (b ∷ [])) 1 ≡ Ok (b ∷ []) =
    decode_sized-twice (encode_lower (b ∷ [])) 1 (length-encode_with lower_digits (b ∷ [])) ∙ decode_of-encode_lower (b ∷ []) (bytes_from (b ∷ []) all) in
    sym (byte_of-ok (encode_lower (b ∷ [])) (b ∷ []) sized)

digits_read : (xs : List ℕ) → All (λ b. b < 256) xs → 0 < length xs → digits_of (encode_lower xs) ≡ Some xs
unfolding digits_of
digits_read xs h some =
    let twice = length-encode_with lower_digits xs in
    let test : ltb 0 (length (encode_lower xs)) ≡ true = lt-ltb 0 (length (encode_lower xs)) (omega (arith, twice)) in
    rw (test, decode_of-encode_lower xs (bytes_from xs h)) refl

-- the bytes of pieces
abbrev pub piece_bytes : Piece → List ℕ
piece_bytes (run n b) = replicate n b
piece_bytes (digits s) = s

abbrev pub all_bytes : List Piece → List ℕ
all_bytes [] = []
all_bytes (p ∷ ps) = piece_bytes p ++ all_bytes ps

-- pieces of bytes, and none is empty
abbrev pub IsPiece : Piece → Type 0
IsPiece (run n b) = (0 < n) × (b < 256)
IsPiece (digits s) = (0 < length s) × All (λ b. b < 256) s

abbrev pub ArePieces : List Piece → Type 0
ArePieces [] = Unit {0}
ArePieces (p ∷ ps) = IsPiece p × ArePieces ps

-- a piece reads as its bytes
part_read : (p : Piece) → IsPiece p → length (piece_bytes p) ≤ 65536 → part_of (piece_text p) ≡ Some (piece_bytes p)
part_read (digits s) h short =
    let figures = encoded_figures s h.1 in
    let test : ltb (position_or_len is_star (encode_lower s)) (length (encode_lower s)) ≡ false = le-ltb _ _ (omega (arith, no_star (encode_lower s) figures)) in
    let none : None ≡ position is_star (encode_lower s) = rw test refl in
    part_digits (encode_lower s) none ∙ digits_read s h.1 h.0
part_read (run n b) h short =
    let small : n ≤ 65536 = omega (arith, length-replicate n b) in
    let figures = decimal_figures n (omega arith) in
    let back = encode_lower (b ∷ []) in
    let place = star_place (decimal n) back figures in
    let test : ltb (position_or_len is_star (decimal n ++ 42 ∷ back)) (length (decimal n ++ 42 ∷ back)) ≡ true =
    lt-ltb _ _ (omega (arith, place, length-append (decimal n) (42 ∷ back))) in
    let found : Some (length (decimal n)) ≡ position is_star (decimal n ++ 42 ∷ back) = rw test (ap Some (sym place)) in
    let low : leb 1 n ≡ true = le-leb 1 n (omega arith) in
    let high : leb n 65536 ≡ true = le-leb n 65536 small in
    part_run (decimal n ++ 42 ∷ back) (length (decimal n)) found
    ∙ rw (take-append_seam (decimal n) (42 ∷ back), drop-append-add (decimal n) (42 ∷ back) 1, number_of-decimal n (omega arith), byte_read b h.1, low, high) refl

parts_read : (ps : List Piece) → ArePieces ps → length (all_bytes ps) ≤ 65536 → parts_of (map piece_text ps) ≡ Some (all_bytes ps)
unfolding parts_of
parts_read [] h short = refl
parts_read (p ∷ ps) h short =
    let total = length-append (piece_bytes p) (all_bytes ps) in
    rw (part_read p h.0 (omega (arith, total)), parts_read ps h.1 (omega (arith, total))) refl

-- no piece's text has a plus
piece_lacks : (p : Piece) → IsPiece p → length (piece_bytes p) ≤ 65536 → Lacks 43 (piece_text p)
piece_lacks (digits s) h short = lacks 43 is_figure figure_no_plus (encode_lower s) (encoded_figures s h.1)
piece_lacks (run n b) h short =
    let all : All (λ c. c < 256) (b ∷ []) = All-cons (λ c. c < 256) b [] h.1 (All-nil (λ c. c < 256)) in
    let back = lacks 43 is_figure figure_no_plus (encode_lower (b ∷ [])) (encoded_figures (b ∷ []) all) in
    All-append (λ c. (c == 43) ≡ false) (decimal n) (42 ∷ encode_lower (b ∷ []))
    (lacks 43 is_figure figure_no_plus (decimal n) (decimal_figures n (omega (arith, length-replicate n b))))
    (All-cons (λ c. (c == 43) ≡ false) 42 (encode_lower (b ∷ [])) refl back)

pieces_lack : (ps : List Piece) → ArePieces ps → length (all_bytes ps) ≤ 65536 → Each (Lacks 43) (map piece_text ps)
pieces_lack [] h short = tt
pieces_lack (p ∷ ps) h short =
    let total = length-append (piece_bytes p) (all_bytes ps) in
    (piece_lacks p h.0 (omega (arith, total)), pieces_lack ps h.1 (omega (arith, total)))

-- texts of pieces, with a plus between each two
pub pieces_read : (p : Piece) (ps : List Piece) → ArePieces (p ∷ ps) → length (all_bytes (p ∷ ps)) ≤ 65536
    → data_of (join_with_byte 43 (map piece_text (p ∷ ps))) ≡ Some (all_bytes (p ∷ ps))
unfolding data_of
pieces_read p ps h short =
    let lack = pieces_lack (p ∷ ps) h short in
    let split : slice_split is_plus (join_with_byte 43 (map piece_text (p ∷ ps))) ≡ map piece_text (p ∷ ps) =
    split_joined 43 (piece_text p) (map piece_text ps) lack.0 lack.1 in
    let test : leb (length (all_bytes (p ∷ ps))) 65536 ≡ true = le-leb _ _ short in
    ap (λ parts. within_bounds (parts_of parts)) split
    ∙ ap within_bounds (parts_read (p ∷ ps) h short) ∙ rw test refl

-- digits alone
pub encoded_reads : (xs : List ℕ) → All (λ b. b < 256) xs → 0 < length xs → length xs ≤ 65536 → data_of (encode_lower xs) ≡ Some xs
encoded_reads xs h some short =
    let whole : all_bytes (digits xs ∷ []) ≡ xs = append-nil xs in
    pieces_read (digits xs) [] ((some, h), tt) (rw whole short) ∙ ap Some whole

-- joined pieces have the same bytes
bytes-joined : (p : Piece) (ps : List Piece) → all_bytes (joined p ps) ≡ piece_bytes p ++ all_bytes ps
bytes-joined (digits s) ps = refl
bytes-joined (run n b) [] = refl
bytes-joined (run n b) (digits s ∷ ps) = refl
bytes-joined (run n b) (run m c ∷ ps) = go (b == c) refl
  where
    go : (v : Bool) → (b == c) ≡ v → all_bytes (cond v (run (n + m) b ∷ ps) (run n b ∷ run m c ∷ ps)) ≡ replicate n b ++ (replicate m c ++ all_bytes ps)
    go true e =
        rw (← eqb-true b c e) (ap (λ xs. xs ++ all_bytes ps) (sym (replicate-append-replicate n m b)) ∙ append_assoc (replicate n b) (replicate m b) (all_bytes ps))
    go false e = refl

pieces-joined : (p : Piece) (ps : List Piece) → IsPiece p → ArePieces ps → ArePieces (joined p ps)
pieces-joined (digits s) ps h k = (h, k)
pieces-joined (run n b) [] h k = (h, k)
pieces-joined (run n b) (digits s ∷ ps) h k = (h, k)
pieces-joined (run n b) (run m c ∷ ps) h k = go (b == c)
  where
    go : (v : Bool) → ArePieces (cond v (run (n + m) b ∷ ps) (run n b ∷ run m c ∷ ps))
    go true = ((omega (arith, h.0), h.1), k.1)
    go false = (h, k)

-- a sector's piece
all_same : (b : ℕ) (s : List ℕ) → list_all (λ x. x == b) s ≡ true → replicate (length s) b ≡ s
all_same b [] e = refl
all_same b (x ∷ xs) e =
    let parts = and_parts (x == b) (list_all (λ y. y == b) xs) e in
    let first : x ≡ b = eqb-true x b parts.0 in
    rw first (ap (λ ys. b ∷ ys) (all_same b xs parts.1))

piece-of_bytes : (s : List ℕ) → piece_bytes (piece_of s) ≡ s
piece-of_bytes s = go (list_all (λ x. x == slice_index s 0) s) refl
  where
    go : (v : Bool) → list_all (λ x. x == slice_index s 0) s ≡ v → piece_bytes (cond v (run (length s) (slice_index s 0)) (digits s)) ≡ s
    go true e = all_same (slice_index s 0) s e
    go false e = refl

piece-of_is : (s : List ℕ) → 0 < length s → All (λ b. b < 256) s → IsPiece (piece_of s)
piece-of_is s some h = go (list_all (λ x. x == slice_index s 0) s)
  where
    go : (v : Bool) → IsPiece (cond v (run (length s) (slice_index s 0)) (digits s))
    go true = (some, bytes_from s h 0)
    go false = (some, h)

-- the pieces of data have its bytes
nothing : (xs : List ℕ) → length xs ≡ 0 → [] ≡ xs
nothing [] e = refl
nothing (x ∷ xs) e = absurd (omega arith)

pieces_bytes : (n : ℕ) (xs : List ℕ) → length xs ≡ 512 * n → all_bytes (pieces_of (sectors n xs)) ≡ xs
unfolding pieces_of sectors
pieces_bytes zero xs e = nothing xs (omega arith)
pieces_bytes (suc n) xs e =
    bytes-joined (piece_of (take 512 xs)) (pieces_of (sectors n (drop 512 xs)))
    ∙ rw (piece-of_bytes (take 512 xs), pieces_bytes n (drop 512 xs) (simp length-drop (omega arith))) (take-append-drop 512 xs)

pieces_are : (n : ℕ) (xs : List ℕ) → length xs ≡ 512 * n → All (λ b. b < 256) xs → ArePieces (pieces_of (sectors n xs))
unfolding pieces_of sectors
pieces_are zero xs e h = tt
pieces_are (suc n) xs e h =
    let size : length (take 512 xs) ≡ 512 = length-take-le 512 xs (omega arith) in
    pieces-joined (piece_of (take 512 xs)) (pieces_of (sectors n (drop 512 xs)))
    (piece-of_is (take 512 xs) (omega arith) (All-take (λ b. b < 256) 512 xs h))
    (pieces_are n (drop 512 xs) (simp length-drop (omega arith)) (All-drop (λ b. b < 256) 512 xs h))

pub printed_reads : (bytes : List ℕ) → All (λ b. b < 256) bytes → length bytes % 512 ≡ 0 → 0 < length bytes
    → length bytes ≤ 65536 → data_of (printed bytes) ≡ Some bytes
unfolding printed printed_sectors
printed_reads bytes h whole some short =
    go (pieces_of (sectors (length bytes / 512) bytes)) (pieces_bytes (length bytes / 512) bytes (omega arith)) (pieces_are (length bytes / 512) bytes (omega arith) h)
  where
    go : (ps : List Piece) → all_bytes ps ≡ bytes → ArePieces ps → data_of (join_with_byte 43 (map piece_text ps)) ≡ Some bytes
    go [] e k = let none : length bytes ≡ 0 = ap length (sym e) in absurd (omega arith)
    go (p ∷ ps) e k = pieces_read p ps k (rw e short) ∙ ap Some e
