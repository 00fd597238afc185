-- The bytes of data text, part by part.
use Rattle.std.proofs.Common.{◌≡◌, ℕ, ◌+◌, ◌-◌, ◌*◌, ◌/◌, ◌%◌, ◌<◌, ◌≤◌, Bool, true, false, cond, List, [], ◌∷◌, ◌++◌, length, take, drop, refl, sym, ◌∙◌, ap, arith, position, Option, Some, None, Result, Ok, Err, MatchResult, ltb, leb, slice_range, slice_index, inl, inr, length-append, length-take}
use Rattle.std.specs.List.{slice_split, position_or_len}
use Rattle.std.specs.Result.{result_ok}
use Rattle.std.proofs.lemmas.List.{take-append-drop, take-take, append-nil, append_assoc, drop-take}
use Rattle.std.proofs.lemmas.List.Elements.{All-from_get_or}
use Rattle.std.proofs.lemmas.List.Splits.{slice_split_first, slice_split_none}
use Rattle.std.proofs.lemmas.List.Sums.{fails_before_first}
use Rattle.std.proofs.lemmas.Slice.{take-put_mid_below, between-put_mid}
use Rattle.std.proofs.lemmas.Bool.{cases_eq, le-leb, lt-leb, lt-ltb, le-ltb}
use Rattle.hex.specs.Hex.{decode_of, decode_sized}
use Rattle.hex.specs.declared.error.FromHexError.{FromHexError}
use Rattle.hex.proofs.HexLemmas.{decode_of-ok, decode_sized-twice, decode_sized-odd, decode_of-odd}
use borrow.Rule.Slice.PartMut.{put_mid}
use Rattle.decimal_numbers.specs.Number.{number_of}
use Rattle.script_lines.specs.Data.{is_plus, is_star, byte_of, repeated, digits_of, part_of, appended, parts_of, within_bounds, data_of, DoesNotFit, LaysAt}
use Rattle.script_lines.proofs.PlacesLemmas.{position_some, position_none}

-- a text is split at the first byte that passes a test
pub split_at : (p : ℕ → Bool) (xs : List ℕ) (n : ℕ) → Some n ≡ position p xs
    → slice_split p xs ≡ take n xs ∷ slice_split p (drop (n + 1) xs)
split_at p xs n e =
    let found = position_some p xs n e in
    rw found.0 (slice_split_first p xs 0 (omega (arith, found.0, found.1)))

-- and is one part where none passes
pub split_whole : (p : ℕ → Bool) (xs : List ℕ) → None ≡ position p xs → slice_split p xs ≡ xs ∷ []
split_whole p xs e =
    let none = position_none p xs e in
    slice_split_none p xs
    (All-from_get_or (λ x. p x ≡ false) xs 0 (λ k within. fails_before_first p xs k 0 (omega (arith, none))))

-- a part with a star is a count and a byte
pub part_run : (part : List ℕ) (star : ℕ) → Some star ≡ position is_star part
    → part_of part ≡ repeated (number_of (take star part)) (byte_of (drop (star + 1) part))
unfolding part_of
part_run part star e =
    let found = position_some is_star part star e in
    let test : ltb (position_or_len is_star part) (length part) ≡ true = lt-ltb _ _ (omega (arith, found.0, found.1)) in
    rw (test, found.0) refl

-- a part without one is digits
pub part_digits : (part : List ℕ) → None ≡ position is_star part → part_of part ≡ digits_of part
unfolding part_of
part_digits part e =
    let none = position_none is_star part e in
    let test : ltb (position_or_len is_star part) (length part) ≡ false = le-ltb _ _ (omega (arith, none)) in
    rw test refl

-- what a slice's decoding answers, next to what the text decodes to
abbrev Written : Result (List ℕ) FromHexError → Result (Unit {0}) FromHexError → List ℕ → Type 0
Written d r out = MatchResult d (λ bytes. (r ≡ Ok tt) × (out ≡ bytes)) (λ e. r ≡ Err e)

pub written_ok : (d : Result (List ℕ) FromHexError) (u : Unit {0}) (out : List ℕ) → Written d (Ok u) out → d ≡ Ok out
written_ok (Ok bytes) u out h = ap Ok (sym h.1)
written_ok (Err e) u out h = cc h

pub written_err : (d : Result (List ℕ) FromHexError) (f : FromHexError) (out : List ℕ) → Written d (Err f) out → d ≡ Err f
written_err (Ok bytes) f out h = cc h.0
written_err (Err e) f out h = let same : f ≡ e = cc in ap Err (sym same)

-- the byte of two digits
pub byte_of-ok : (digits out : List ℕ) → decode_sized digits 1 ≡ Ok out → Some (slice_index out 0) ≡ byte_of digits
unfolding byte_of
byte_of-ok digits out e = rw e refl

pub byte_of-err : (digits : List ℕ) (e : FromHexError) → decode_sized digits 1 ≡ Err e → None ≡ byte_of digits
unfolding byte_of
byte_of-err digits e is = rw is refl

-- half as much room as digits
sized_half : (s : List ℕ) (n : ℕ) → n ≡ length s / 2 → decode_sized s n ≡ decode_of s
sized_half s n half =
    elim (cases_eq (length s % 2) 1) [
      | inl odd ↦ decode_sized-odd s n odd ∙ sym (decode_of-odd s odd)
      | inr even ↦ decode_sized-twice s n (omega arith)
    ]

pub digits_of-ok : (part out : List ℕ) (n : ℕ) → n ≡ length part / 2 → 0 < length part → decode_sized part n ≡ Ok out → digits_of part ≡ Some out
unfolding digits_of
digits_of-ok part out n half some e =
    let test : ltb 0 (length part) ≡ true = lt-ltb 0 (length part) some in
    rw (test, sym (sized_half part n half) ∙ e) refl

pub digits_of-err : (part : List ℕ) (e : FromHexError) (n : ℕ) → n ≡ length part / 2 → decode_sized part n ≡ Err e → digits_of part ≡ None
unfolding digits_of
digits_of-err part e n half is = go (ltb 0 (length part))
  where
    go : (v : Bool) → cond v (result_ok (decode_of part)) None ≡ None
    go true = rw (sym (sized_half part n half) ∙ is) refl
    go false = refl

digits_length : (part : List ℕ) (v : Bool) (bytes : List ℕ) → cond v (result_ok (decode_of part)) None ≡ Some bytes → length part ≡ 2 * length bytes
digits_length part true bytes e = go (decode_of part) refl e
  where
    go : (d : Result (List ℕ) FromHexError) → decode_of part ≡ d → result_ok d ≡ Some bytes → length part ≡ 2 * length bytes
    go (Ok found) is e = let same : found ≡ bytes = cc in rw (← same) ((decode_of-ok part found is).2)
    go (Err f) is e = cc e
digits_length part false bytes e = cc e

pub digits_of-length : (part bytes : List ℕ) → digits_of part ≡ Some bytes → length part ≡ 2 * length bytes
unfolding digits_of
digits_of-length part bytes e = digits_length part (ltb 0 (length part)) bytes e

-- more digits than there is room for
pub digits_dont_fit : (part : List ℕ) (room at : ℕ) → room - at < length part / 2 → DoesNotFit (digits_of part) room at
unfolding digits_of
digits_dont_fit part room at many = go (cond (ltb 0 (length part)) (result_ok (decode_of part)) None) refl
  where
    go : (o : Option (List ℕ)) → cond (ltb 0 (length part)) (result_ok (decode_of part)) None ≡ o → DoesNotFit o room at
    go None e = tt
    go (Some bytes) e = omega (arith, digits_length part (ltb 0 (length part)) bytes e)

pub no_digits : (part : List ℕ) (room at : ℕ) → length part ≡ 0 → DoesNotFit (digits_of part) room at
unfolding digits_of
no_digits part room at e = rw e tt

-- bytes that were written into a part of the room
pub lays : (bytes : Option (List ℕ)) (old out : List ℕ) (at k end : ℕ) → at + k ≡ end → end ≤ length old → 0 < k → length out ≡ k
    → bytes ≡ Some out → LaysAt bytes old (put_mid at k old out) at end
lays bytes old out at k end ends within some size e = record {
  within = within;
  more = omega arith;
  bytes_at = e ∙ ap Some (sym (between-put_mid at k old out end (omega arith) (omega arith)));
  before = take-put_mid_below at k old out at (omega arith) (omega arith);
}

-- what is laid up to an end
laid_to : (new : List ℕ) (at end : ℕ) → at ≤ end → take end new ≡ take at new ++ slice_range new at end
laid_to new at end le =
    let whole : take at (take end new) ++ drop at (take end new) ≡ take end new = take-append-drop at (take end new) in
    let front : take at (take end new) ≡ take at new = take-take at end new le in
    let upto : at + (end - at) ≡ end = omega arith in
    let back : drop at (take end new) ≡ take (end - at) (drop at new) = rw upto at (drop-take at (end - at) new) in
    sym whole ∙ rw (front, back) refl

-- the first part of a text before the others
pub appended_first : (o : Option (List ℕ)) → o ≡ appended (Some []) o
appended_first None = refl
appended_first (Some bytes) = refl

appended_twice : (front mid : List ℕ) (o : Option (List ℕ)) → appended (Some front) (appended (Some mid) o) ≡ appended (Some (front ++ mid)) o
appended_twice front mid None = refl
appended_twice front mid (Some back) = ap Some (sym (append_assoc front mid back))

-- one more part is laid
pub more_laid : (all parts : List (List ℕ)) (part old new : List ℕ) (at end : ℕ) (rest : List (List ℕ))
    → parts_of all ≡ appended (Some (take at old)) (parts_of parts) → parts ≡ part ∷ rest → LaysAt (part_of part) old new at end
    → parts_of all ≡ appended (Some (take end new)) (parts_of rest)
unfolding parts_of
more_laid all parts part old new at end rest before first lays =
    let here : parts_of parts ≡ appended (Some (slice_range new at end)) (parts_of rest) =
    ap parts_of first ∙ ap (λ o. appended o (parts_of rest)) lays.bytes_at in
    let so_far : take at old ++ slice_range new at end ≡ take end new =
    ap (λ xs. xs ++ slice_range new at end) (sym lays.before) ∙ sym (laid_to new at end (omega (arith, lays.more))) in
    before ∙ ap (appended (Some (take at old))) here
    ∙ appended_twice (take at old) (slice_range new at end) (parts_of rest)
    ∙ ap (λ xs. appended (Some xs) (parts_of rest)) so_far

-- the last part is laid
pub all_laid : (word new : List ℕ) (end : ℕ) → parts_of (slice_split is_plus word) ≡ appended (Some (take end new)) (parts_of [])
    → end ≤ 65536 → data_of word ≡ Some (take end new)
unfolding parts_of data_of
all_laid word new end e within =
    let bytes : parts_of (slice_split is_plus word) ≡ Some (take end new) = e ∙ ap Some (append-nil (take end new)) in
    let test : leb (length (take end new)) 65536 ≡ true = le-leb _ _ (simp length-take (omega arith)) in
    rw (bytes, test) refl

-- a part that can't be laid
dont_fit : (front : List ℕ) (part o : Option (List ℕ)) → DoesNotFit part 65536 (length front) → within_bounds (appended (Some front) (appended part o)) ≡ None
dont_fit front None o h = refl
dont_fit front (Some mid) None h = refl
dont_fit front (Some mid) (Some back) h =
    let test : leb (length (front ++ (mid ++ back))) 65536 ≡ false = lt-leb _ _ (simp length-append (omega arith)) in
    rw test refl

pub not_laid : (word part front : List ℕ) (parts rest : List (List ℕ)) (room at : ℕ) → room ≡ 65536 → length front ≡ at
    → parts_of (slice_split is_plus word) ≡ appended (Some front) (parts_of parts) → parts ≡ part ∷ rest
    → DoesNotFit (part_of part) room at → data_of word ≡ None
unfolding parts_of data_of
not_laid word part front parts rest room at full laid before first out =
    ap within_bounds (before ∙ ap (λ ps. appended (Some front) (parts_of ps)) first)
    ∙ dont_fit front (part_of part) (parts_of rest) (rw laid (rw full at out))
