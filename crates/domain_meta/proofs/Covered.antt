-- The lines that a checksum covers, line by line.
use Rattle.std.proofs.Common.{◌≡◌, ◌+◌, ◌-◌, ◌<◌, ◌≤◌, inl, inr, not, ℕ, Bool, true, false, cond, List, [], ◌∷◌, ◌++◌, refl, sym, ap, ◌∙◌, arith, filter, length, length-drop, map, append_assoc}
use Rattle.std.proofs.lemmas.Bool.{false≢true}
use Rattle.std.specs.Borrow.{Bor}
use Rattle.std.specs.List.{before_first, after_first, position_or_len, take_while}
use Rattle.std.proofs.lemmas.List.{length-take-le, map-append}
use Rattle.std.proofs.Math.ListN.{length-take}
use Rattle.std.proofs.lemmas.List.Sums.{take_while-cons}
use Rattle.kv_text.specs.Text.{lines, is_line_feed, is_eof}
use Rattle.kv_text.proofs.Steps.{lines_first}
use Rattle.domain_meta.specs.Checksum.{covered_of, is_covered}

-- an empty line behind the last one adds nothing
empty_last : (line : List ℕ) → covered_of (line ∷ []) ≡ covered_of (line ∷ [] ∷ [])
empty_last line = go (not (is_eof line)) refl
  where
    go : (b : Bool) → not (is_eof line) ≡ b → covered_of (line ∷ []) ≡ covered_of (line ∷ [] ∷ [])
    go true e = rw e refl
    go false e = rw e refl

pub covered-lines : (text : List ℕ) → covered_of (lines text) ≡ covered_of (before_first is_line_feed text ∷ lines (after_first is_line_feed text))
covered-lines text = elim (lines_first text) [
  | inl e ↦ ap covered_of e
  | inr parts ↦ rw (parts.0, parts.1, parts.2) (empty_last text)
]

-- the first line, and those behind it where it isn't `EOF`
pub first_kept : (line : List ℕ) (more : List (List ℕ)) → covered_of (line ∷ more) ≡ filter is_covered (cond (not (is_eof line)) (line ∷ take_while (λ l. not (is_eof l)) more) [])
first_kept line more = ap (filter is_covered) (take_while-cons (λ l. not (is_eof l)) line more)

pub at_eof : (line : List ℕ) (more : List (List ℕ)) → is_eof line ≡ true → covered_of (line ∷ more) ≡ []
at_eof line more e = first_kept line more ∙ rw e refl

pub at_covered : (line : List ℕ) (more : List (List ℕ)) → is_eof line ≡ false → is_covered line ≡ true → covered_of (line ∷ more) ≡ line ∷ covered_of more
at_covered line more e f = first_kept line more ∙ rw (e, f) refl

pub at_other : (line : List ℕ) (more : List (List ℕ)) → is_eof line ≡ false → is_covered line ≡ false → covered_of (line ∷ more) ≡ covered_of more
at_other line more e f = first_kept line more ∙ rw (e, f) refl

-- a text by its first line and what stands behind it
module _ (text line behind : List ℕ) (front : line ≡ before_first is_line_feed text) (after : behind ≡ after_first is_line_feed text) where
  pub at_first : covered_of (lines text) ≡ covered_of (line ∷ lines behind)
  at_first = rw (front, after) (covered-lines text)

  pub eof_first : is_eof line ≡ true → covered_of (lines text) ≡ []
  eof_first e = at_first ∙ at_eof line (lines behind) e

  pub covered_first : is_eof line ≡ false → is_covered line ≡ true → covered_of (lines text) ≡ line ∷ covered_of (lines behind)
  covered_first e f = at_first ∙ at_covered line (lines behind) e f

  pub other_first : is_eof line ≡ false → is_covered line ≡ false → covered_of (lines text) ≡ covered_of (lines behind)
  other_first e f = at_first ∙ at_other line (lines behind) e f

-- one line more is found
pub more_found : (found : List (Bor (List ℕ))) (line : Bor (List ℕ)) (left more all : List (List ℕ)) → map (λ l. l.now) found ++ left ≡ all → left ≡ line.now ∷ more → map (λ l. l.now) (found ++ line ∷ []) ++ more ≡ all
more_found found line left more all e f =
    ap (λ (ls : List (List ℕ)). ls ++ more) (map-append (λ l. l.now) found (line ∷ []))
    ∙ append_assoc (map (λ l. l.now) found) (line.now ∷ []) more
    ∙ ap (λ (ls : List (List ℕ)). map (λ l. l.now) found ++ ls) (sym f) ∙ e

-- a line that is covered has a byte
pub covered_some : (line : List ℕ) → is_covered line ≡ true → 1 ≤ length line
covered_some [] e = absurd (false≢true e)
covered_some (x ∷ xs) e = omega arith

-- the first line is no longer than the text
pub first_within : (text line : List ℕ) → line ≡ before_first is_line_feed text → length line ≤ length text
first_within text line front =
    omega (arith, ap length front, length-take (position_or_len is_line_feed text) text)

-- with its line feed it is shorter than the text by what stands behind it
pub first_short : (text line behind : List ℕ) → line ≡ before_first is_line_feed text → behind ≡ after_first is_line_feed text → 0 < length behind → length line + 1 + length behind ≡ length text
first_short text line behind front after more =
    let n = position_or_len is_line_feed text in
    let left : length behind ≡ length text - (n + 1) = ap length after ∙ length-drop (n + 1) text in
    let long : length line ≡ n = ap length front ∙ length-take-le n text (omega (arith, left, more)) in
    omega (arith, left, long, more)
