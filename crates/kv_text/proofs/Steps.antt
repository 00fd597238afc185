-- The first line of a text, and what stands on the lines behind it.
use Rattle.std.proofs.Common.{◌≡◌, ◌==◌, ◌||◌, ◌⊎◌, ℕ, suc, ◌+◌, ◌≤◌, Bool, true, false, List, [], ◌∷◌, length, refl, sym, ap, ◌∙◌, arith, inl, inr}
use Rattle.std.specs.List.{before_first, after_first, list_any, position_or_len}
use Rattle.std.proofs.lemmas.List.{take_all, drop_all}
use Rattle.std.proofs.lemmas.List.Splits.{slice_split_first, slice_split_none}
use Rattle.std.proofs.lemmas.List.Sums.{fails_before_first}
use Rattle.std.proofs.lemmas.Bool.{cases_lt}
use Rattle.std.proofs.lemmas.Bool.Decides.{nat_tests}
use Rattle.kv_text.specs.Left.{Left, left_of}
use Rattle.kv_text.specs.Text.{lines, is_line_feed, item_of, items_from, next_number, is_eof, has_eof}

-- where a text has no line feed, it is its one line
module _ (text : List ℕ) (h : length text ≤ position_or_len is_line_feed text) where
  before_all : before_first is_line_feed text ≡ text
  before_all = take_all (position_or_len is_line_feed text) text h

  after_all : after_first is_line_feed text ≡ []
  after_all = drop_all (position_or_len is_line_feed text + 1) text (omega arith)

  lines_all : lines text ≡ text ∷ []
  lines_all =
      slice_split_none is_line_feed text (λ k d below. fails_before_first is_line_feed text k d (omega arith))

-- the lines of a text are its first line and those behind it, or it is one line
pub lines_first : (text : List ℕ) → (lines text ≡ before_first is_line_feed text ∷ lines (after_first is_line_feed text)) ⊎ ((lines text ≡ text ∷ []) × (before_first is_line_feed text ≡ text) × (after_first is_line_feed text ≡ []))
lines_first text = elim (cases_lt (position_or_len is_line_feed text) (length text)) [
  | inl h ↦ inl (slice_split_first is_line_feed text 0 h)
  | inr h ↦ inr (lines_all text h, before_all text h, after_all text h)
]

pub or_true : (b : Bool) → (b || true) ≡ true
or_true true = refl
or_true false = refl

-- an empty line behind the last one adds nothing
pub items_from-lines : (number : ℕ) (text : List ℕ) → items_from number (lines text) ≡ items_from number (before_first is_line_feed text ∷ lines (after_first is_line_feed text))
items_from-lines number text = elim (cases_lt (position_or_len is_line_feed text) (length text)) [
  | inl h ↦ ap (items_from number) (slice_split_first is_line_feed text 0 h)
  | inr h ↦ rw (lines_all text h, before_all text h, after_all text h) refl
]

pub has_eof-lines : (text : List ℕ) → list_any is_eof (lines text) ≡ list_any is_eof (before_first is_line_feed text ∷ lines (after_first is_line_feed text))
has_eof-lines text = elim (cases_lt (position_or_len is_line_feed text) (length text)) [
  | inl h ↦ ap (list_any is_eof) (slice_split_first is_line_feed text 0 h)
  | inr h ↦ rw (lines_all text h, before_all text h, after_all text h) refl
]

pub suc_full : (n : ℕ) → (suc n == 0) ≡ false
suc_full n = grind (arith, nat_tests)

is_eof-full : (line : List ℕ) → is_eof line ≡ true → (length line == 0) ≡ false
is_eof-full [] h = cc
is_eof-full (x ∷ xs) h = suc_full (length xs)

-- at a line `EOF`
module _ (text line : List ℕ) (number : ℕ) (ended : Bool) (left : Left) (inside : left_of text number ended ≡ left) (front : line ≡ before_first is_line_feed text) (eof : is_eof line ≡ true) where
  pub items-eof : left.items ≡ []
  items-eof =
      sym (ap (λ (l : Left). l.items) inside) ∙ items_from-lines number text ∙ rw (rw front at (is_eof-full line eof), rw front at eof) refl

  pub closed-eof : left.closed ≡ true
  closed-eof =
      sym (ap (λ (l : Left). l.closed) inside) ∙ ap (λ (b : Bool). ended || b) (has_eof-lines text ∙ rw (rw front at eof) refl) ∙ or_true ended

-- the step over a line that is neither empty nor `EOF`
module _ (text line rest : List ℕ) (number : ℕ) (ended : Bool) (left : Left) (inside : left_of text number ended ≡ left) (front : line ≡ before_first is_line_feed text) (behind : rest ≡ after_first is_line_feed text) (other : is_eof line ≡ false) where
  pub closed-next : (ended || has_eof rest) ≡ left.closed
  closed-next =
      rw behind (sym (ap (λ (b : Bool). ended || b) (has_eof-lines text ∙ rw (rw front at other) refl)) ∙ ap (λ (l : Left). l.closed) inside)

  pub items-next : (length line == 0) ≡ false → left.items ≡ item_of number line ∷ items_from (next_number number) (lines rest)
  items-next full =
      rw (front, behind) (sym (ap (λ (l : Left). l.items) inside) ∙ items_from-lines number text ∙ rw (rw front at full, rw front at other) refl)
