-- What a reader of lines has still to give.
use Rattle.std.specs.Prelude.{ℕ, Bool, ◌||◌, List, Result}
use Rattle.kv_text.specs.Text.{KeyValue, items_from, lines, has_eof}

pub record Left : Type 0 where
  -- what stands on the lines that are left: pairs, and the numbers of lines without `=`
  pub items : List (Result KeyValue ℕ)
  -- a line `EOF` was met, or is among the lines that are left
  pub closed : Bool
  -- a line `EOF` was met
  pub ended : Bool

-- what a reader has left that stands before this text, whose first line has this number
abbrev pub left_of : List ℕ → ℕ → Bool → Left
left_of text number ended =
    record { items = items_from number (lines text); closed = ended || has_eof text; ended = ended }
