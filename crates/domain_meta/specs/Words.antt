-- The words of a list that are left.
use Rattle.std.specs.Prelude.{ℕ, List, [], Option, Some, None}
use Rattle.std.specs.Borrow.{Bor}
use Rattle.std.specs.List.{slice_split}
use Rattle.domain_meta.specs.Values.{is_comma}

abbrev pub words_left : Option (Bor (List ℕ)) → List (List ℕ)
words_left (Some text) = slice_split is_comma text.now
words_left None = []
