-- What a span says.
use Rattle.std.specs.Prelude.{ℕ}
use Rattle.write_planning.specs.Part.{first_met, many_met}
use Rattle.write_planning.specs.declared.span.Span.{Span}

abbrev pub at_of : Span → ℕ
at_of s = s.at

abbrev pub length_of : Span → ℕ
length_of s = s.length

abbrev pub width_of : Span → ℕ
width_of s = s.width

-- the clusters that it meets: the first, and how many
abbrev pub first_of : Span → ℕ
first_of s = first_met s.at s.width

abbrev pub count_of : Span → ℕ
count_of s = many_met s.at s.length s.width
