-- The words of a line.
use Rattle.std.specs.Prelude.{ℕ, ◌==◌, Bool, List, length, nat_lt, filter}
use Rattle.std.specs.List.{slice_split}

-- whether a byte is a space
abbrev pub is_space : ℕ → Bool
is_space byte = byte == 32

-- whether a part between two spaces has bytes
abbrev pub is_word : List ℕ → Bool
is_word part = nat_lt 0 (length part)

-- the words of a line: the parts between its spaces, without those that are empty
unfoldable pub words : List ℕ → List (List ℕ)
words line = filter is_word (slice_split is_space line)
