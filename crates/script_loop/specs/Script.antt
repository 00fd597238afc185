-- A script made of lines.
use Rattle.std.specs.Prelude.{ℕ, List}
use Rattle.std.specs.List.{flat_map}
use Rattle.script_loop.specs.Lines.{ended}

-- the lines, each with an LF behind it
abbrev pub script_of : List (List ℕ) → List ℕ
script_of lines = flat_map ended lines
