-- What is kept of a line.
use Rattle.std.specs.Prelude.{◌≡◌, ℕ, List}
use Rattle.script_loop.specs.Run.{handed}
use Rattle.script_loop.specs.declared.line.Line.{Line}

-- what will be handed over of this line
abbrev pub Holds : Line → List ℕ → Type 0
Holds kept line = kept.bytes.items ≡ handed line
