-- What was found under a name.
use Rattle.std.specs.Prelude.{ℕ}
use Rattle.kept_files.specs.declared.node.Found.{Found}
use Rattle.kept_files.specs.declared.node.Node.{Node}

-- which file of the system, and how many bytes it has
abbrev pub found_node : Found → Node
found_node found = found.node

abbrev pub found_stored : Found → ℕ
found_stored found = found.stored
