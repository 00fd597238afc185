-- A file that is kept open.
use Rattle.std.specs.Prelude.{◌≡◌, ℤ}
use Rattle.std.specs.Fd.{file_raw_fd}
use Rattle.sd_names.specs.declared.place.Place.{Place}
use Rattle.kept_files.specs.declared.node.Node.{Node}
use Rattle.kept_files.specs.declared.kept.Kept.{Kept}
use Rattle.kept_files.specs.declared.kept.State.{State}

-- the descriptor of the system that is kept, which file it is of, under which place it was found, and
-- whether all of it is flushed
abbrev pub kept_descriptor : Kept → ℤ
kept_descriptor kept = file_raw_fd kept.file

abbrev pub kept_node : Kept → Node
kept_node kept = kept.node

abbrev pub kept_state : Kept → State
kept_state kept = kept.state

abbrev pub kept_place : Kept → Place
kept_place kept = kept.place

-- the same descriptor of the same file, found under the same place
abbrev pub IsSameFile : Kept → Kept → Type 0
IsSameFile kept kept' = (kept_descriptor kept' ≡ kept_descriptor kept) × (kept_node kept' ≡ kept_node kept) × (kept_place kept' ≡ kept_place kept)
