-- The sector of a stage, and what it is held for.
use Rattle.std.specs.Prelude.{ℕ}
use Rattle.lease_area.specs.declared.sector.Kind.{Kind}
use Rattle.lease_area.specs.declared.sector.Kind.TheVariants.{Task}
use Rattle.image_clearing.specs.declared.clearing.Stage.{Stage}
use Rattle.image_clearing.specs.declared.clearing.Stage.TheVariants.{Scanning, Removing, Emptying}

-- where none is known yet, the first one of images, held for a task
abbrev pub slot_kept : Stage → ℕ
slot_kept (Scanning s) = 1
slot_kept (Removing slot r m) = slot
slot_kept (Emptying slot r) = slot

abbrev pub kind_kept : Stage → Kind
kind_kept (Scanning s) = Task
kind_kept (Removing slot r m) = r.kind
kind_kept (Emptying slot r) = r.kind
