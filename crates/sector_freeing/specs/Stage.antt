-- The sector of a stage, and what it is held for.
use Rattle.std.specs.Prelude.{ℕ}
use Rattle.lease_area.specs.declared.sector.Kind.{Kind}
use Rattle.lease_area.specs.declared.sector.Kind.TheVariants.{Task}
use Rattle.sector_freeing.specs.declared.freeing.Stage.{Stage}
use Rattle.sector_freeing.specs.declared.freeing.Stage.TheVariants.{Looking, Listing, Syncing, Freeing}

abbrev pub slot_kept : Stage → ℕ
slot_kept (Looking from) = from
slot_kept (Listing slot r after) = slot
slot_kept (Syncing slot r n) = slot
slot_kept (Freeing slot r) = slot

-- where none is known yet, as for a task
abbrev pub kind_kept : Stage → Kind
kind_kept (Looking from) = Task
kind_kept (Listing slot r after) = r.kind
kind_kept (Syncing slot r n) = r.kind
kind_kept (Freeing slot r) = r.kind
