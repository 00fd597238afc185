-- What is kept of each stage: the sector, what its lease is for, and the task's text that it writes.
use Rattle.std.specs.Prelude.{ℕ, length}
use Rattle.sd_names.specs.declared.place.Name.{Name}
use Rattle.sd_names.specs.declared.place.Name.TheVariants as name
use Rattle.lease_area.specs.Hold.{record_of, slot_of}
use Rattle.lease_area.specs.declared.sector.Kind.{Kind}
use Rattle.lease_area.specs.declared.sector.Kind.TheVariants as kind
use Rattle.task_store.specs.TaskText.{text_of}
use Rattle.task_files.specs.Write.{file_of}
use Rattle.image_creating.specs.Stage.{length_in}
use Rattle.image_deleting.specs.declared.deleting.Stage.{Stage}
use Rattle.image_deleting.specs.declared.deleting.Stage.TheVariants.{Taking, Opening, Removing, Clearing, Ending}
use Rattle.image_deleting.specs.declared.removal_task.RemovalTask.{RemovalTask}

-- the image's sector; where it isn't known yet, or is empty again, the first one of images
abbrev pub slot_kept : Stage → ℕ
slot_kept (Taking slot found) = slot
slot_kept (Opening lease w) = slot_of lease
slot_kept (Removing lease r) = slot_of lease
slot_kept (Clearing lease) = slot_of lease
slot_kept _ = 1

-- what its lease is for; where none is held, a task
abbrev pub kind_kept : Stage → Kind
kind_kept (Opening lease w) = (record_of lease).kind
kind_kept (Removing lease r) = (record_of lease).kind
kind_kept (Clearing lease) = (record_of lease).kind
kind_kept _ = kind.Task

-- the name and the length of what is written; where nothing is, those of the open task's text
abbrev pub name_kept : RemovalTask → Stage → Name
name_kept t (Opening lease w) = (file_of w).name
name_kept t (Ending w) = (file_of w).name
name_kept t _ = name.Task t.begun.id

abbrev pub length_kept : RemovalTask → Stage → ℕ
length_kept t (Opening lease w) = length_in w
length_kept t (Ending w) = length_in w
length_kept t _ = length (text_of t.begun)

-- the length of the text that the stage is to write
abbrev pub length_wanted : RemovalTask → Stage → ℕ
length_wanted t (Ending w) = length (text_of t.done)
length_wanted t _ = length (text_of t.begun)
