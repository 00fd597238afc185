-- The sector of a stage, and the task's text that it writes.
use Rattle.std.specs.Prelude.{ℕ, length}
use Rattle.sd_names.specs.declared.place.Name.{Name}
use Rattle.sd_names.specs.declared.place.Name.TheVariants as name
use Rattle.task_store.specs.TaskText.{text_of}
use Rattle.task_files.specs.Write.{file_of}
use Rattle.task_files.specs.declared.write.TaskWrite.{TaskWrite}
use Rattle.whole_file.specs.Replace.{length_of}
use Rattle.image_creating.specs.declared.creating.Stage.{Stage}
use Rattle.image_creating.specs.declared.creating.Stage.TheVariants.{Opening, Taking, Ending}
use Rattle.image_creating.specs.declared.image_task.ImageTask.{ImageTask}

-- the sector that is to be taken; where there is none yet, or the lease has it, the first one of images
abbrev pub slot_kept : Stage → ℕ
slot_kept (Opening m slot w) = slot
slot_kept (Taking m slot) = slot
slot_kept _ = 1

-- the name and the length of what is written; where nothing is, those of the open task's text
abbrev pub length_in : TaskWrite → ℕ
length_in w = length_of w.replace

abbrev pub name_kept : ImageTask → Stage → Name
name_kept t (Opening m slot w) = (file_of w).name
name_kept t (Ending lease w) = (file_of w).name
name_kept t _ = name.Task t.begun.id

abbrev pub length_kept : ImageTask → Stage → ℕ
length_kept t (Opening m slot w) = length_in w
length_kept t (Ending lease w) = length_in w
length_kept t _ = length (text_of t.begun)

-- the length of the text that the stage is to write
abbrev pub length_wanted : ImageTask → Stage → ℕ
length_wanted t (Ending lease w) = length (text_of t.done)
length_wanted t _ = length (text_of t.begun)
