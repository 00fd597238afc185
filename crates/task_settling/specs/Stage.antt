-- What a stage has of the task's steps, and of the text that it writes.
use Rattle.std.specs.Prelude.{ℕ, length}
use Rattle.sd_names.specs.declared.place.Name.{Name}
use Rattle.sd_names.specs.declared.place.Name.TheVariants as name
use Rattle.task_store.specs.TaskText.{text_of}
use Rattle.task_store.specs.declared.task.Task.{Task}
use Rattle.task_files.specs.Write.{file_of}
use Rattle.whole_file.specs.Replace.{length_of}
use Rattle.task_settling.specs.declared.settling.Stage.{Stage}
use Rattle.task_settling.specs.declared.settling.Stage.TheVariants.{Clearing, Writing}

-- how many steps are left, and the same where one is settled; else 1
abbrev pub count_kept : Stage → ℕ
count_kept (Clearing count c) = count
count_kept (Writing w) = 0

abbrev pub some_kept : Stage → ℕ
some_kept (Clearing count c) = count
some_kept (Writing w) = 1

-- the name and the length of what is written; where nothing is yet, those of the settled task's text
abbrev pub name_kept : Task → Stage → Name
name_kept t (Clearing count c) = name.Task t.id
name_kept t (Writing w) = (file_of w).name

abbrev pub length_kept : Task → Stage → ℕ
length_kept t (Clearing count c) = length (text_of t)
length_kept t (Writing w) = length_of w.replace
