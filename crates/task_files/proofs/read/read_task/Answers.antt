use Rattle.std.proofs.Common.{◌≤◌, length-take, List, ℕ, length, take, Ok, refl, subst, arith}
use Rattle.task_files.proofs.Found.{refused}
use Rattle.task_files.proofs.read.read_task.Goals as goal
use Rattle.task_files.specs.TaskFile.{task_place}
use Rattle.task_store.specs.ReadTask.{task_of}
use Rattle.whole_file.specs.Read.{IsShort, ReadsText}
use Rattle.whole_file.specs.Text.{longest}
use Rattle.whole_file.specs.declared.read.Text.TheVariants.{Bytes}
use Rattle.whole_file.specs.declared.read.Text.{Text}

pub returns-in-Err-read-clause-content : goal.returns-in-Err-read-clause-content
returns-in-Err-read-clause-content g c d tells =
    let told = c.in-Ok-Bytes.ensures.content d tells in
    let n : ℕ = c.in-Ok-Bytes.length in
    let xs : List ℕ = c.read_text.new.into in
    let faults : ℕ = g.D.SharedDisk.faults c.read_text.new.disk in
    let whole : IsShort c.in-Ok-Bytes.field-0 = c.in-Ok-Bytes.ensures.short in
    let fits : n ≤ longest = subst (λ (x : Text). IsShort x) c.in-Ok-Bytes.field-0-is whole in
    let short : length (take n xs) ≤ longest = omega (arith, length-take n xs, fits) in
    let read : ReadsText c.args.host (task_place c.args.sd c.args.task) xs faults (Ok (Bytes n)) d told.0 =
    subst (λ (x : Text). ReadsText c.args.host (task_place c.args.sd c.args.task) xs faults (Ok x) d told.0) c.in-Ok-Bytes.field-0-is told.2 in
    (told.0, told.1, (read.0, refused c.args.host (task_place c.args.sd c.args.task) c.args.task faults c.in-Err-read.refusal (task_of c.args.task (take n xs)) (take n xs) d read.1.0 read.1.1 refl short read.1.2 c.in-Err-read.ensures.read))
