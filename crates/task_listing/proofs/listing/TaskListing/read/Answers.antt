use Rattle.std.proofs.Common.{Option, Result, Ok, ap, subst, ◌∙◌}
use Rattle.sd_names.specs.declared.refusal.Refusal.{Refusal}
use Rattle.task_files.specs.Read.{ReadsTask}
use Rattle.task_files.specs.TaskFile.{task_place}
use Rattle.task_store.specs.declared.task.Task.{Task}
use Rattle.task_listing.proofs.Steps.{read_ended, read_none, read_some}
use Rattle.task_listing.proofs.listing.TaskListing.read.Goals as goal

pub returns-in-Ok-None-clause-content : goal.returns-in-Ok-None-clause-content
returns-in-Ok-None-clause-content g c d tells =
    let call = c.read_task.ensures.content d tells in
    let got = subst (λ (r : Result (Option Task) Refusal). ReadsTask c.args.host (task_place c.args.self.sd c.args.task) c.args.task (g.D.SharedDisk.faults c.read_task.new.disk) r d call.0)
    (c.in-Ok-None.is ∙ ap (λ (o : Option Task). Ok o) c.in-Ok-None.field-0-is) call.2 in (
      call.0,
      call.1,
      (
        got.0,
        λ up p stands ids knows. read_none up d p c.args.self stands ids knows c.args.task c.args.host (g.D.SharedDisk.faults c.read_task.new.disk) c.requires.stage
            c.at.result c.at.ensures got.1,
      ),
    )

pub returns-in-Ok-Some-clause-content : goal.returns-in-Ok-Some-clause-content
returns-in-Ok-Some-clause-content g c d tells =
    let call = c.read_task.ensures.content d tells in
    let got = subst (λ (r : Result (Option Task) Refusal). ReadsTask c.args.host (task_place c.args.self.sd c.args.task) c.args.task (g.D.SharedDisk.faults c.read_task.new.disk) r d call.0)
    (c.in-Ok-Some.is ∙ ap (λ (o : Option Task). Ok o) c.in-Ok-Some.field-0-is) call.2 in (
      call.0,
      call.1,
      (
        got.0,
        λ up p stands ids knows. read_some up d p c.args.self stands ids knows c.args.task c.args.host (g.D.SharedDisk.faults c.read_task.new.disk) c.requires.stage
            c.in-Ok-Some.found got.1 c.note.result c.note.ensures,
      ),
    )

pub returns-in-Err-clause-content : goal.returns-in-Err-clause-content
returns-in-Err-clause-content g c d tells =
    let call = c.read_task.ensures.content d tells in
    let got = subst (λ (r : Result (Option Task) Refusal). ReadsTask c.args.host (task_place c.args.self.sd c.args.task) c.args.task (g.D.SharedDisk.faults c.read_task.new.disk) r d call.0)
    c.in-Err.is call.2 in (
      call.0,
      call.1,
      (
        got.0,
        λ up p stands ids knows. read_ended up d p c.args.self stands ids knows c.args.task c.args.host (g.D.SharedDisk.faults c.read_task.new.disk) c.requires.stage
            c.in-Err.refusal got.1,
      ),
    )
