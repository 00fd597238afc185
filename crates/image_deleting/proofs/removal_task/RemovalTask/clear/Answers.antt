use Rattle.std.proofs.Common.{◌≡◌, ap, ◌∙◌, Ok}
use Rattle.sd_names.specs.declared.id.Id.{Id}
use Rattle.task_files.specs.TaskFile.{task_place, volatile_place}
use Rattle.task_store.specs.declared.task.Task.{Task}
use Rattle.image_deleting.proofs.removal_task.RemovalTask.clear.Goals as goal

pub returns-in-Ok-clause-call : goal.returns-in-Ok-clause-call
returns-in-Ok-clause-call g c d tells =
    let call = c.in-Ok.ensures.exchange d tells in
    let begun = c.begin-write.ensures in
    let same : c.args.self.done.id ≡ c.args.self.begun.id = ap (λ (k : Task). k.id) c.args.self.done_is in (
      call.0,
      call.1,
      (Ok tt, call.2, (c.begin-write.result, c.at.ensures, record { file = begun.file ∙ ap (λ (i : Id). task_place c.args.self.master i) same; volatile = begun.volatile ∙ ap (λ (i : Id). volatile_place c.args.self.master i) same; stage = begun.stage })),
    )

pub returns-in-Ok-clause-steps : goal.returns-in-Ok-clause-steps
returns-in-Ok-clause-steps g c d tells =
    let leaves = c.in-Ok.ensures.content d tells in
    let begun = c.begin-write.ensures in
    let same : c.args.self.done.id ≡ c.args.self.begun.id = ap (λ (k : Task). k.id) c.args.self.done_is in (
      leaves.0,
      leaves.1,
      λ bytes stands. (Ok tt, leaves.2 bytes stands, (c.begin-write.result, c.at.ensures, record { file = begun.file ∙ ap (λ (i : Id). task_place c.args.self.master i) same; volatile = begun.volatile ∙ ap (λ (i : Id). volatile_place c.args.self.master i) same; stage = begun.stage })),
    )
