use Rattle.std.proofs.Common.{subst}
use Rattle.task_store.specs.declared.task.Task.{Task}
use Rattle.task_settling.specs.Inner.{WritesText}
use Rattle.task_settling.specs.Knowing.{KnowsStage, WritesSettled}
use Rattle.task_settling.specs.declared.settling.Stage.{Stage}
use Rattle.task_settling.specs.Stage.{count_kept}
use Rattle.task_settling.proofs.Clears.{clear_step}
use Rattle.task_settling.proofs.Writes.{write_step}
use Rattle.std.proofs.Common.{◌≤◌, length}
use Rattle.task_settling.proofs.settling.TaskSettling.step.Goals as goal

pub returns-in-Clearing-clause-content : goal.returns-in-Clearing-clause-content
returns-in-Clearing-clause-content g c d tells =
    let call = c.clear.ensures.steps d tells in
    let self = c.args.self in (
      call.0,
      call.1,
      λ up p up_is stands ids knows.
          let last = subst (λ (z : Stage). KnowsStage z c.args.host self.master self.task self.settled d p) c.in-Clearing.is knows.1 in
          clear_step c.args.host up d call.0 p self.master self.task c.in-Clearing.count c.in-Clearing.clearing (g.D.SharedDisk.faults c.clear.new.disk) stands ids knows.0 last
          (subst (λ (z : Stage). count_kept z ≤ length self.task.steps) c.in-Clearing.is self.few) (g.met.D.SharedDisk.well_formed c.clear.new.disk call.0 call.1) self.settled c.clear.result call.2,
    )

pub returns-in-Writing-clause-content : goal.returns-in-Writing-clause-content
returns-in-Writing-clause-content g c d tells =
    let call = c.write.ensures.steps d tells in
    let self = c.args.self in (
      call.0,
      call.1,
      λ up p up_is stands ids knows.
          let writes = subst (λ (z : Stage). KnowsStage z c.args.host self.master self.task self.settled d p) c.in-Writing.is knows.1 in
          write_step c.task_text_has_no_zero.ensures c.task_text_is_short.ensures c.task_text_reads_back.ensures c.replacements_leave_only_theirs.ensures c.args.host up d call.0 p self.master self.task self.settled.state
          c.in-Writing.write (g.D.SharedDisk.faults c.write.new.disk) up_is stands knows.0 self.state
          (subst (λ (z : Task). WritesSettled c.args.host self.master self.task z c.in-Writing.write d p) self.ended_is writes) c.write.result
          (subst (λ (z : Task). WritesText self.master self.task z c.in-Writing.write c.args.host (g.D.SharedDisk.faults c.write.new.disk) c.write.result d call.0) self.ended_is call.2),
    )
