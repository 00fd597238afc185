use Rattle.std.proofs.Common.{Option, Some, None, sym, ap, subst, ◌∙◌}
use Rattle.std.specs.Option.{option_map}
use Rattle.sd_names.specs.declared.id.Id.{Id}
use Rattle.task_files.specs.Remove.{RemovesTask}
use Rattle.task_files.specs.TaskFile.{task_place}
use Rattle.host_core.specs.Memory.{IsSound, Memory, leader_of}
use Rattle.host_core.specs.Steps.{cleared}
use Rattle.host_core.specs.declared.leading.Leading.{Leading}
use Rattle.host_core.proofs.Clearing.{clear_steps, clearing_leads}
use Rattle.host_core.proofs.host.Host.clear.Goals as goal
use Rattle.host_core.proofs.host.Host.clear.Goals.{in-Some, in-None}

pub returns-clause-content : goal.returns-clause-content
returns-clause-content g c up d tells = elim c.match-self.branch [
  | in-Some w ↦
      let call = w.remove_task-removed.ensures.call d tells in (
        call.0,
        ap (λ (x : _). g.D.SharedDisk.content x) w.disk-is ∙ call.1,
        clear_steps up c.args.self.now _ (leader_of w.in-Some.leading) (leader_of w.note_cleared.new.self) c.args.task d call.0 _ w.remove_task-removed.result
            c.match-self.result (subst (λ (m : Memory). IsSound m.id m.leading m.work) c.self.view_is c.self.invariant) c.requires.clearing
            (sym (ap (λ (m : Memory). m.leading) c.self.view_is) ∙ ap (λ (o : Option Leading). option_map leader_of o) w.in-Some.is)
            (subst (λ (m : Id). RemovesTask (task_place m c.args.task) (g.D.SharedDisk.faults w.remove_task-removed.new.disk) w.remove_task-removed.result d call.0) w.master.ensures call.2)
            (w.result-is ∙ w.note_cleared.ensures.answer)
            (w.note_cleared.ensures.kept ∙ ap (λ (r : _). cleared c.args.task r (leader_of w.in-Some.leading)) (sym w.result-is))
            (ap (λ (s : _). record { id = s.id; moment = s.moment; leading = option_map leader_of s.leading; work = s.work; steps = s.steps; bytes = s.bytes.items }) w.self-inside-is
            ∙ ap (λ (m : Memory). record m { leading = Some (leader_of w.note_cleared.new.self); work = None }) c.self.view_is),
      )
  | in-None w ↦ absurd (clearing_leads c.args.task _ c.self.inside.work c.self.invariant.fit (ap (λ (m : Memory). m.work) c.self.view_is ∙ c.requires.clearing)
      (ap (λ (o : Option Leading). option_map leader_of o) w.in-None.is))
]
