use Rattle.std.proofs.Common.{◌≡◌, List, Option, None, Result, refl, sym, ap, subst, ◌∙◌}
use Rattle.std.specs.Option.{option_map}
use Rattle.std.specs.Prelude.{IfOk}
use Rattle.sd_names.specs.declared.id.Id.{Id}
use Rattle.sd_names.specs.declared.refusal.Refusal.{Refusal}
use Rattle.sd_names.specs.declared.task_state.TaskState.{TaskState}
use Rattle.task_files.specs.Read.{ReadsTask}
use Rattle.task_files.specs.TaskFile.{task_place}
use Rattle.task_store.specs.declared.task.Task.{Task}
use Rattle.host_core.specs.Listed.{listed_with, state_found}
use Rattle.host_core.specs.Memory.{Listed, Memory, leader_of}
use Rattle.host_core.specs.Steps.{answer_of}
use Rattle.host_core.specs.declared.leading.Leading.{Leading}
use Rattle.host_core.specs.declared.progress.Progress.{Progress}
use Rattle.host_core.proofs.Listing.{AnswersRead, answers_list, listing_leads, lists_all, lists_now, lists_with}
use Rattle.host_core.proofs.host.Host.list.Goals as goal
use Rattle.host_core.proofs.host.Host.list.Goals.{in-Some+in-None-begun, in-Some+in-Some-begun+in-Ok, in-Some+in-Some-begun+in-Err, in-None}

pub returns-clause-content : goal.returns-clause-content
returns-clause-content g c up d tells = elim c.match-self.branch [
  | in-Some+in-None-begun w ↦
      let bytes = c.match-self.self-inside.bytes.items in
      let l = leader_of w.in-Some.leading in (
        d,
        ap (λ (x : _). g.D.SharedDisk.content x) w.disk-is ∙ tells,
        lists_now up c.args.self.now _ d d (answer_of w.answer.result bytes) (answer_of c.match-self.result bytes)
            (lists_all up c.args.self.now l d c.requires.listing
            (sym (ap (λ (m : Memory). m.leading) c.self.view_is) ∙ ap (λ (o : Option Leading). option_map leader_of o) w.in-Some.is)
            (answer_of w.answer.result bytes) w.in-None-begun.is
            (answers_list w.all_of.result w.answer.result l.tasks bytes w.answer.ensures
            (subst (λ (ts : List Listed). IfOk w.all_of.result (λ xs. xs ≡ ts)) w.as_slice-tasks.ensures w.all_of.ensures)))
            (ap (λ (s : _). record { id = s.id; moment = s.moment; leading = option_map leader_of s.leading; work = s.work; steps = s.steps; bytes = s.bytes.items }) w.self-inside-is
            ∙ ap (λ (m : Memory). record m { work = None }) c.self.view_is)
            (ap (λ (x : Progress). answer_of x bytes) w.result-is),
      )
  | in-Some+in-Some-begun+in-Ok w ↦
      let bytes = c.match-self.self-inside.bytes.items in
      let call = w.read_task.ensures.content d tells in
      let l = leader_of w.in-Some.leading in
      let t = w.in-Some-begun.task in (
        call.0,
        ap (λ (x : _). g.D.SharedDisk.content x) w.disk-is ∙ call.1,
        lists_now up c.args.self.now _ d call.0 (answer_of w.answer-in-Ok.result bytes) (answer_of c.match-self.result bytes)
            (lists_with up c.args.self.now l d c.requires.listing
            (sym (ap (λ (m : Memory). m.leading) c.self.view_is) ∙ ap (λ (o : Option Leading). option_map leader_of o) w.in-Some.is)
            (g.D.SharedDisk.faults w.read_task.new.disk) t w.read_task.result (answer_of w.answer-in-Ok.result bytes) call.0 w.in-Some-begun.is
            (subst (λ (m : Memory). ReadsTask m.id (task_place l.master t) t (g.D.SharedDisk.faults w.read_task.new.disk) w.read_task.result d call.0) c.self.view_is
            (subst (λ (m : Id). ReadsTask c.self.inside.id (task_place m t) t (g.D.SharedDisk.faults w.read_task.new.disk) w.read_task.result d call.0) w.master.ensures call.2))
            (subst (λ (r : Result (Option Task) Refusal). AnswersRead l t r (answer_of w.answer-in-Ok.result bytes)) (sym w.in-Ok.is)
            (answers_list w.with_task.result w.answer-in-Ok.result _ bytes w.answer-in-Ok.ensures
            (subst (λ (ts : List Listed). IfOk w.with_task.result (λ xs. xs ≡ listed_with t (state_found w.in-Ok.found) ts)) w.as_slice-tasks.ensures
            (subst (λ (o : Option TaskState). IfOk w.with_task.result (λ xs. xs ≡ listed_with t o w.as_slice-tasks.result.now)) w.state_in.ensures w.with_task.ensures)))))
            (ap (λ (s : _). record { id = s.id; moment = s.moment; leading = option_map leader_of s.leading; work = s.work; steps = s.steps; bytes = s.bytes.items }) w.self-inside-is
            ∙ ap (λ (m : Memory). record m { work = None }) c.self.view_is)
            (ap (λ (x : Progress). answer_of x bytes) w.result-is),
      )
  | in-Some+in-Some-begun+in-Err w ↦
      let bytes = c.match-self.self-inside.bytes.items in
      let call = w.read_task.ensures.content d tells in
      let l = leader_of w.in-Some.leading in
      let t = w.in-Some-begun.task in (
        call.0,
        ap (λ (x : _). g.D.SharedDisk.content x) w.disk-is ∙ call.1,
        lists_now up c.args.self.now _ d call.0 (answer_of c.match-self.result bytes) (answer_of c.match-self.result bytes)
            (lists_with up c.args.self.now l d c.requires.listing
            (sym (ap (λ (m : Memory). m.leading) c.self.view_is) ∙ ap (λ (o : Option Leading). option_map leader_of o) w.in-Some.is)
            (g.D.SharedDisk.faults w.read_task.new.disk) t w.read_task.result (answer_of c.match-self.result bytes) call.0 w.in-Some-begun.is
            (subst (λ (m : Memory). ReadsTask m.id (task_place l.master t) t (g.D.SharedDisk.faults w.read_task.new.disk) w.read_task.result d call.0) c.self.view_is
            (subst (λ (m : Id). ReadsTask c.self.inside.id (task_place m t) t (g.D.SharedDisk.faults w.read_task.new.disk) w.read_task.result d call.0) w.master.ensures call.2))
            (subst (λ (r : Result (Option Task) Refusal). AnswersRead l t r (answer_of c.match-self.result bytes)) (sym w.in-Err.is)
            (ap (λ (x : Progress). answer_of x bytes) w.result-is)))
            (ap (λ (s : _). record { id = s.id; moment = s.moment; leading = option_map leader_of s.leading; work = s.work; steps = s.steps; bytes = s.bytes.items }) w.self-inside-is
            ∙ ap (λ (m : Memory). record m { work = None }) c.self.view_is)
            refl,
      )
  | in-None w ↦ absurd (listing_leads _ c.self.inside.work c.self.invariant.fit (ap (λ (m : Memory). m.work) c.self.view_is ∙ c.requires.listing)
      (ap (λ (o : Option Leading). option_map leader_of o) w.in-None.is))
]
