use Rattle.std.proofs.Common.{Option, None, Result, sym, ap, subst, ◌∙◌}
use Rattle.std.specs.Option.{option_map}
use Rattle.sd_names.specs.declared.refusal.Refusal.{Refusal}
use Rattle.host_core.specs.Memory.{Memory, leader_of}
use Rattle.host_core.specs.Steps.{HostSteps, answer_of}
use Rattle.host_core.specs.declared.leading.Leading.{Leading}
use Rattle.host_core.specs.declared.progress.Progress.{Progress}
use Rattle.host_core.proofs.Stopping.{nobody, progress_of, stop_leaves}
use Rattle.host_core.proofs.host.Host.stop.Goals as goal
use Rattle.host_core.proofs.host.Host.stop.Goals.{in-Some+in-Ok, in-Some+in-Err, in-None}

pub returns-clause-content : goal.returns-clause-content
returns-clause-content g c up d tells = elim c.match-take.branch [
  | in-Some+in-Ok w ↦
      let s = c.self.inside in
      let call = w.spm_stop.ensures.content d tells in
      let leads = ap (λ (o : Option Leading). option_map leader_of o) (sym c.take.ensures.value ∙ w.in-Some.is) in (
        call.0,
        ap (λ (x : _). g.D.SharedDisk.content x) w.disk-is ∙ call.1,
        subst (λ (m : Memory). HostSteps up m d (answer_of c.match-take.result s.bytes.items) (record { id = s.id; moment = s.moment; leading = option_map leader_of c.take.new.self; work = None; steps = s.steps; bytes = s.bytes.items }) call.0) c.self.view_is
            (subst (λ (r : Progress). HostSteps up (record { id = s.id; moment = s.moment; leading = option_map leader_of s.leading; work = s.work; steps = s.steps; bytes = s.bytes.items }) d (answer_of r s.bytes.items) (record { id = s.id; moment = s.moment; leading = option_map leader_of c.take.new.self; work = None; steps = s.steps; bytes = s.bytes.items }) call.0) (ap (λ (r : Result (Unit {0}) Refusal). progress_of r) w.in-Ok.is ∙ sym w.result-is)
            (stop_leaves up (record { id = s.id; moment = s.moment; leading = option_map leader_of s.leading; work = s.work; steps = s.steps; bytes = s.bytes.items }) (leader_of w.in-Some.field-0) (option_map leader_of c.take.new.self) d call.0 _ w.spm_stop.result
            c.self.invariant (ap (λ (m : Memory). m.work) c.self.view_is ∙ c.requires.stopping) leads
            (ap (λ (o : Option Leading). option_map leader_of o) c.take.ensures.after) (w.spm_stop.ensures.moves up) call.2)),
      )
  | in-Some+in-Err w ↦
      let s = c.self.inside in
      let call = w.spm_stop.ensures.content d tells in
      let leads = ap (λ (o : Option Leading). option_map leader_of o) (sym c.take.ensures.value ∙ w.in-Some.is) in (
        call.0,
        ap (λ (x : _). g.D.SharedDisk.content x) w.disk-is ∙ call.1,
        subst (λ (m : Memory). HostSteps up m d (answer_of c.match-take.result s.bytes.items) (record { id = s.id; moment = s.moment; leading = option_map leader_of c.take.new.self; work = None; steps = s.steps; bytes = s.bytes.items }) call.0) c.self.view_is
            (subst (λ (r : Progress). HostSteps up (record { id = s.id; moment = s.moment; leading = option_map leader_of s.leading; work = s.work; steps = s.steps; bytes = s.bytes.items }) d (answer_of r s.bytes.items) (record { id = s.id; moment = s.moment; leading = option_map leader_of c.take.new.self; work = None; steps = s.steps; bytes = s.bytes.items }) call.0) (ap (λ (r : Result (Unit {0}) Refusal). progress_of r) w.in-Err.is ∙ sym w.result-is)
            (stop_leaves up (record { id = s.id; moment = s.moment; leading = option_map leader_of s.leading; work = s.work; steps = s.steps; bytes = s.bytes.items }) (leader_of w.in-Some.field-0) (option_map leader_of c.take.new.self) d call.0 _ w.spm_stop.result
            c.self.invariant (ap (λ (m : Memory). m.work) c.self.view_is ∙ c.requires.stopping) leads
            (ap (λ (o : Option Leading). option_map leader_of o) c.take.ensures.after) (w.spm_stop.ensures.moves up) call.2)),
      )
  | in-None w ↦ absurd (nobody _ c.self.inside.work c.self.invariant.fit (ap (λ (m : Memory). m.work) c.self.view_is ∙ c.requires.stopping)
      (ap (λ (o : Option Leading). option_map leader_of o) (sym c.take.ensures.value ∙ w.in-None.is)))
]
