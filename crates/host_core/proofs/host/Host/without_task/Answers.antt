use Rattle.std.proofs.Common.{Option, sym, ap, ◌∙◌}
use Rattle.std.specs.Option.{option_map}
use Rattle.host_core.specs.Memory.{Memory, leader_of}
use Rattle.host_core.specs.declared.leading.Leading.{Leading}
use Rattle.host_core.proofs.Barred.{clear_barred, clear_begins}
use Rattle.host_core.proofs.host.Host.without_task.Goals as goal

pub returns-then-has-clause-barred : goal.returns-then-has-clause-barred
returns-then-has-clause-barred c k p up knows =
    clear_begins c.args.self.now.id up c.args.self.now k p (leader_of c.in-Some.leading)
    (sym (ap (λ (m : Memory). m.leading) c.self.view_is) ∙ ap (λ (o : Option Leading). option_map leader_of o) c.in-Some.is) c.in-None-begun.is
    c.args.task.now (sym c.has.ensures ∙ c.if-has.true) knows

pub returns-else-has-clause-barred : goal.returns-else-has-clause-barred
returns-else-has-clause-barred c k p up knows =
    clear_barred c.args.self.now.id up c.args.self.now k p (leader_of c.in-Some.leading)
    (sym (ap (λ (m : Memory). m.leading) c.self.view_is) ∙ ap (λ (o : Option Leading). option_map leader_of o) c.in-Some.is) c.in-None-begun.is
    c.args.task.now (sym c.has.ensures ∙ c.if-has.false) knows
