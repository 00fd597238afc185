use Rattle.std.proofs.Common.{sym, ap, ◌∙◌}
use Rattle.std.specs.Ordering.{is_lt}
use Rattle.host_core.specs.Listed.{is_in}
use Rattle.host_core.specs.declared.tasks.Part.{Part}
use Rattle.host_core.proofs.tasks.Part.has.Goals as goal

pub returns-in-Below : goal.returns-in-Below
returns-in-Below c = c.is_lt.ensures ∙ ap is_lt c.cmp.ensures ∙ sym (ap (λ (x : Part). is_in x c.args.id.now) c.in-Below.is)

pub returns-in-Above : goal.returns-in-Above
returns-in-Above c = c.is_lt-in-Above.ensures ∙ ap is_lt c.cmp-in-Above.ensures ∙ sym (ap (λ (x : Part). is_in x c.args.id.now) c.in-Above.is)
