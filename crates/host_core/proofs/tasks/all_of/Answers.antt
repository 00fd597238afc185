use Rattle.std.proofs.Common.{◌++◌, List, ap, ◌∙◌}
use Rattle.host_core.specs.Listed.{part_of}
use Rattle.host_core.specs.Memory.{Listed}
use Rattle.host_core.specs.declared.tasks.Part.TheVariants.{All}
use Rattle.host_core.proofs.Listed.{part_whole}
use Rattle.host_core.proofs.tasks.all_of.Goals as goal

pub returns-in-Ok : goal.returns-in-Ok
returns-in-Ok c = c.in-Ok.ensures ∙ ap (λ (xs : List Listed). xs ++ part_of All c.args.tasks.now) c.new-all.ensures ∙ part_whole c.args.tasks.now
