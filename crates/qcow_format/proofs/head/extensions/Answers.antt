use Rattle.std.proofs.Common.{sym, ◌∙◌}
use Rattle.qcow_format.specs.Extension.{extensions_up_to}
use Rattle.qcow_format.proofs.Walk.{extensions_of-short}
use Rattle.qcow_format.proofs.head.extensions.Goals as goal

pub returns-then-head-lt512 : goal.returns-then-head-lt512
unfolding extensions_up_to
returns-then-head-lt512 c = c.from.ensures ∙ sym (extensions_of-short c.args.head.now c.if-head-lt512.true)
