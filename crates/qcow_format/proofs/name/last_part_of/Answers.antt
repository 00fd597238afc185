use Rattle.std.proofs.Common.{arith}
use Rattle.qcow_format.proofs.NameLemmas.{last_part_is}
use Rattle.qcow_format.proofs.name.last_part_of.Goals as goal
use Rattle.qcow_format.proofs.name.last_part_of.Goals.{then-loop-start-test+else-name-start-ne47, else-loop-start-test}

pub returns : goal.returns
returns c =
    last_part_is c.args.name.now c.loop-start.start c.loop-start.invariant.0 c.loop-start.invariant.1
    (λ lt. elim c.loop-start-test.branch [
      | then-loop-start-test+else-name-start-ne47 w ↦ w.if-name-start-ne47.false
      | else-loop-start-test w ↦ absurd (omega arith)
    ])
