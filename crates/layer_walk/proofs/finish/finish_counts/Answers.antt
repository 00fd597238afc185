use Rattle.std.proofs.Common.{None, subst}
use Rattle.image_model.specs.File.{file_of}
use Rattle.layer_walk.specs.Known.{CountsKnown, tables_of}
use Rattle.layer_walk.proofs.Ends.{counts_fault, counts_noted, counts_sound}
use Rattle.layer_walk.proofs.finish.finish_counts.Goals as goal

pub returns-in-Some-clause-next : goal.returns-in-Some-clause-next
returns-in-Some-clause-next c capacity count sectors fits known =
    c.find_first.ensures.next capacity count sectors fits (counts_noted (tables_of c.args.work (file_of count sectors)) capacity c.args.work.marks c.args.fault known fits c.in-Some.place c.in-Some.is)

pub returns-in-None-clause-next : goal.returns-in-None-clause-next
returns-in-None-clause-next c capacity count sectors fits known =
    counts_sound (tables_of c.args.work (file_of count sectors)) capacity c.args.work.marks (subst (λ f. CountsKnown (tables_of c.args.work (file_of count sectors)) capacity c.args.work.marks f None) c.in-None.is known) fits c.in_default.is

pub returns-in-Some-fault-clause-next : goal.returns-in-Some-fault-clause-next
returns-in-Some-fault-clause-next c capacity count sectors fits known =
    counts_fault (tables_of c.args.work (file_of count sectors)) capacity c.args.work.marks c.in-Some-fault.fault
    (subst (λ f. CountsKnown (tables_of c.args.work (file_of count sectors)) capacity c.args.work.marks f None) c.in-Some-fault.is known) fits c.in_default.is
