use Rattle.std.proofs.Common.{refl, subst}
use Rattle.sd_names.specs.declared.place.Dir.{Dir}
use Rattle.settling_steps.specs.Leftovers.{IsBegun}
use Rattle.chain_settling.proofs.settling.Settling.begin.Goals as goal

pub returns-clause-tidies : goal.returns-clause-tidies
returns-clause-tidies c = record { tidying = c.begin-tidying.result; stage = refl; begun = subst (λ (dir : Dir). IsBegun dir c.begin-tidying.result) c.folder.ensures c.begin-tidying.ensures }
