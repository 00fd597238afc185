use Rattle.std.proofs.Common.{sym, subst}
use Rattle.chain_gathering.specs.Kept.{AreValid}
use Rattle.chain_gathering.specs.declared.gathering.Gathering.{Gathering}
use Rattle.chain_gathering.proofs.gathering.Gathering.list.Goals as goal

pub returns-in-Ok-Some-clause-valid : goal.returns-in-Ok-Some-clause-valid
returns-in-Ok-Some-clause-valid g c are = subst (λ (next : Gathering). AreValid next.kept.records) (sym c.meet.ensures) are
