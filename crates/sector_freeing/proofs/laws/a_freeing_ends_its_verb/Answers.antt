use Rattle.sector_freeing.proofs.Machine.{freeing_ends}
use Rattle.sector_freeing.proofs.laws.a_freeing_ends_its_verb.Goals as goal

pub returns : goal.returns
returns c h faults up v k tally steps x y reply sd d e p did nothing idle ends gives = freeing_ends h faults up v k tally steps x y reply sd d e p did nothing idle ends gives
