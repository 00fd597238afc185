use Rattle.std.proofs.Common.{true, false}
use Rattle.std.proofs.lemmas.List.{get_or-replicate}
use Rattle.chain_reading.proofs.laying.all_missing.Goals as goal

pub returns : goal.returns
returns c j less = get_or-replicate 128 j true false less
