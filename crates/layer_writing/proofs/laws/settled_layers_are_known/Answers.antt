use Rattle.layer_writing.proofs.Known.{settled_knows}
use Rattle.layer_writing.proofs.laws.settled_layers_are_known.Goals as goal

pub returns : goal.returns
returns c l host d knows settled whole = record { file = knows.file; there = knows.there; knows = settled_knows l host knows.file knows.knows settled whole }
