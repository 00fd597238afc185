use Rattle.part_laws.proofs.Files.{known_layers}
use Rattle.part_laws.proofs.laws.known_files_are_layers.Goals as goal

pub returns : goal.returns
returns c = known_layers
