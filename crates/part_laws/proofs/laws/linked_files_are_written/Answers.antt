use Rattle.part_laws.proofs.Held.{links_written}
use Rattle.part_laws.proofs.laws.linked_files_are_written.Goals as goal

pub returns : goal.returns
returns c = links_written
