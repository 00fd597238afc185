use Rattle.part_laws.proofs.Held.{piece_written}
use Rattle.part_laws.proofs.laws.written_pieces_are_of_the_part.Goals as goal

pub returns : goal.returns
returns c = piece_written
