use Rattle.std.proofs.Common.{◌+◌, ◌∙◌}
use Rattle.chain_reading.proofs.laws.parts_are_flat.Goals as goal

pub returns : goal.returns
returns c p chain x part flats us j read flat legal below inside has = read us below j inside ∙ flat p.volume us legal below (p.first + j) has
