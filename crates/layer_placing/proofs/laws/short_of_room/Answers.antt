use Rattle.layer_placing.proofs.Least.{short_whole}
use Rattle.layer_placing.proofs.laws.short_of_room.Goals as goal

pub returns : goal.returns
returns c l r need bytes length low all short = short_whole l r need bytes length low all short
