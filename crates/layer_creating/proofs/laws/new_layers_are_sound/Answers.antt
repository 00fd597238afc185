use Rattle.layer_creating.proofs.New.{new_layer_says}
use Rattle.layer_creating.proofs.laws.new_layers_are_sound.Goals as goal

pub returns : goal.returns
returns c capacity n backing fits bytes long = new_layer_says capacity n backing fits bytes long
