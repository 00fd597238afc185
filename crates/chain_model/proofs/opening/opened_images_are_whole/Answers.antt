use Rattle.chain_model.proofs.Settled.{raw_ends}
use Rattle.chain_model.proofs.Whole.{capacities, chains, few, files, headers, layers, parents_inside, texts}
use Rattle.chain_model.proofs.opening.opened_images_are_whole.Goals as goal

pub returns-clause-few : goal.returns-clause-few
returns-clause-few c = few

pub returns-clause-texts : goal.returns-clause-texts
returns-clause-texts c = texts

pub returns-clause-files : goal.returns-clause-files
returns-clause-files c = files

pub returns-clause-parents : goal.returns-clause-parents
returns-clause-parents c = parents_inside

pub returns-clause-chains : goal.returns-clause-chains
returns-clause-chains c = chains

pub returns-clause-raw : goal.returns-clause-raw
returns-clause-raw c = λ i x v vs w y o. raw_ends i x v vs w o y

pub returns-clause-capacities : goal.returns-clause-capacities
returns-clause-capacities c = capacities

pub returns-clause-layers : goal.returns-clause-layers
returns-clause-layers c = layers

pub returns-clause-headers : goal.returns-clause-headers
returns-clause-headers c = headers
