use Rattle.std.proofs.Common.{[]}
use Rattle.chain_model.proofs.Opened.{openable_without}
use Rattle.image_making.proofs.Opens.{openable, reads_as}
use Rattle.image_making.specs.Chain.{image_in, volumes_in}
use Rattle.image_making.proofs.laws.a_made_image_can_be_opened.Goals as goal

pub returns-clause-says : goal.returns-clause-says
returns-clause-says c x d base is = reads_as x d base is

pub returns-clause-openable : goal.returns-clause-openable
returns-clause-openable c x d base is = openable x d base is

pub returns-clause-none : goal.returns-clause-none
returns-clause-none c x d refusal base is fault = openable_without (image_in x) (volumes_in x d) x.volume [] refusal (openable x d base is) fault
