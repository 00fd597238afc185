use Rattle.std.proofs.Common.{codes, refl}
use Rattle.volume_texts.proofs.NoZero.{plain}
use Rattle.image_tests.proofs.shared.new_image.Goals as goal

pub base-requires-clause-plain : goal.base-requires-clause-plain
base-requires-clause-plain c = plain (codes "disk") refl
