use Rattle.std.proofs.Common.{refl}
use Rattle.image_clearing.proofs.clearing.ImageClearing.begin.Goals as goal

pub returns : goal.returns
returns c = (
  c.begin.result,
  record { domain = refl; image_is = refl; now_in = refl },
  record { domain = c.begin.ensures.domain; image_is = c.begin.ensures.image; made = c.begin.ensures.made; seen = c.begin.ensures.seen },
)
