use Rattle.std.proofs.Common.{refl}
use Rattle.image_deleting.proofs.deleting.DeleteImage.begin.Goals as goal

pub returns : goal.returns
returns c = record {
  under = c.in_ok-under.ensures;
  scans = (c.begin.result, refl, record { domain = c.begin.ensures.domain; image_is = c.begin.ensures.image; made = c.begin.ensures.made; seen = c.begin.ensures.seen });
}
