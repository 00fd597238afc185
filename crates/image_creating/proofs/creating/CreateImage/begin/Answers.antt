use Rattle.std.proofs.Common.{refl}
use Rattle.image_creating.proofs.creating.CreateImage.begin.Goals as goal

pub returns : goal.returns
returns c = record {
  under = c.in_ok-under.ensures;
  asks = (c.begin.result, refl, record { image = c.begin.ensures.image; stage = c.begin.ensures.stage });
}
