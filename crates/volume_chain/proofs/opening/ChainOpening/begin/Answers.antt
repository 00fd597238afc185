use Rattle.std.proofs.Common.{ℕ, ◌+◌, refl, ap}
use Rattle.volume_chain.proofs.opening.ChainOpening.begin.Goals as goal

pub returns-in-Ok-begin : goal.returns-in-Ok-begin
returns-in-Ok-begin c = record {
  image = refl;
  folder = refl;
  fit = (record { image = c.in-Ok-begin.ensures.image; folder = c.in-Ok-begin.ensures.folder; valid = c.in-Ok-begin.ensures.valid }, c.in-Ok-begin.ensures.order, c.in-Ok.ensures);
  left = λ cost heads tables along. ap (λ (n : ℕ). n + along) (c.in-Ok-begin.ensures.left cost);
  knows = λ host x d knows lengths. (c.in-Ok-begin.ensures.knows host d knows, lengths, record { image = c.in-Ok-begin.ensures.image; folder = c.in-Ok-begin.ensures.folder; valid = c.in-Ok-begin.ensures.valid }, c.in-Ok.ensures);
}
