use Rattle.std.proofs.Common.{refl, ap, ◌∙◌}
use Rattle.chain_reading.specs.Knowing.{place_on}
use Rattle.chain_reading.proofs.part.ReadPart.find.Goals as goal

pub returns : goal.returns
returns c = record {
  part = record { volume = refl; first = refl };
  stage = refl;
  index = c.place_on.ensures ∙ ap (place_on c.args.self.volume) c.path.ensures;
  from = c.none.ensures.from;
  to = c.none.ensures.to;
  all = c.all_missing-missing.ensures;
}
