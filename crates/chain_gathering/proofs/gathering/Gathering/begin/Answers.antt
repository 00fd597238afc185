use Rattle.std.proofs.Common.{◌≡◌, List, [], length, take, refl, sym, ap, subst, arith}
use Rattle.chain_records.specs.Records.{ids_of}
use Rattle.chain_gathering.specs.Kept.{AreValid, ids_found}
use Rattle.chain_gathering.specs.declared.gathered.Gathered.{Gathered}
use Rattle.chain_records.specs.declared.volume.Volume.{Volume}
use Rattle.chain_gathering.proofs.Listing.{knows_at_first}
use Rattle.chain_gathering.proofs.Reading.{valid_none}
use Rattle.chain_gathering.proofs.gathering.Gathering.begin.Goals as goal

ordered : (kept : Gathered) → kept.records ≡ [] → ids_of kept.records ≡ take (length kept.records) (ids_found kept.found)
ordered kept none = subst (λ (xs : List Volume). ids_of xs ≡ take (length xs) (ids_found kept.found)) (sym none) refl

pub returns-in-Ok : goal.returns-in-Ok
returns-in-Ok c = record {
  image = refl;
  folder = refl;
  left = λ cost. omega (arith, ap length c.in-Ok.ensures.found);
  order = record { short = omega (arith, ap length c.in-Ok.ensures.records); order = ordered c.in-Ok.kept c.in-Ok.ensures.records };
  valid = subst AreValid (sym c.in-Ok.ensures.records) valid_none;
  knows = λ host d k. knows_at_first _ host c.in-Ok.kept d c.in-Ok.ensures.found c.in-Ok.ensures.records k;
}
