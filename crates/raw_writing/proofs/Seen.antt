-- A host sees the sectors that it wrote.
use Rattle.std.proofs.Common.{◌≡◌, ℕ, ◌+◌, ◌-◌, ◌≤◌, true, List, Option, Some, ap, ◌∙◌, arith}
use Rattle.std.specs.Prelude.{◌++◌, unwrap_or}
use Rattle.shared_disk.specs.Calls.{sectors_in, wrote}
use Rattle.shared_disk.specs.Content.{File, own_of, sector_of, writes}
use Rattle.shared_disk.proofs.OwnWrites.{own_within}
use Rattle.raw_layer.specs.Part.{SeesPart}

pub written_seen : (host at : ℕ) (part : List ℕ) (f : File) → at + sectors_in part ≤ f.size → SeesPart host at part (wrote (λ _. true) host at part f)
written_seen host at part f fits = record {
  fits = fits;
  sectors = λ i within.
      let own : own_of host (at + i) (writes (λ _. true) host at part (sectors_in part) ++ f.loose) ≡ Some (sector_of part ((at + i) - at)) =
      own_within host at (sectors_in part) (at + i) part f.loose (omega arith) (omega (arith, within)) in
      let index : (at + i) - at ≡ i = omega arith in
      ap (λ (o : Option (List ℕ)). unwrap_or o (f.stable (at + i))) own ∙ ap (λ (j : ℕ). sector_of part j) index;
}
