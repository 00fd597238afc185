use Rattle.std.proofs.Common.{◌≡◌, drop}
use Rattle.chain_gathering.specs.Kept.{first_missing}
use Rattle.chain_gathering.proofs.gathered.Gathered.missing.Given as goal

abbrev pub invariant-loop-volume : goal.invariant-loop-volume
invariant-loop-volume l = first_missing (drop l.volume-index l.volume-items) ≡ first_missing l.self.found
