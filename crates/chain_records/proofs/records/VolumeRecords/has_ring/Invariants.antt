use Rattle.std.proofs.Common.{drop}
use Rattle.chain_records.specs.Paths.{HasChain}
use Rattle.chain_records.specs.Records.{records_in}
use Rattle.chain_records.proofs.Lists.{AllOf}
use Rattle.chain_records.proofs.records.VolumeRecords.has_ring.Given as goal

abbrev pub invariant-loop-volume : goal.invariant-loop-volume
invariant-loop-volume l = AllOf (HasChain (records_in l.self)) (drop l.volume-index l.volume-items) → AllOf (HasChain (records_in l.self)) l.volume-items
