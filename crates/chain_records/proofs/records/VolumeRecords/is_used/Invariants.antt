use Rattle.std.proofs.Common.{drop}
use Rattle.chain_records.specs.Paths.{ReadsThrough}
use Rattle.chain_records.specs.Records.{records_in}
use Rattle.chain_records.proofs.Lists.{AllOf}
use Rattle.chain_records.proofs.records.VolumeRecords.is_used.Given as goal

abbrev pub invariant-loop-volume : goal.invariant-loop-volume
invariant-loop-volume l =
    AllOf (λ u. ReadsThrough (records_in l.self) l.id u → ⊥) (drop l.volume-index l.volume-items)
    → AllOf (λ u. ReadsThrough (records_in l.self) l.id u → ⊥) l.volume-items
