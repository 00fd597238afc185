use Rattle.std.proofs.Common.{drop}
use Rattle.chain_records.specs.Records.{records_in}
use Rattle.chain_records.specs.Settling.{IsOver}
use Rattle.chain_records.proofs.Lists.{AllOf}
use Rattle.chain_records.proofs.records.VolumeRecords.is_named.Given as goal

abbrev pub invariant-loop-volume : goal.invariant-loop-volume
invariant-loop-volume l =
    AllOf (λ u. IsOver (records_in l.self) u l.id → ⊥) (drop l.volume-index l.volume-items)
    → AllOf (λ u. IsOver (records_in l.self) u l.id → ⊥) l.volume-items
