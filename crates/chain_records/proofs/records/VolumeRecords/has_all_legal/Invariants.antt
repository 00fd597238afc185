use Rattle.std.proofs.Common.{◌≡◌, drop, true}
use Rattle.std.specs.List.{Contains}
use Rattle.chain_model.specs.Records.{is_legal}
use Rattle.chain_records.specs.Records.{records_in}
use Rattle.chain_records.proofs.Lists.{AllOf}
use Rattle.chain_records.proofs.records.VolumeRecords.has_all_legal.Given as goal

abbrev pub invariant-loop-volume : goal.invariant-loop-volume
invariant-loop-volume l =
    AllOf (λ u. is_legal (records_in l.self) u ≡ true → Contains l.path u) (drop l.volume-index l.volume-items)
    → AllOf (λ u. is_legal (records_in l.self) u ≡ true → Contains l.path u) l.volume-items
