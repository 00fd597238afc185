use Rattle.std.proofs.Common.{◌≡◌, drop}
use Rattle.chain_model.specs.Up.{up_of}
use Rattle.chain_records.specs.Records.{records_in}
use Rattle.chain_records.proofs.records.VolumeRecords.first_that_counts.Given as goal

abbrev pub invariant-loop-id : goal.invariant-loop-id
invariant-loop-id l = up_of (records_in l.self) (drop l.id-index l.id-items) ≡ up_of (records_in l.self) l.id-items
