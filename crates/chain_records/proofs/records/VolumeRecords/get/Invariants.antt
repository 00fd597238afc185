use Rattle.std.proofs.Common.{◌≡◌, drop}
use Rattle.chain_records.specs.Records.{records_in}
use Rattle.chain_records.proofs.records.VolumeRecords.get.Given as goal

abbrev pub invariant-loop-volume : goal.invariant-loop-volume
invariant-loop-volume l = records_in (drop l.volume-index l.volume-items) l.id ≡ records_in l.volume-items l.id
