use Rattle.std.proofs.Common.{◌≡◌, drop}
use Rattle.chain_records.specs.Records.{first_missing}
use Rattle.chain_records.proofs.records.VolumeRecords.missing_file.Given as goal

abbrev pub invariant-loop-volume : goal.invariant-loop-volume
invariant-loop-volume l = first_missing (drop l.volume-index l.volume-items) ≡ first_missing l.volume-items
