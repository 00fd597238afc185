use Rattle.std.proofs.Common.{◌≡◌, ◌≤◌, ◌+◌, length, take}
use Rattle.chain_model.specs.Chain.{path_of}
use Rattle.chain_records.specs.Records.{records_in}
use Rattle.chain_records.proofs.records.VolumeRecords.path.Given as goal

abbrev pub invariant-loop-volume : goal.invariant-loop-volume
invariant-loop-volume l = (l.path ≡ path_of (records_in l.self) l.id (take l.volume-index l.volume-items)) × (length l.path ≤ l.volume-index + 1)
