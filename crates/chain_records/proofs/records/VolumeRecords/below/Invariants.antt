use Rattle.std.proofs.Common.{◌≤◌, ◌-◌, ◌+◌, length}
use Rattle.chain_records.specs.Records.{records_in}
use Rattle.chain_records.proofs.Walks.{Goes}
use Rattle.chain_records.proofs.records.VolumeRecords.below.Given as goal

abbrev pub invariant-loop-parent : goal.invariant-loop-parent
invariant-loop-parent l = Goes (records_in l.self) l.id l.below l.last × (length l.below ≤ length l.self) × (length l.below ≤ 32)

abbrev pub decreases-loop-parent : goal.decreases-loop-parent
decreases-loop-parent l = length l.self + 1 - length l.below
