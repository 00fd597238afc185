use Rattle.std.proofs.Common.{◌≡◌, ℕ, ◌+◌, drop}
use Rattle.chain_records.specs.Records.{records_in}
use Rattle.chain_records.specs.Rewriting.{IsAt}
use Rattle.chain_records.proofs.records.VolumeRecords.position.Given as goal

abbrev pub invariant-loop-at : goal.invariant-loop-at
invariant-loop-at l =
    ((j : ℕ) → IsAt (drop l.at l.volume-items) l.id j → IsAt l.volume-items l.id (l.at + j)) × (records_in (drop l.at l.volume-items) l.id ≡ records_in l.volume-items l.id)
