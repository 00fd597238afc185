use Rattle.std.proofs.Common.{Option, drop, map}
use Rattle.sd_names.specs.declared.refusal.Refusal.{Refusal}
use Rattle.chain_model.specs.Opening.{parents}
use Rattle.chain_records.specs.Checks.{FirstIs}
use Rattle.chain_records.specs.Records.{ids_of, records_in}
use Rattle.chain_records.proofs.records.VolumeRecords.first_unknown_parent.Given as goal

abbrev pub invariant-loop-volume : goal.invariant-loop-volume
invariant-loop-volume l =
    (o : Option Refusal) → FirstIs (records_in l.self) (map parents (ids_of (drop l.volume-index l.volume-items))) o
    → FirstIs (records_in l.self) (map parents (ids_of l.volume-items)) o
