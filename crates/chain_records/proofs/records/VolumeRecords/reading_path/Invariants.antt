use Rattle.std.proofs.Common.{List, drop}
use Rattle.sd_names.specs.declared.id.Id.{Id}
use Rattle.chain_model.specs.Reading.{IsReading}
use Rattle.chain_records.specs.Records.{records_in}
use Rattle.chain_records.proofs.Lists.{AllOf}
use Rattle.chain_records.proofs.records.VolumeRecords.reading_path.Given as goal

abbrev pub invariant-loop-volume : goal.invariant-loop-volume
invariant-loop-volume l =
    AllOf (λ v. (vs : List Id) → IsReading (records_in l.self) v vs → ⊥) (drop l.volume-index l.volume-items)
    → AllOf (λ v. (vs : List Id) → IsReading (records_in l.self) v vs → ⊥) l.volume-items
