use Rattle.std.proofs.Common.{List, subst}
use Rattle.sd_names.specs.declared.id.Id.{Id}
use Rattle.chain_model.specs.Reading.{IsReading}
use Rattle.chain_records.specs.Records.{records_in}
use Rattle.chain_records.proofs.Lists.{AllOf, all_end}
use Rattle.chain_records.proofs.Readers.{no_reading}
use Rattle.chain_records.proofs.records.VolumeRecords.reading_path.Goals as goal

pub returns : goal.returns
returns c =
    let P : Id → Type 0 = λ v. (vs : List Id) → IsReading (records_in c.args.self.now) v vs → ⊥ in
    let all = all_end P c.as_slice-volume-items.result.now c.loop-volume.volume-index c.loop-volume-test.false c.loop-volume.invariant in
    no_reading c.args.self.now (subst (AllOf P) c.as_slice-volume-items.ensures.list all)
