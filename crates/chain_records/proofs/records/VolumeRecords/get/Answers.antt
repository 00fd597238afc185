use Rattle.std.proofs.Common.{◌∙◌, List, ap, refl}
use Rattle.std.proofs.lemmas.Bool.{false≢true}
use Rattle.chain_records.specs.declared.volume.Volume.{Volume}
use Rattle.chain_records.specs.Records.{records_in}
use Rattle.chain_records.proofs.Lists.{look_found, look_on}
use Rattle.chain_records.proofs.records.VolumeRecords.get.Goals as goal

pub returns-then-is : goal.returns-then-is
returns-then-is c =
    look_found c.as_slice-volume-items.result.now c.loop-volume.volume-index c.volume-item.result c.args.id.now c.loop-volume-test.true c.volume-item.is
    c.loop-volume.invariant (c.if-is.ensures.0 refl)
    ∙ ap (λ (xs : List Volume). records_in xs c.args.id.now) c.as_slice-volume-items.ensures.list

pub loop-volume-preserved : goal.loop-volume-preserved
loop-volume-preserved c =
    look_on c.as_slice-volume-items.result.now c.loop-volume.volume-index c.volume-item.result c.args.id.now c.loop-volume-test.true c.volume-item.is
    c.loop-volume.invariant (λ e. false≢true (c.if-is.ensures.1 e))
