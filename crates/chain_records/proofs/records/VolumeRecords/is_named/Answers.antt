use Rattle.std.proofs.Common.{subst}
use Rattle.std.proofs.lemmas.Bool.{false≢true}
use Rattle.sd_names.specs.declared.id.Id.{Id}
use Rattle.chain_records.specs.Records.{records_in}
use Rattle.chain_records.specs.Settling.{IsOver}
use Rattle.chain_records.proofs.Lists.{AllOf, all_end, all_on}
use Rattle.chain_records.proofs.Ups.{none_names}
use Rattle.chain_records.proofs.records.VolumeRecords.is_named.Goals as goal

pub loop-volume-preserved : goal.loop-volume-preserved
loop-volume-preserved c =
    let P : Id → Type 0 = λ u. IsOver (records_in c.args.self.now) u c.args.id.now → ⊥ in
    all_on P c.as_slice-volume-items.result.now c.loop-volume.volume-index c.volume-item.result c.loop-volume-test.true c.volume-item.is
    c.loop-volume.invariant
    (λ over. false≢true (c.if-is_over.ensures.1 over))

pub returns : goal.returns
returns c =
    let P : Id → Type 0 = λ u. IsOver (records_in c.args.self.now) u c.args.id.now → ⊥ in
    let all = all_end P c.as_slice-volume-items.result.now c.loop-volume.volume-index c.loop-volume-test.false c.loop-volume.invariant in (
      (λ t. absurd (false≢true t)),
      (λ named. absurd (none_names c.args.self.now c.args.id.now (subst (AllOf P) c.as_slice-volume-items.ensures.list all) named)),
    )
