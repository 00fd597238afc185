use Rattle.std.proofs.Common.{◌≡◌, ◌∙◌, refl, subst, true}
use Rattle.std.specs.List.{Contains}
use Rattle.std.proofs.lemmas.Bool.{false≢true}
use Rattle.sd_names.specs.declared.id.Id.{Id}
use Rattle.chain_model.specs.Records.{is_legal}
use Rattle.chain_records.specs.Records.{records_in}
use Rattle.chain_records.proofs.Lists.{AllOf, all_end, all_on}
use Rattle.chain_records.proofs.Readers.{all_legal}
use Rattle.chain_records.proofs.records.VolumeRecords.has_all_legal.Goals as goal
use Rattle.chain_records.proofs.records.VolumeRecords.has_all_legal.Goals.{else-is_legal-via-then-is_legal+else-not-contains, else-is_legal-via-else-is_legal}

pub loop-volume-preserved : goal.loop-volume-preserved
loop-volume-preserved c =
    all_on (λ u. is_legal (records_in c.args.self.now) u ≡ true
    → Contains c.args.path.now u) c.as_slice-volume-items.result.now c.loop-volume.volume-index c.volume-item.result c.loop-volume-test.true
    c.volume-item.is
    c.loop-volume.invariant (λ legal. elim c.else-is_legal.branch [
      | else-is_legal-via-then-is_legal+else-not-contains w ↦ w.contains.ensures.0 w.if-not-contains.false
      | else-is_legal-via-else-is_legal w ↦ absurd (false≢true (w.if-is_legal.ensures ∙ legal))
    ])

pub returns : goal.returns
returns c =
    let P : Id → Type 0 = λ u. is_legal (records_in c.args.self.now) u ≡ true → Contains c.args.path.now u in
    let all = all_end P c.as_slice-volume-items.result.now c.loop-volume.volume-index c.loop-volume-test.false c.loop-volume.invariant in
    ((λ t. all_legal c.args.self.now c.args.path.now (subst (AllOf P) c.as_slice-volume-items.ensures.list all)), (λ h. refl))
