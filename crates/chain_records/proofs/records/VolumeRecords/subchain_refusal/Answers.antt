use Rattle.std.proofs.Common.{◌∙◌, Option, ap}
use Rattle.std.specs.Option.{is_some}
use Rattle.std.proofs.lemmas.Bool.{false≢true}
use Rattle.volume_meta.specs.declared.record.VolumeRecord.{VolumeRecord}
use Rattle.chain_records.specs.Records.{records_in}
use Rattle.chain_records.proofs.Ups.{over_has_record, ringed_no_up, up_is}
use Rattle.chain_records.proofs.records.VolumeRecords.subchain_refusal.Goals as goal

pub returns-then-not-has-2-clause-illegal : goal.returns-then-not-has-2-clause-illegal
returns-then-not-has-2-clause-illegal c = λ x base over illegal.
    let top = over_has_record (records_in c.args.self.now) c.args.top.now c.args.base.now over in
    absurd (false≢true (c.if-not-has-2.ensures ∙ ap (λ (o : Option VolumeRecord). is_some o) top.1))

pub returns-then-is_legal-clause-other : goal.returns-then-is_legal-clause-other
returns-then-is_legal-clause-other c = λ x y vs base top b other.
    absurd (other (up_is (records_in c.args.self.now) c.args.top.now c.args.base.now vs b (c.is_over.ensures.0 c.if-not-is_over.false)))

pub returns-then-is_legal-clause-ringed : goal.returns-then-is_legal-clause-ringed
returns-then-is_legal-clause-ringed c = λ x y base top ring.
    absurd (ringed_no_up (records_in c.args.self.now) c.args.top.now c.args.base.now ring (c.is_over.ensures.0 c.if-not-is_over.false))

pub returns-else-is_legal-clause-other : goal.returns-else-is_legal-clause-other
returns-else-is_legal-clause-other c = λ x y vs base top b other.
    absurd (other (up_is (records_in c.args.self.now) c.args.top.now c.args.base.now vs b (c.is_over.ensures.0 c.if-not-is_over.false)))

pub returns-else-is_legal-clause-ringed : goal.returns-else-is_legal-clause-ringed
returns-else-is_legal-clause-ringed c = λ x y base top ring.
    absurd (ringed_no_up (records_in c.args.self.now) c.args.top.now c.args.base.now ring (c.is_over.ensures.0 c.if-not-is_over.false))
