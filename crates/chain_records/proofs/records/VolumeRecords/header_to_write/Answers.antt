use Rattle.std.proofs.Common.{◌∙◌, Some, ap, refl}
use Rattle.sd_names.specs.declared.id.Id.{Id}
use Rattle.chain_records.specs.Records.{records_in}
use Rattle.chain_records.proofs.Ups.{one_up}
use Rattle.chain_records.proofs.records.VolumeRecords.header_to_write.Goals as goal

pub returns-in_default-clause-none : goal.returns-in_default-clause-none
returns-in_default-clause-none c = λ up over. absurd (c.in_default.ensures.none up over)

pub returns-then-is-clause-none : goal.returns-then-is-clause-none
returns-then-is-clause-none c = λ up over.
    c.in-Some-named.is ∙ ap (λ (x : Id). Some x) (c.if-is.ensures.0 refl ∙ one_up
    (records_in c.args.self.now) c.args.id.now c.in-Some.up up c.in-Some.ensures.some over)
