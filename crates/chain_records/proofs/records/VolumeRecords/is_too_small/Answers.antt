use Rattle.std.proofs.Common.{◌∙◌, sym}
use Rattle.std.proofs.lemmas.Bool.{false≢true}
use Rattle.sd_names.specs.declared.fault.Key.TheVariants as key
use Rattle.sd_names.specs.declared.fault.VolumeFault.TheVariants.{BadValue}
use Rattle.sd_names.specs.declared.refusal.Refusal.TheVariants.{MetaCorrupt}
use Rattle.chain_records.specs.Records.{records_in}
use Rattle.chain_records.proofs.Capacities.{too_small_is}
use Rattle.chain_records.proofs.records.VolumeRecords.is_too_small.Goals as goal

pub returns-else-is_smaller : goal.returns-else-is_smaller
returns-else-is_smaller c =
    let e = MetaCorrupt c.args.id.now (BadValue key.Cap) in
    ((λ t. absurd (false≢true (sym c.if-is_smaller.false ∙ t))), (λ s. c.is_smaller.ensures.1 (too_small_is (records_in c.args.self.now) c.args.id.now e s)))
