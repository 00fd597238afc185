use Rattle.std.proofs.Common.{subst}
use Rattle.std.proofs.lemmas.Bool.{false≢true}
use Rattle.sd_names.specs.declared.id.Id.{Id}
use Rattle.chain_records.specs.Records.{records_in}
use Rattle.chain_records.specs.Settling.{IsOver}
use Rattle.chain_records.proofs.Ups.{one_up}
use Rattle.chain_records.proofs.records.VolumeRecords.is_over.Goals as goal

pub returns-in-Some : goal.returns-in-Some
returns-in-Some c = (
  (λ t. subst (λ (w : Id). IsOver (records_in c.args.self.now) c.args.id.now w) (c.is.ensures.0 t) c.in-Some.ensures.some),
  (λ over. c.is.ensures.1 (one_up (records_in c.args.self.now) c.args.id.now c.in-Some.found c.args.up.now c.in-Some.ensures.some over)),
)

pub returns-in-None : goal.returns-in-None
returns-in-None c = ((λ t. absurd (false≢true t)), (λ over. absurd (c.in-None.ensures.none c.args.up.now over)))
