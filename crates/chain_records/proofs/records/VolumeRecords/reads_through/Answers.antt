use Rattle.std.proofs.Common.{List, subst, sym}
use Rattle.std.specs.List.{Contains}
use Rattle.std.proofs.lemmas.Bool.{false≢true}
use Rattle.sd_names.specs.declared.id.Id.{Id}
use Rattle.chain_records.specs.Records.{records_in}
use Rattle.chain_records.proofs.Readers.{reads_by, ringed_reads_none}
use Rattle.chain_records.proofs.records.VolumeRecords.reads_through.Goals as goal

pub returns-in_default : goal.returns-in_default
returns-in_default c = (
  (λ t. absurd (false≢true t)),
  (λ reads. absurd (ringed_reads_none
      (records_in c.args.self.now) c.args.id.now c.args.reader.now c.in_default.ensures.none reads)),
)

pub returns : goal.returns
returns c = (
  (λ t. (c.in-Some.below, cc, c.in-Some.ensures.some, subst (λ (ps : List Id). Contains ps c.args.id.now) c.path-path.ensures (c.contains.ensures.0 t))),
  (λ reads. c.contains.ensures.1 (subst (λ (ps : List Id). Contains ps c.args.id.now) (sym c.path-path.ensures) (reads_by
      (records_in c.args.self.now) c.args.id.now c.args.reader.now c.in-Some.below c.in-Some.ensures.some reads))),
)
