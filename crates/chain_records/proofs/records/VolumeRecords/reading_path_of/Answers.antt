use Rattle.std.proofs.lemmas.Bool.{false≢true}
use Rattle.chain_model.proofs.Rings.{no_chain}
use Rattle.chain_records.specs.Records.{records_in}
use Rattle.chain_records.proofs.Readers.{misses_legal}
use Rattle.chain_records.proofs.records.VolumeRecords.reading_path_of.Goals as goal

pub returns-in_default-clause-none : goal.returns-in_default-clause-none
returns-in_default-clause-none c = λ vs reads. no_chain (records_in c.args.self.now) c.args.id.now vs c.in_default.ensures.none reads.below

pub returns-else-has_all_legal-clause-none : goal.returns-else-has_all_legal-clause-none
returns-else-has_all_legal-clause-none c =
    misses_legal (records_in c.args.self.now) c.args.id.now c.in-Some.below c.path-path.result c.in-Some.ensures.some c.path-path.ensures
    (λ all. false≢true (c.if-has_all_legal.ensures.1 all))
