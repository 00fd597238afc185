use Rattle.std.proofs.Common.{refl}
use Rattle.std.proofs.lemmas.Bool.{false≢true}
use Rattle.chain_records.specs.Records.{ids_of, records_in}
use Rattle.chain_records.proofs.Firsts.{none_refuses, parent_refuses, reading_refuses, ring_refuses, value_refuses}
use Rattle.chain_records.proofs.records.VolumeRecords.first_refusal.Goals as goal

pub returns-in-Some : goal.returns-in-Some
returns-in-Some c = parent_refuses (records_in c.args.self.now) (ids_of c.args.self.now) c.in-Some.refusal c.in-Some.ensures

pub returns-then-has_ring : goal.returns-then-has_ring
returns-then-has_ring c = ring_refuses (records_in c.args.self.now) (ids_of c.args.self.now) c.in_default.ensures (c.if-has_ring.ensures.0 refl)

pub returns-in-Some-first_bad_value : goal.returns-in-Some-first_bad_value
returns-in-Some-first_bad_value c =
    value_refuses (records_in c.args.self.now) (ids_of c.args.self.now) c.in-Some-first_bad_value.refusal c.in_default.ensures (λ ring. false≢true
    (c.if-has_ring.ensures.1 ring)) c.in-Some-first_bad_value.ensures

pub returns-in-Some-reading_path : goal.returns-in-Some-reading_path
returns-in-Some-reading_path c =
    none_refuses (records_in c.args.self.now) (ids_of c.args.self.now) c.in-Some-reading_path.field-0 c.in_default.ensures (λ ring. false≢true
    (c.if-has_ring.ensures.1 ring)) c.in_default-first_bad_value.ensures
    c.in-Some-reading_path.ensures

pub returns-in-None : goal.returns-in-None
returns-in-None c =
    reading_refuses (records_in c.args.self.now) (ids_of c.args.self.now) c.in_default.ensures (λ ring. false≢true
    (c.if-has_ring.ensures.1 ring)) c.in_default-first_bad_value.ensures c.in-None.ensures
