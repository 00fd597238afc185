use Rattle.std.proofs.Common.{Option, ap, sym, unwrap_or}
use Rattle.sd_names.specs.Id.{zero_id}
use Rattle.sd_names.specs.declared.id.Id.{Id}
use Rattle.chain_records.specs.Records.{records_in}
use Rattle.chain_records.proofs.Ups.{no_up, ringed_no_up, up_is}
use Rattle.chain_records.proofs.records.VolumeRecords.up_or_zero.Goals as goal

pub returns-in-Some-clause-ringed : goal.returns-in-Some-clause-ringed
returns-in-Some-clause-ringed c = λ ring. absurd (ringed_no_up (records_in c.args.self.now) c.args.id.now c.in-Some.up ring c.in-Some.ensures.some)

pub returns-in-Some-clause-up : goal.returns-in-Some-clause-up
returns-in-Some-clause-up c = λ vs b. sym (ap (λ (o : Option Id). unwrap_or o zero_id) (up_is
    (records_in c.args.self.now) c.args.id.now c.in-Some.up vs b c.in-Some.ensures.some))

pub returns-in-None-clause-up : goal.returns-in-None-clause-up
returns-in-None-clause-up c = λ vs b. sym (ap (λ (o : Option Id). unwrap_or o zero_id) (no_up
    (records_in c.args.self.now) c.args.id.now vs b c.in-None.ensures.none))
