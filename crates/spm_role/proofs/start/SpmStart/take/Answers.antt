use Rattle.std.proofs.Common.{Ok, Err, refl, ap}
use Rattle.sd_names.specs.declared.turn.Turn.TheVariants.{Done, Ended}
use Rattle.lease_area.specs.Hold.{record_of}
use Rattle.lease_area.specs.declared.lease.Lease.{Lease}
use Rattle.spm_role.proofs.Taking.{takes}
use Rattle.spm_role.proofs.start.SpmStart.take.Goals as goal

pub returns-in-Ok-clause-content : goal.returns-in-Ok-clause-content
returns-in-Ok-clause-content g c d tells =
    let call = c.in-Ok.ensures.exchange d tells in
    let leaves = c.in-Ok.ensures.content d tells in
    (call.0, call.1, takes c.args.self c.args.sector c.args.host c.args.up.now _ (Done c.manager.result) (Ok (record_of c.in-Ok.lease)) d call.0 leaves.0 _ call.1 call.2 leaves.1 leaves.2 (ap (λ (l : Lease). record_of l) c.manager.ensures.lease))

pub returns-in-Err-clause-content : goal.returns-in-Err-clause-content
returns-in-Err-clause-content g c d tells =
    let call = c.in-Err.ensures.exchange d tells in
    let leaves = c.in-Err.ensures.content d tells in
    (call.0, call.1, takes c.args.self c.args.sector c.args.host c.args.up.now _ (Ended tt c.in-Err.refusal) (Err c.in-Err.refusal) d call.0 leaves.0 _ call.1 call.2 leaves.1 leaves.2 refl)
