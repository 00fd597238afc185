use Rattle.std.proofs.Common.{refl, Ok, Err}
use Rattle.lease_area.specs.Hold.{record_of}
use Rattle.image_deleting.proofs.removal_task.RemovalTask.take.Goals as goal

pub returns-in-Ok-clause-call : goal.returns-in-Ok-clause-call
returns-in-Ok-clause-call g c d tells =
    let call = c.in-Ok.ensures.exchange d tells in
    let lease = c.in-Ok.lease in
    let begun = c.begin-write.ensures in (
      call.0,
      call.1,
      (
        Ok (record_of lease),
        call.2,
        (
          lease,
          c.begin-write.result,
          c.at.ensures,
          record { domain = c.in-Ok.ensures.sector.0; slot_is = c.in-Ok.ensures.sector.1; lease_is = refl; kind_is = c.in-Ok.ensures.held.1 },
          record { file = begun.file; volatile = begun.volatile; stage = begun.stage },
        ),
      ),
    )

pub returns-in-Err-clause-call : goal.returns-in-Err-clause-call
returns-in-Err-clause-call g c d tells =
    let call = c.in-Err.ensures.exchange d tells in
    (call.0, call.1, (Err c.in-Err.refusal, call.2, refl))
