use Rattle.std.proofs.Common.{Err, Ok, subst}
use Rattle.shared_disk.specs.Calls.{Syncs}
use Rattle.sd_names.specs.declared.place.Place.{Place}
use Rattle.write_linking.proofs.Steps.{failed_step, synced_step}
use Rattle.write_linking.proofs.sectors.sync.Goals as goal

pub returns-in-Ok-clause-content : goal.returns-in-Ok-clause-content
returns-in-Ok-clause-content g c d tells =
    let call = c.in-Ok.ensures.call d tells in (
      call.0,
      call.1,
      λ l x begun f there k.
          synced_step c.args.placed c.args.layer.now l x c.args.host _ begun f d there call.0 (g.met.D.SharedDisk.well_formed c.sync.new.self call.0 call.1) k
          (subst (λ (q : Place). Syncs d c.args.host q (Ok tt) call.0) c.place.ensures call.2),
    )

pub returns-in-Err-clause-content : goal.returns-in-Err-clause-content
returns-in-Err-clause-content g c d tells =
    let call = c.in-Err.ensures.call d tells in (
      call.0,
      call.1,
      λ l x begun f there k.
          rw c.refusal_for.ensures (failed_step c.args.placed c.args.layer.now l x c.args.host _ begun f d there c.in-Err.answer call.0 k
          (subst (λ (q : Place). Syncs d c.args.host q (Err c.in-Err.answer) call.0) c.place.ensures call.2)),
    )
