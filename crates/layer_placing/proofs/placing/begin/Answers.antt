use Rattle.std.proofs.Common.{Ok, refl, subst}
use Rattle.sd_names.specs.declared.place.Place.{Place}
use Rattle.shared_disk.specs.Calls.{HasLength}
use Rattle.layer_placing.proofs.Starts.{chooses_on, refuses_room, same_long}
use Rattle.layer_placing.proofs.placing.begin.Goals as goal

pub returns-in-Err-choose-clause-content : goal.returns-in-Err-choose-clause-content
returns-in-Err-choose-clause-content g c d tells =
    let call = c.in-Ok.ensures.call d tells in (
      call.0,
      call.1,
      λ f there knows.
          refuses_room c.args.layer.now c.args.host (g.D.SharedDisk.faults c.length.new.self) c.in-Ok.length c.args.asked c.in-Err-choose.refusal f d call.0 there call.2.0
          (same_long d call.0 c.args.layer.now c.in-Ok.length f there (subst (λ (p : Place). HasLength d p (Ok c.in-Ok.length) call.0) c.place.ensures call.2)) knows c.in-Err-choose.ensures,
    )

pub returns-in-Ok-choose-clause-content : goal.returns-in-Ok-choose-clause-content
returns-in-Ok-choose-clause-content g c d tells =
    let call = c.in-Ok.ensures.call d tells in (
      call.0,
      call.1,
      λ f there knows.
          chooses_on c.args.layer.now c.args.host (g.D.SharedDisk.faults c.length.new.self) c.in-Ok.length c.args.asked _ f d call.0 there call.2.0
          (same_long d call.0 c.args.layer.now c.in-Ok.length f there (subst (λ (p : Place). HasLength d p (Ok c.in-Ok.length) call.0) c.place.ensures call.2)) knows c.in-Ok-choose.ensures refl,
    )
