use Rattle.std.proofs.Common.{Err, Ok, subst}
use Rattle.sd_names.specs.declared.place.Place.{Place}
use Rattle.shared_disk.specs.Calls.{HasLength}
use Rattle.layer_placing.specs.Chosen.{Chooses}
use Rattle.write_preparing.proofs.Looked.{asking_failed, room_found, room_lacks}
use Rattle.write_preparing.proofs.beginning.ask.Goals as goal

pub returns-in-Ok-choose-clause-content : goal.returns-in-Ok-choose-clause-content
returns-in-Ok-choose-clause-content g c d tells =
    let call = c.in-Ok.ensures.call d tells in (
      call.0,
      call.1,
      λ l x f there k.
          room_found c.args.asked c.args.layer.now l x c.args.host _ f d call.0 there k c.in-Ok.length c.in-Ok-choose.field-0 c.begin.result
          (subst (λ (p : Place). HasLength d p (Ok c.in-Ok.length) call.0) c.place.ensures call.2)
          (subst (λ n. Chooses c.args.layer.now n c.in-Ok.length (Ok c.in-Ok-choose.field-0)) c.wanted.ensures.value c.in-Ok-choose.ensures) c.begin.ensures,
    )

pub returns-in-Err-choose-clause-content : goal.returns-in-Err-choose-clause-content
returns-in-Err-choose-clause-content g c d tells =
    let call = c.in-Ok.ensures.call d tells in (
      call.0,
      call.1,
      λ l x f there k.
          room_lacks c.args.asked c.args.layer.now l x c.args.host _ f d call.0 there k c.in-Ok.length c.in-Err-choose.refusal
          (subst (λ (p : Place). HasLength d p (Ok c.in-Ok.length) call.0) c.place.ensures call.2)
          (subst (λ n. Chooses c.args.layer.now n c.in-Ok.length (Err c.in-Err-choose.refusal)) c.wanted.ensures.value c.in-Err-choose.ensures),
    )

pub returns-in-Err-clause-content : goal.returns-in-Err-clause-content
returns-in-Err-clause-content g c d tells =
    let call = c.in-Err.ensures.call d tells in (
      call.0,
      call.1,
      λ l x f there k.
          rw c.refusal_for.ensures
          (asking_failed c.args.asked c.args.layer.now l x c.args.host _ f d call.0 there k c.in-Err.answer (subst (λ (p : Place). HasLength d p (Err c.in-Err.answer) call.0) c.place.ensures call.2)),
    )
