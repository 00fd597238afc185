use Rattle.layer_placing.specs.Stages.{pieces_of}
use Rattle.write_preparing.proofs.Dispatch.{falls_in, in_stage}
use Rattle.write_preparing.proofs.preparing.step_stage.Goals as goal

pub returns-in-Surveying-clause-content : goal.returns-in-Surveying-clause-content
returns-in-Surveying-clause-content g c d tells =
    let call = c.survey.ensures.content d tells in (
      call.0,
      call.1,
      λ l x f there knows same.
          in_stage c.args.layer.now c.survey.new.layer l x c.args.host (g.D.SharedDisk.faults c.survey.new.disk) c.survey.result f d call.0 c.args.stage _ c.in-Surveying.is (λ k. call.2 l x f there k) knows,
    )

pub returns-in-Asking-clause-content : goal.returns-in-Asking-clause-content
returns-in-Asking-clause-content g c d tells =
    let call = c.ask.ensures.content d tells in (
      call.0,
      call.1,
      λ l x f there knows same.
          in_stage c.args.layer.now c.args.layer.now l x c.args.host (g.D.SharedDisk.faults c.ask.new.disk) c.ask.result f d call.0 c.args.stage _ c.in-Asking.is (λ k. call.2 l x f there k) knows,
    )

pub returns-in-Clearing-clause-content : goal.returns-in-Clearing-clause-content
returns-in-Clearing-clause-content g c d tells =
    let call = c.clear.ensures.content d tells in (
      call.0,
      call.1,
      λ l x f there knows same.
          in_stage c.args.layer.now c.clear.new.layer l x c.args.host (g.D.SharedDisk.faults c.clear.new.disk) c.clear.result f d call.0 c.args.stage _ c.in-Clearing.is (λ k. call.2 l x f there k) knows,
    )

pub returns-in-Placing-clause-content : goal.returns-in-Placing-clause-content
returns-in-Placing-clause-content g c d tells =
    let call = c.place.ensures.content d tells in (
      call.0,
      call.1,
      λ l x f there knows same.
          in_stage c.args.layer.now c.place.new.layer l x c.args.host (g.D.SharedDisk.faults c.place.new.disk) c.place.result f d call.0 c.args.stage _ c.in-Placing.is (λ k. call.2 l x f there k) knows,
    )

pub returns-in-InPlace-clause-content : goal.returns-in-InPlace-clause-content
returns-in-InPlace-clause-content g c d tells =
    let call = c.write_places.ensures.content d tells in (
      call.0,
      call.1,
      λ l x f there knows same.
          in_stage c.args.layer.now c.args.layer.now l x c.args.host (g.D.SharedDisk.faults c.write_places.new.disk) c.write_places.result f d call.0 c.args.stage _ c.in-InPlace.is (λ k. call.2 l x f there k same) knows,
    )

pub returns-in-InPlace-clause-falls : goal.returns-in-InPlace-clause-falls
returns-in-InPlace-clause-falls g c = falls_in (pieces_of c.args.layer.now) c.write_places.result c.args.stage _ c.in-InPlace.is (c.write_places.ensures.falls (pieces_of c.args.layer.now))
