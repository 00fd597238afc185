use Rattle.std.proofs.Common.{ap, ◌∙◌, Ok, Err}
use Rattle.sd_names.specs.declared.refusal.Refusal.{Refusal}
use Rattle.sd_names.specs.declared.turn.Turn.TheVariants.{Ended, More}
use Rattle.qcow_format.specs.declared.header.Header.{Header}
use Rattle.layer_linking.specs.Calls.{at_stage, piece_size, stage_behind}
use Rattle.layer_linking.specs.declared.linking.Stage.{Stage}
use Rattle.layer_linking.proofs.Moved.{piece_at, written_at}
use Rattle.layer_linking.proofs.Sizes.{zeros_of}
use Rattle.layer_linking.proofs.filling.zero_piece.Goals as goal

pub returns-in-Err-clause-content : goal.returns-in-Err-clause-content
returns-in-Err-clause-content g c d tells =
    let call = c.in-Err.ensures.call d tells in
    let size = c.piece_bytes-size.ensures.value ∙ ap piece_size c.header.ensures in (
      call.0,
      call.1,
      (
        Err c.in-Err.answer,
        written_at d call.0 c.args.host _ _ _ _ _ _ (Err c.in-Err.answer) c.place.ensures
            (piece_at c.args.table c.args.piece _ _ _ _ c.from.ensures size c.saturating_add-at.ensures)
            (zeros_of _ _ c.piece_bytes-size.ensures.most size) call.2,
        ap (λ (r : Refusal). Ended tt r) c.refusal_for.ensures,
      ),
    )

pub returns-in-Ok-clause-content : goal.returns-in-Ok-clause-content
returns-in-Ok-clause-content g c d tells =
    let call = c.in-Ok.ensures.call d tells in
    let size = c.piece_bytes-size.ensures.value ∙ ap piece_size c.header.ensures in
    let stage = c.behind.ensures ∙ ap (λ (h : Header). stage_behind h c.args.table c.args.piece) c.header-in-Ok.ensures in (
      call.0,
      call.1,
      (
        Ok c.in-Ok.field-0,
        written_at d call.0 c.args.host _ _ _ _ _ _ (Ok c.in-Ok.field-0) c.place.ensures
            (piece_at c.args.table c.args.piece _ _ _ _ c.from.ensures size c.saturating_add-at.ensures)
            (zeros_of _ _ c.piece_bytes-size.ensures.most size) call.2,
        ap (λ (s : Stage). More (at_stage c.args.linking s)) stage,
      ),
    )
