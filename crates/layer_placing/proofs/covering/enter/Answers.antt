use Rattle.std.proofs.Common.{◌≡◌, ◌*◌, ◌/◌, Ok, Err, sym, ap, ◌∙◌, subst, arith}
use Rattle.sd_names.specs.declared.place.Place.{Place}
use Rattle.sd_names.specs.declared.turn.Turn.TheVariants.{Ended, More}
use Rattle.shared_disk.specs.Calls.{WriteAt}
use Rattle.layer_placing.specs.Knows.{StepsIn}
use Rattle.layer_placing.specs.Stages.{block_place_of, current_of, entry_place_of}
use Rattle.layer_placing.specs.declared.stage.Stage.TheVariants.{Entered, Settled}
use Rattle.layer_placing.proofs.Entries.{block_value, enter_fails, enters_on, entry_bytes, entry_row}
use Rattle.layer_placing.proofs.covering.enter.Goals as goal

pub returns-in-Err-clause-content : goal.returns-in-Err-clause-content
returns-in-Err-clause-content g c d tells =
    let call = c.in-Err.ensures.call d tells in
    let at : c.entry_place-at.result ≡ entry_place_of c.args.layer.now (current_of c.args.work) = c.entry_place-at.ensures ∙ ap (entry_place_of c.args.layer.now) c.current.ensures in
    let block : c.block_place-block.result ≡ block_place_of c.args.layer.now (current_of c.args.work) = c.block_place-block.ensures ∙ ap (block_place_of c.args.layer.now) c.current-2.ensures in (
      call.0,
      call.1,
      λ f there known.
          subst (λ r. StepsIn c.args.layer.now c.args.layer.now c.args.host (g.D.SharedDisk.faults c.write_at.new.self) (Settled c.args.work c.args.table) (Ended tt r) f d call.0) (sym c.refusal_for.ensures)
          (enter_fails c.args.layer.now c.args.host c.args.work c.args.table c.put_word.new.sector f known.0 known.1 ((g.met.D.SharedDisk.well_formed c.args.disk.now d tells).files c.args.layer.now.target.place f there)
          (entry_bytes c.args.layer.now c.args.host _ c.entry_place-at.result c.block_place-block.result c.args.work c.args.table c.put_word.new.sector f known.0 at block c.put_word.ensures) (omega arith)
          (g.D.SharedDisk.faults c.write_at.new.self) c.in-Err.answer d call.0 there
          (subst (λ n. WriteAt d c.args.host c.args.layer.now.target.place n c.put_word.new.sector (Err c.in-Err.answer) call.0) (entry_row _ _ at)
          (subst (λ (p : Place). WriteAt d c.args.host p (c.entry_place-at.result / 512 * 512 / 512) c.put_word.new.sector (Err c.in-Err.answer) call.0) c.place.ensures call.2))),
    )

pub returns-in-Ok-clause-content : goal.returns-in-Ok-clause-content
returns-in-Ok-clause-content g c d tells =
    let call = c.in-Ok.ensures.call d tells in
    let at : c.entry_place-at.result ≡ entry_place_of c.args.layer.now (current_of c.args.work) = c.entry_place-at.ensures ∙ ap (entry_place_of c.args.layer.now) c.current.ensures in
    let block : c.block_place-block.result ≡ block_place_of c.args.layer.now (current_of c.args.work) = c.block_place-block.ensures ∙ ap (block_place_of c.args.layer.now) c.current-2.ensures in (
      call.0,
      call.1,
      λ f there known.
          subst (λ b. StepsIn c.args.layer.now c.args.layer.now c.args.host (g.D.SharedDisk.faults c.write_at.new.self) (Settled c.args.work c.args.table) (More (Entered c.args.work b)) f d call.0)
          (sym (block_value c.args.layer.now c.args.host _ c.block_place-block.result c.args.work c.args.table f known.0 block))
          (enters_on c.args.layer.now c.args.host c.args.work c.args.table c.put_word.new.sector f known.0 known.1 ((g.met.D.SharedDisk.well_formed c.args.disk.now d tells).files c.args.layer.now.target.place f there)
          (entry_bytes c.args.layer.now c.args.host _ c.entry_place-at.result c.block_place-block.result c.args.work c.args.table c.put_word.new.sector f known.0 at block c.put_word.ensures) (omega arith)
          (g.D.SharedDisk.faults c.write_at.new.self) d call.0 there
          (subst (λ n. WriteAt d c.args.host c.args.layer.now.target.place n c.put_word.new.sector (Ok tt) call.0) (entry_row _ _ at)
          (subst (λ (p : Place). WriteAt d c.args.host p (c.entry_place-at.result / 512 * 512 / 512) c.put_word.new.sector (Ok tt) call.0) c.place.ensures call.2))),
    )
