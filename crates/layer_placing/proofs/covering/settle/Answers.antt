use Rattle.std.proofs.Common.{Ok, Err, sym, subst}
use Rattle.sd_names.specs.declared.place.Place.{Place}
use Rattle.sd_names.specs.declared.turn.Turn.TheVariants.{Ended}
use Rattle.shared_disk.specs.Calls.{Syncs}
use Rattle.layer_placing.specs.Knows.{StepsIn}
use Rattle.layer_placing.specs.declared.stage.Stage.TheVariants.{Zeroed}
use Rattle.layer_placing.proofs.Syncs.{block_sync_fails, block_synced}
use Rattle.layer_placing.proofs.covering.settle.Goals as goal

pub returns-in-Err-clause-content : goal.returns-in-Err-clause-content
returns-in-Err-clause-content g c d tells =
    let call = c.in-Err.ensures.call d tells in (
      call.0,
      call.1,
      λ f there lacks.
          subst (λ r. StepsIn c.args.layer.now c.args.layer.now c.args.host (g.D.SharedDisk.faults c.sync.new.self) (Zeroed c.args.work c.args.table) (Ended tt r) f d call.0) (sym c.refusal_for.ensures)
          (block_sync_fails c.args.layer.now c.args.host (g.D.SharedDisk.faults c.sync.new.self) c.args.work c.args.table f d call.0 c.in-Err.answer there lacks
          (subst (λ (p : Place). Syncs d c.args.host p (Err c.in-Err.answer) call.0) c.place.ensures call.2)),
    )

pub returns-in-Ok-clause-content : goal.returns-in-Ok-clause-content
returns-in-Ok-clause-content g c d tells =
    let call = c.in-Ok.ensures.call d tells in (
      call.0,
      call.1,
      λ f there lacks.
          block_synced c.args.layer.now c.args.host (g.D.SharedDisk.faults c.sync.new.self) c.args.work c.args.table f d call.0 there lacks
          (subst (λ (p : Place). Syncs d c.args.host p (Ok tt) call.0) c.place.ensures call.2),
    )
