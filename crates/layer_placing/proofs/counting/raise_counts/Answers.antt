use Rattle.std.proofs.Common.{◌≡◌, ◌*◌, ◌/◌, length, Ok, Err, sym, subst, arith}
use Rattle.sd_names.specs.declared.place.Place.{Place}
use Rattle.sd_names.specs.declared.turn.Turn.TheVariants.{Ended}
use Rattle.shared_disk.specs.Calls.{WriteAt}
use Rattle.layer_placing.specs.Knows.{StepsIn}
use Rattle.layer_placing.specs.Stages.{pieces_of}
use Rattle.layer_placing.specs.declared.stage.Stage.TheVariants.{Raising}
use Rattle.layer_placing.proofs.Raises.{raise_fails, raise_steps}
use Rattle.layer_placing.proofs.counting.raise_counts.Goals as goal

pub returns-in-Ok-clause-falls : goal.returns-in-Ok-clause-falls
returns-in-Ok-clause-falls g c = c.after_raise.ensures.falls (pieces_of c.args.layer.now)

pub returns-in-Err-clause-content : goal.returns-in-Err-clause-content
returns-in-Err-clause-content g c d tells =
    let call = c.in-Err.ensures.call d tells in
    let long : length c.args.raise.counts ≡ 512 = omega arith in (
      call.0,
      call.1,
      λ f there known.
          subst (λ r. StepsIn c.args.layer.now c.args.layer.now c.args.host (g.D.SharedDisk.faults c.write_at.new.self) (Raising c.args.raise) (Ended tt r) f d call.0) (sym c.refusal_for.ensures)
          (raise_fails c.args.layer.now c.args.host c.args.raise f ((g.met.D.SharedDisk.well_formed c.args.disk.now d tells).files c.args.layer.now.target.place f there) known long
          (g.D.SharedDisk.faults c.write_at.new.self) c.in-Err.answer d call.0 there
          (subst (λ (p : Place). WriteAt d c.args.host p (c.args.raise.at / 512 * 512 / 512) c.args.raise.counts (Err c.in-Err.answer) call.0) c.place.ensures call.2)),
    )

pub returns-in-Ok-clause-content : goal.returns-in-Ok-clause-content
returns-in-Ok-clause-content g c d tells =
    let call = c.in-Ok.ensures.call d tells in
    let long : length c.args.raise.counts ≡ 512 = omega arith in (
      call.0,
      call.1,
      λ f there known.
          raise_steps c.args.layer.now c.args.host c.args.raise f ((g.met.D.SharedDisk.well_formed c.args.disk.now d tells).files c.args.layer.now.target.place f there) known long
          c.take_all.new.layer c.take_all.ensures (g.D.SharedDisk.faults c.write_at.new.self) c.after_raise.result d call.0 there c.after_raise.ensures.next
          (subst (λ (p : Place). WriteAt d c.args.host p (c.args.raise.at / 512 * 512 / 512) c.args.raise.counts (Ok tt) call.0) c.place.ensures call.2),
    )
