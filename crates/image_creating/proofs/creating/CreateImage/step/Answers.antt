use Rattle.std.proofs.Common.{◌<◌, sym, subst}
use Rattle.image_creating.specs.Stage.{slot_kept}
use Rattle.image_creating.proofs.FileSteps.{end_step, make_step, release_step, stood_for, take_step}
use Rattle.image_creating.proofs.TaskSteps.{ask_step, open_step, scan_step}
use Rattle.image_creating.proofs.Turns.{ready_in}
use Rattle.image_creating.specs.Calls.{CallIn}
use Rattle.image_creating.specs.Creating.{under_of}
use Rattle.image_creating.specs.ImageTask.{held}
use Rattle.image_creating.specs.Steps.{StepsIn}
use Rattle.image_creating.specs.declared.creating.Stage.{Stage}
use Rattle.image_creating.specs.declared.creating.Stage.TheVariants.{Asking, Scanning, Opening, Taking, Making, Ending, Releasing}
use Rattle.lease_area.specs.Sector.{sector_bytes}
use Rattle.image_creating.proofs.creating.CreateImage.step.Goals as goal

pub returns-in-Asking-clause-call : goal.returns-in-Asking-clause-call
returns-in-Asking-clause-call g c d tells =
    let call = c.ask.ensures.call d tells in
    (call.0, call.1, subst (λ (z : Stage). CallIn z (under_of c.args.self) c.args.host c.args.up.now (g.D.SharedDisk.faults c.ask.new.disk) c.ask.result d call.0) (sym c.in-Asking.is) call.2)

pub returns-in-Asking-clause-content : goal.returns-in-Asking-clause-content
returns-in-Asking-clause-content g c d tells =
    let call = c.ask.ensures.call d tells in
    let s : Stage = Asking c.in-Asking.making in (
      call.0,
      call.1,
      λ x knows.
          let known = ready_in s c.args.self x c.args.host d c.in-Asking.is knows in
          subst (λ (z : Stage). StepsIn z (under_of c.args.self) x c.args.host (g.D.SharedDisk.faults c.ask.new.disk) c.ask.result d call.0) (sym c.in-Asking.is)
          (ask_step (under_of c.args.self) x c.in-Asking.making c.args.host (g.D.SharedDisk.faults c.ask.new.disk) c.ask.result d call.0 known call.2.0 call.2.1 call.2.2),
    )

pub returns-in-Scanning-clause-call : goal.returns-in-Scanning-clause-call
returns-in-Scanning-clause-call g c d tells =
    let call = c.scan.ensures.call d tells in
    (call.0, call.1, subst (λ (z : Stage). CallIn z (under_of c.args.self) c.args.host c.args.up.now (g.D.SharedDisk.faults c.scan.new.disk) c.scan.result d call.0) (sym c.in-Scanning.is) call.2)

pub returns-in-Scanning-clause-content : goal.returns-in-Scanning-clause-content
returns-in-Scanning-clause-content g c d tells =
    let call = c.scan.ensures.steps d tells in
    let s : Stage = Scanning c.in-Scanning.making c.in-Scanning.scan in (
      call.0,
      call.1,
      λ x knows.
          let known = ready_in s c.args.self x c.args.host d c.in-Scanning.is knows in
          subst (λ (z : Stage). StepsIn z (under_of c.args.self) x c.args.host (g.D.SharedDisk.faults c.scan.new.disk) c.scan.result d call.0) (sym c.in-Scanning.is)
          (scan_step (under_of c.args.self) x c.in-Scanning.making c.in-Scanning.scan c.args.host (g.D.SharedDisk.faults c.scan.new.disk) c.scan.result d call.0 known call.2.0 call.2.1 call.2.2 call.2.3 call.2.4 call.2.5 call.2.6),
    )

pub returns-in-Opening-clause-call : goal.returns-in-Opening-clause-call
returns-in-Opening-clause-call g c d tells =
    let call = c.open.ensures.call d tells in
    (call.0, call.1, subst (λ (z : Stage). CallIn z (under_of c.args.self) c.args.host c.args.up.now (g.D.SharedDisk.faults c.open.new.disk) c.open.result d call.0) (sym c.in-Opening.is) call.2)

pub returns-in-Opening-clause-content : goal.returns-in-Opening-clause-content
returns-in-Opening-clause-content g c d tells =
    let call = c.open.ensures.steps d tells in
    let s : Stage = Opening c.in-Opening.making c.in-Opening.slot c.in-Opening.write in (
      call.0,
      call.1,
      λ x knows.
          let known = ready_in s c.args.self x c.args.host d c.in-Opening.is knows in
          subst (λ (z : Stage). StepsIn z (under_of c.args.self) x c.args.host (g.D.SharedDisk.faults c.open.new.disk) c.open.result d call.0) (sym c.in-Opening.is)
          (let steps = call.2 known.writing.write in open_step (under_of c.args.self) x c.in-Opening.making c.in-Opening.slot c.in-Opening.write c.args.host (g.D.SharedDisk.faults c.open.new.disk) c.open.result d call.0 (g.met.D.SharedDisk.well_formed c.open.new.disk call.0 call.1) known steps.0 steps.1 steps.2 steps.3),
    )

pub returns-in-Taking-clause-call : goal.returns-in-Taking-clause-call
returns-in-Taking-clause-call g c d tells =
    let call = c.take.ensures.call d tells in
    (call.0, call.1, subst (λ (z : Stage). CallIn z (under_of c.args.self) c.args.host c.args.up.now (g.D.SharedDisk.faults c.take.new.disk) c.take.result d call.0) (sym c.in-Taking.is) call.2)

pub returns-in-Taking-clause-content : goal.returns-in-Taking-clause-content
returns-in-Taking-clause-content g c d tells =
    let call = c.take.ensures.call d tells in
    let s : Stage = Taking c.in-Taking.making c.in-Taking.slot in (
      call.0,
      call.1,
      λ x knows.
          let known = ready_in s c.args.self x c.args.host d c.in-Taking.is knows in
          subst (λ (z : Stage). StepsIn z (under_of c.args.self) x c.args.host (g.D.SharedDisk.faults c.take.new.disk) c.take.result d call.0) (sym c.in-Taking.is)
          (take_step (under_of c.args.self) x c.in-Taking.making c.in-Taking.slot c.args.host (g.D.SharedDisk.faults c.take.new.disk) c.args.up.now c.take.result d call.0 (g.met.D.SharedDisk.well_formed c.take.new.disk call.0 call.1) (g.met.D.SharedDisk.well_formed c.args.disk.now d tells) (record { low = subst (λ (z : Stage). 0 < slot_kept z) c.in-Taking.is c.args.self.low; high = subst (λ (z : Stage). slot_kept z < 1024) c.in-Taking.is c.args.self.high }) known call.2.0 call.2.1 call.2.2),
    )

pub returns-in-Making-clause-call : goal.returns-in-Making-clause-call
returns-in-Making-clause-call g c d tells =
    let call = c.make.ensures.call d tells in
    (call.0, call.1, subst (λ (z : Stage). CallIn z (under_of c.args.self) c.args.host c.args.up.now (g.D.SharedDisk.faults c.make.new.disk) c.make.result d call.0) (sym c.in-Making.is) call.2)

pub returns-in-Making-clause-content : goal.returns-in-Making-clause-content
returns-in-Making-clause-content g c d tells =
    let call = c.make.ensures.steps d tells in
    let s : Stage = Making c.in-Making.making c.in-Making.lease in (
      call.0,
      call.1,
      λ x knows.
          let known = ready_in s c.args.self x c.args.host d c.in-Making.is knows in
          subst (λ (z : Stage). StepsIn z (under_of c.args.self) x c.args.host (g.D.SharedDisk.faults c.make.new.disk) c.make.result d call.0) (sym c.in-Making.is)
          (let steps = call.2 known.making in make_step (under_of c.args.self) x c.in-Making.making c.in-Making.lease c.args.host (g.D.SharedDisk.faults c.make.new.disk) c.make.result d call.0 known steps.0 steps.1 steps.2 steps.3),
    )

pub returns-in-Ending-clause-call : goal.returns-in-Ending-clause-call
returns-in-Ending-clause-call g c d tells =
    let call = c.end.ensures.call d tells in
    (call.0, call.1, subst (λ (z : Stage). CallIn z (under_of c.args.self) c.args.host c.args.up.now (g.D.SharedDisk.faults c.end.new.disk) c.end.result d call.0) (sym c.in-Ending.is) call.2)

pub returns-in-Ending-clause-content : goal.returns-in-Ending-clause-content
returns-in-Ending-clause-content g c d tells =
    let call = c.end.ensures.steps d tells in
    let s : Stage = Ending c.in-Ending.lease c.in-Ending.write in (
      call.0,
      call.1,
      λ x knows.
          let known = ready_in s c.args.self x c.args.host d c.in-Ending.is knows in
          subst (λ (z : Stage). StepsIn z (under_of c.args.self) x c.args.host (g.D.SharedDisk.faults c.end.new.disk) c.end.result d call.0) (sym c.in-Ending.is)
          (let steps = call.2 known.writing.write in end_step (under_of c.args.self) x c.in-Ending.lease c.in-Ending.write c.args.host (g.D.SharedDisk.faults c.end.new.disk) c.end.result d call.0 known steps.0 steps.1 steps.2 steps.3),
    )

pub returns-in-Releasing-clause-call : goal.returns-in-Releasing-clause-call
returns-in-Releasing-clause-call g c d tells =
    let call = c.release.ensures.call d tells in
    (call.0, call.1, subst (λ (z : Stage). CallIn z (under_of c.args.self) c.args.host c.args.up.now (g.D.SharedDisk.faults c.release.new.disk) c.release.result d call.0) (sym c.in-Releasing.is) call.2)

pub returns-in-Releasing-clause-content : goal.returns-in-Releasing-clause-content
returns-in-Releasing-clause-content g c d tells =
    let call = c.release.ensures.steps d tells in
    let s : Stage = Releasing c.in-Releasing.lease in (
      call.0,
      call.1,
      λ x knows.
          let known = ready_in s c.args.self x c.args.host d c.in-Releasing.is knows in
          subst (λ (z : Stage). StepsIn z (under_of c.args.self) x c.args.host (g.D.SharedDisk.faults c.release.new.disk) c.release.result d call.0) (sym c.in-Releasing.is)
          (let steps = call.2 (sector_bytes (held (under_of c.args.self) c.args.host)) (stood_for (under_of c.args.self) x c.in-Releasing.lease c.args.host (g.D.SharedDisk.faults c.release.new.disk) c.release.result d call.0 known) in release_step (under_of c.args.self) x c.in-Releasing.lease c.args.host (g.D.SharedDisk.faults c.release.new.disk) c.release.result d call.0 known steps.0 steps.1 steps.2),
    )
