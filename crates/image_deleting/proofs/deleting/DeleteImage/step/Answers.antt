use Rattle.std.proofs.Common.{◌<◌, sym, subst}
use Rattle.lease_area.specs.Hold.{record_of}
use Rattle.lease_area.specs.Sector.{sector_bytes}
use Rattle.lease_area.specs.declared.sector.Sector.TheVariants.{Lease}
use Rattle.image_deleting.specs.Calls.{CallIn}
use Rattle.image_deleting.specs.Deleting.{under_of}
use Rattle.image_deleting.specs.Stage.{slot_kept}
use Rattle.image_deleting.specs.Steps.{StepsIn}
use Rattle.image_deleting.specs.declared.deleting.Stage.{Stage}
use Rattle.image_deleting.specs.declared.deleting.Stage.TheVariants.{Scanning, Taking, Opening, Removing, Clearing, Ending}
use Rattle.image_deleting.proofs.FileSteps.{clear_step, remove_step, stood_for}
use Rattle.image_deleting.proofs.ScanStep.{scan_step}
use Rattle.image_deleting.proofs.TakeStep.{take_step}
use Rattle.image_deleting.proofs.TextSteps.{end_step, open_step}
use Rattle.image_deleting.proofs.Turns.{ready_in}
use Rattle.image_deleting.proofs.deleting.DeleteImage.step.Goals as goal

pub returns-in-Scanning-clause-content : goal.returns-in-Scanning-clause-content
returns-in-Scanning-clause-content g c d tells =
    let call = c.scan.ensures.steps d tells in
    let s : Stage = Scanning c.in-Scanning.scan in (
      call.0,
      call.1,
      λ knows.
          let known = ready_in s c.args.self c.args.host d c.in-Scanning.is knows in
          subst (λ (z : Stage). StepsIn z (under_of c.args.self) c.args.host c.args.up.now (g.D.SharedDisk.faults c.scan.new.disk) c.scan.result d call.0) (sym c.in-Scanning.is)
          (scan_step (under_of c.args.self) c.in-Scanning.scan c.args.host (g.D.SharedDisk.faults c.scan.new.disk) c.args.up.now c.scan.result d call.0 known call.2.0 call.2.1 call.2.2 call.2.3 call.2.4 call.2.5 call.2.6),
    )

pub returns-in-Taking-clause-content : goal.returns-in-Taking-clause-content
returns-in-Taking-clause-content g c d tells =
    let call = c.take.ensures.call d tells in
    let s : Stage = Taking c.in-Taking.slot c.in-Taking.found in (
      call.0,
      call.1,
      λ knows.
          let known = ready_in s c.args.self c.args.host d c.in-Taking.is knows in
          subst (λ (z : Stage). StepsIn z (under_of c.args.self) c.args.host c.args.up.now (g.D.SharedDisk.faults c.take.new.disk) c.take.result d call.0) (sym c.in-Taking.is)
          (take_step (under_of c.args.self) c.in-Taking.slot c.in-Taking.found c.args.host (g.D.SharedDisk.faults c.take.new.disk) c.args.up.now c.take.result d call.0 (record { low = subst (λ (z : Stage). 0 < slot_kept z) c.in-Taking.is c.args.self.low; high = subst (λ (z : Stage). slot_kept z < 1024) c.in-Taking.is c.args.self.high }) known call.2.0 call.2.1 call.2.2),
    )

pub returns-in-Opening-clause-call : goal.returns-in-Opening-clause-call
returns-in-Opening-clause-call g c d tells =
    let call = c.open.ensures.call d tells in
    (call.0, call.1, subst (λ (z : Stage). CallIn z (under_of c.args.self) c.args.host c.args.up.now (g.D.SharedDisk.faults c.open.new.disk) c.open.result d call.0) (sym c.in-Opening.is) call.2)

pub returns-in-Opening-clause-content : goal.returns-in-Opening-clause-content
returns-in-Opening-clause-content g c d tells =
    let call = c.open.ensures.steps d tells in
    let s : Stage = Opening c.in-Opening.lease c.in-Opening.write in (
      call.0,
      call.1,
      λ knows.
          let known = ready_in s c.args.self c.args.host d c.in-Opening.is knows in
          subst (λ (z : Stage). StepsIn z (under_of c.args.self) c.args.host c.args.up.now (g.D.SharedDisk.faults c.open.new.disk) c.open.result d call.0) (sym c.in-Opening.is)
          (let steps = call.2 known.writing.write in open_step (under_of c.args.self) c.in-Opening.lease c.in-Opening.write c.args.host (g.D.SharedDisk.faults c.open.new.disk) c.args.up.now c.open.result d call.0 known steps.0 steps.1 steps.2 steps.3),
    )

pub returns-in-Removing-clause-content : goal.returns-in-Removing-clause-content
returns-in-Removing-clause-content g c d tells =
    let call = c.remove.ensures.steps d tells in
    let s : Stage = Removing c.in-Removing.lease c.in-Removing.removing in (
      call.0,
      call.1,
      λ knows.
          let known = ready_in s c.args.self c.args.host d c.in-Removing.is knows in
          subst (λ (z : Stage). StepsIn z (under_of c.args.self) c.args.host c.args.up.now (g.D.SharedDisk.faults c.remove.new.disk) c.remove.result d call.0) (sym c.in-Removing.is)
          (remove_step (under_of c.args.self) c.in-Removing.lease c.in-Removing.removing c.args.host (g.D.SharedDisk.faults c.remove.new.disk) c.args.up.now c.remove.result d call.0 known call.2.0 call.2.1 call.2.2 call.2.3),
    )

pub returns-in-Clearing-clause-content : goal.returns-in-Clearing-clause-content
returns-in-Clearing-clause-content g c d tells =
    let call = c.clear.ensures.steps d tells in
    let s : Stage = Clearing c.in-Clearing.lease in (
      call.0,
      call.1,
      λ knows.
          let known = ready_in s c.args.self c.args.host d c.in-Clearing.is knows in
          subst (λ (z : Stage). StepsIn z (under_of c.args.self) c.args.host c.args.up.now (g.D.SharedDisk.faults c.clear.new.disk) c.clear.result d call.0) (sym c.in-Clearing.is)
          (let steps = call.2 (sector_bytes (Lease (record_of c.in-Clearing.lease))) (stood_for (under_of c.args.self) c.in-Clearing.lease c.args.host (g.D.SharedDisk.faults c.clear.new.disk) c.args.up.now c.clear.result d call.0 known) in clear_step (under_of c.args.self) c.in-Clearing.lease c.args.host (g.D.SharedDisk.faults c.clear.new.disk) c.args.up.now c.clear.result d call.0 known steps.0 steps.1 steps.2),
    )

pub returns-in-Ending-clause-call : goal.returns-in-Ending-clause-call
returns-in-Ending-clause-call g c d tells =
    let call = c.end.ensures.call d tells in
    (call.0, call.1, subst (λ (z : Stage). CallIn z (under_of c.args.self) c.args.host c.args.up.now (g.D.SharedDisk.faults c.end.new.disk) c.end.result d call.0) (sym c.in-Ending.is) call.2)

pub returns-in-Ending-clause-content : goal.returns-in-Ending-clause-content
returns-in-Ending-clause-content g c d tells =
    let call = c.end.ensures.steps d tells in
    let s : Stage = Ending c.in-Ending.write in (
      call.0,
      call.1,
      λ knows.
          let known = ready_in s c.args.self c.args.host d c.in-Ending.is knows in
          subst (λ (z : Stage). StepsIn z (under_of c.args.self) c.args.host c.args.up.now (g.D.SharedDisk.faults c.end.new.disk) c.end.result d call.0) (sym c.in-Ending.is)
          (let steps = call.2 known.writing.write in end_step (under_of c.args.self) c.in-Ending.write c.args.host (g.D.SharedDisk.faults c.end.new.disk) c.args.up.now c.end.result d call.0 known steps.0 steps.1 steps.2 steps.3),
    )
