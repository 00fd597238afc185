use Rattle.std.proofs.Common.{sym, subst}
use Rattle.lease_area.specs.Sector.{sector_bytes}
use Rattle.lease_area.specs.declared.sector.Sector.TheVariants.{Lease}
use Rattle.image_clearing.specs.Knowing.{IsReady}
use Rattle.image_clearing.specs.Steps.{StepsIn}
use Rattle.image_clearing.specs.declared.clearing.Stage.{Stage}
use Rattle.image_clearing.proofs.Steps.{empty_step, remove_step, scan_step}
use Rattle.image_clearing.proofs.clearing.ImageClearing.step.Goals as goal

pub returns-in-Scanning-clause-content : goal.returns-in-Scanning-clause-content
returns-in-Scanning-clause-content g c d tells =
    let call = c.scan_on.ensures.steps d tells in (
      call.0,
      call.1,
      λ knows.
          let known = subst (λ (z : Stage). IsReady z c.args.self.sd c.args.self.image d) c.in-Scanning.is knows in
          subst (λ (z : Stage). StepsIn z c.args.self.sd c.args.self.image (g.D.SharedDisk.faults c.scan_on.new.disk) c.scan_on.result d call.0) (sym c.in-Scanning.is)
          (scan_step c.args.self.sd c.args.self.image c.in-Scanning.scan c.args.host (g.D.SharedDisk.faults c.scan_on.new.disk) c.scan_on.result d call.0 known call.2.0 call.2.1 call.2.2 call.2.3 call.2.4 call.2.5 call.2.6),
    )

pub returns-in-Removing-clause-content : goal.returns-in-Removing-clause-content
returns-in-Removing-clause-content g c d tells =
    let call = c.remove_on.ensures.steps d tells in (
      call.0,
      call.1,
      λ knows.
          let known = subst (λ (z : Stage). IsReady z c.args.self.sd c.args.self.image d) c.in-Removing.is knows in
          subst (λ (z : Stage). StepsIn z c.args.self.sd c.args.self.image (g.D.SharedDisk.faults c.remove_on.new.disk) c.remove_on.result d call.0) (sym c.in-Removing.is)
          (remove_step c.args.self.sd c.args.self.image c.in-Removing.slot c.in-Removing.lease c.in-Removing.removing (g.D.SharedDisk.faults c.remove_on.new.disk) c.remove_on.result d call.0 known call.2.0 call.2.1 call.2.2 call.2.3),
    )

pub returns-in-Emptying-clause-content : goal.returns-in-Emptying-clause-content
returns-in-Emptying-clause-content g c d tells =
    let call = c.empty_on.ensures.steps d tells in (
      call.0,
      call.1,
      λ knows.
          let known = subst (λ (z : Stage). IsReady z c.args.self.sd c.args.self.image d) c.in-Emptying.is knows in
          let by = call.2 (sector_bytes (Lease c.in-Emptying.lease)) known.sector.stands in
          subst (λ (z : Stage). StepsIn z c.args.self.sd c.args.self.image (g.D.SharedDisk.faults c.empty_on.new.disk) c.empty_on.result d call.0) (sym c.in-Emptying.is)
          (empty_step c.args.self.sd c.args.self.image c.in-Emptying.slot c.in-Emptying.lease (g.D.SharedDisk.faults c.empty_on.new.disk) c.empty_on.result d call.0 known by.0 by.1 by.2),
    )
