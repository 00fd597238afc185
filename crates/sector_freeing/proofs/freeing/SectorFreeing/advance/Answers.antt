use Rattle.std.proofs.Common.{◌<◌, sym, subst}
use Rattle.lease_area.specs.Sector.{sector_bytes}
use Rattle.lease_area.specs.declared.sector.Sector.TheVariants.{Lease}
use Rattle.sector_freeing.specs.Knowing.{KnowsIn}
use Rattle.sector_freeing.specs.Stage.{slot_kept}
use Rattle.sector_freeing.specs.Steps.{StepsIn}
use Rattle.sector_freeing.specs.declared.freeing.Stage.{Stage}
use Rattle.sector_freeing.proofs.Steps.{free_step, list_step, look_step, sync_step, task_stands}
use Rattle.sector_freeing.proofs.freeing.SectorFreeing.advance.Goals as goal

pub returns-in-Looking-clause-content : goal.returns-in-Looking-clause-content
returns-in-Looking-clause-content g c d tells =
    let call = c.look_on.ensures.steps d tells in
    let self = c.args.self in (
      call.0,
      call.1,
      λ knows.
          let known = subst (λ (z : Stage). KnowsIn z c.args.host self.sd d) c.in-Looking.is knows in
          subst (λ (z : Stage). StepsIn z c.args.host self.sd (g.D.SharedDisk.faults c.look_on.new.disk) c.look_on.result d call.0) (sym c.in-Looking.is)
          (look_step c.args.host c.in-Looking.from (g.D.SharedDisk.faults c.look_on.new.disk) self.sd c.look_on.result d call.0 known (subst (λ (z : Stage). 0 < slot_kept z) c.in-Looking.is self.low)
          (subst (λ (z : Stage). slot_kept z < 1024) c.in-Looking.is self.high) call.2),
    )

pub returns-in-Listing-clause-content : goal.returns-in-Listing-clause-content
returns-in-Listing-clause-content g c d tells =
    let call = c.list_on.ensures.steps d tells in
    let self = c.args.self in (
      call.0,
      call.1,
      λ knows.
          let known = subst (λ (z : Stage). KnowsIn z c.args.host self.sd d) c.in-Listing.is knows in
          subst (λ (z : Stage). StepsIn z c.args.host self.sd (g.D.SharedDisk.faults c.list_on.new.disk) c.list_on.result d call.0) (sym c.in-Listing.is)
          (list_step c.args.host c.in-Listing.slot (g.D.SharedDisk.faults c.list_on.new.disk) self.sd c.in-Listing.lease c.in-Listing.after c.list_on.result d call.0
          (g.met.D.SharedDisk.well_formed c.args.disk.now d tells) known call.2),
    )

pub returns-in-Syncing-clause-content : goal.returns-in-Syncing-clause-content
returns-in-Syncing-clause-content g c d tells =
    let call = c.sync_on.ensures.steps d tells in
    let self = c.args.self in (
      call.0,
      call.1,
      λ knows.
          let known = subst (λ (z : Stage). KnowsIn z c.args.host self.sd d) c.in-Syncing.is knows in
          subst (λ (z : Stage). StepsIn z c.args.host self.sd (g.D.SharedDisk.faults c.sync_on.new.disk) c.sync_on.result d call.0) (sym c.in-Syncing.is)
          (sync_step c.args.host c.in-Syncing.slot (g.D.SharedDisk.faults c.sync_on.new.disk) self.sd c.in-Syncing.lease c.in-Syncing.name c.sync_on.result d call.0 known call.2),
    )

pub returns-in-Freeing-clause-content : goal.returns-in-Freeing-clause-content
returns-in-Freeing-clause-content g c d tells =
    let call = c.free_on.ensures.steps d tells in
    let self = c.args.self in (
      call.0,
      call.1,
      λ knows.
          let known = subst (λ (z : Stage). KnowsIn z c.args.host self.sd d) c.in-Freeing.is knows in
          let by = call.2 (sector_bytes (Lease c.in-Freeing.lease)) (task_stands self.sd c.in-Freeing.slot c.in-Freeing.lease d known.1.0) in
          subst (λ (z : Stage). StepsIn z c.args.host self.sd (g.D.SharedDisk.faults c.free_on.new.disk) c.free_on.result d call.0) (sym c.in-Freeing.is)
          (free_step c.args.host c.in-Freeing.slot (g.D.SharedDisk.faults c.free_on.new.disk) self.sd c.in-Freeing.lease c.free_on.result d call.0 known by.0 by.1 by.2),
    )
