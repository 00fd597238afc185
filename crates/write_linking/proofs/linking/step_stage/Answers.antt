use Rattle.std.proofs.Common.{sym, subst}
use Rattle.write_linking.specs.Linking.{LinksAt, StageFalls}
use Rattle.write_linking.specs.declared.stage.Stage.{Stage}
use Rattle.write_linking.proofs.Falls.{next_falls}
use Rattle.write_linking.proofs.Steps.{next_step}
use Rattle.write_linking.proofs.linking.step_stage.Goals as goal

pub returns-in-Syncing-clause-content : goal.returns-in-Syncing-clause-content
returns-in-Syncing-clause-content g c d tells =
    let call = c.sync.ensures.content d tells in
    (call.0, call.1, subst (λ (s : Stage). LinksAt s c.args.layer.now c.args.host (g.D.SharedDisk.faults c.sync.new.disk) c.sync.result d call.0) (sym c.in-Syncing.is) call.2)

pub returns-in-Next-clause-falls : goal.returns-in-Next-clause-falls
returns-in-Next-clause-falls g c = subst (λ (s : Stage). StageFalls c.args.layer.now s c.next_linking.result) (sym c.in-Next.is) (next_falls c.args.layer.now c.in-Next.placed c.in-Next.sector c.next_linking.result c.next_linking.ensures)

pub returns-in-Next-clause-content : goal.returns-in-Next-clause-content
returns-in-Next-clause-content g c d tells = (
  d,
  tells,
  subst (λ (s : Stage). LinksAt s c.args.layer.now c.args.host (g.D.SharedDisk.faults c.args.disk.now) c.next_linking.result d d) (sym c.in-Next.is)
      (λ l x begun f there k. next_step c.in-Next.placed c.args.layer.now l x c.args.host _ begun f d there c.in-Next.sector c.next_linking.result k c.next_linking.ensures),
)

pub returns-in-Links-clause-content : goal.returns-in-Links-clause-content
returns-in-Links-clause-content g c d tells =
    let call = c.link.ensures.content d tells in
    (call.0, call.1, subst (λ (s : Stage). LinksAt s c.args.layer.now c.args.host (g.D.SharedDisk.faults c.link.new.disk) c.link.result d call.0) (sym c.in-Links.is) call.2)
