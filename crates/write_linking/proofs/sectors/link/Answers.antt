use Rattle.std.proofs.Common.{subst}
use Rattle.sd_names.specs.declared.turn.Turn.TheVariants.{More, Done, Ended}
use Rattle.shared_disk.specs.Content.{Content}
use Rattle.layer_linking.specs.Calls.{CallOf, stage_of}
use Rattle.write_linking.proofs.Steps.{done_links, ended_links, more_links, told_once}
use Rattle.write_linking.proofs.sectors.link.Goals as goal

pub returns-in-More-clause-content : goal.returns-in-More-clause-content
returns-in-More-clause-content g c d tells =
    let call = c.in-More.ensures.content d tells in
    let made = c.in-More.ensures.call d tells in
    (call.0, call.1, λ l x begun f there k. more_links c.args.placed c.args.layer.now l x c.args.host _ begun f d there c.args.next c.args.work c.in-More.linking call.0 (g.met.D.SharedDisk.well_formed c.args.disk.now d tells) (g.met.D.SharedDisk.well_formed c.step.new.disk call.0 call.1) c.in-More.ensures.keeps.0 call.2 (subst (λ (z : Content). CallOf (stage_of c.args.work) c.args.work c.args.layer.now c.args.host (g.D.SharedDisk.faults c.step.new.disk) (More c.in-More.linking) d z) (told_once (g.D.SharedDisk.content c.step.new.disk) call.0 made.0 call.1 made.1) made.2) k)

pub returns-in-Done-clause-content : goal.returns-in-Done-clause-content
returns-in-Done-clause-content g c d tells =
    let call = c.in-Done.ensures.content d tells in
    let made = c.in-Done.ensures.call d tells in
    (call.0, call.1, λ l x begun f there k. done_links c.args.placed c.args.layer.now l x c.args.host _ begun f d there c.args.next c.args.work call.0 (g.met.D.SharedDisk.well_formed c.args.disk.now d tells) (g.met.D.SharedDisk.well_formed c.step.new.disk call.0 call.1) call.2 (subst (λ (z : Content). CallOf (stage_of c.args.work) c.args.work c.args.layer.now c.args.host (g.D.SharedDisk.faults c.step.new.disk) (Done tt) d z) (told_once (g.D.SharedDisk.content c.step.new.disk) call.0 made.0 call.1 made.1) made.2) k)

pub returns-in-Ended-clause-content : goal.returns-in-Ended-clause-content
returns-in-Ended-clause-content g c d tells =
    let call = c.in-Ended.ensures.content d tells in
    let made = c.in-Ended.ensures.call d tells in
    (call.0, call.1, λ l x begun f there k. ended_links c.args.placed c.args.layer.now l x c.args.host _ begun f d there c.args.next _ c.args.work c.in-Ended.refusal call.0 (g.met.D.SharedDisk.well_formed c.args.disk.now d tells) (g.met.D.SharedDisk.well_formed c.step.new.disk call.0 call.1) c.in-Ended.ensures.counts.cause call.2 (subst (λ (z : Content). CallOf (stage_of c.args.work) c.args.work c.args.layer.now c.args.host (g.D.SharedDisk.faults c.step.new.disk) (Ended tt c.in-Ended.refusal) d z) (told_once (g.D.SharedDisk.content c.step.new.disk) call.0 made.0 call.1 made.1) made.2) k)
