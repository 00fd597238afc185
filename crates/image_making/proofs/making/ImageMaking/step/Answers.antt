use Rattle.std.proofs.Common.{sym, subst}
use Rattle.image_making.proofs.FileSteps.{fill_step, layer_step, make_step, sync_step}
use Rattle.image_making.proofs.TextSteps.{write_step}
use Rattle.image_making.proofs.Turns.{ready_in}
use Rattle.image_making.specs.Steps.{CallOf}
use Rattle.image_making.specs.declared.making.Stage.{Stage}
use Rattle.image_making.specs.declared.making.Stage.TheVariants.{Begun, Filling, Syncing, Layering, Writing}
use Rattle.image_making.proofs.making.ImageMaking.step.Goals as goal

pub returns-in-Begun-clause-content : goal.returns-in-Begun-clause-content
returns-in-Begun-clause-content g c d tells =
    let call = c.make_folder.ensures.content d tells in (
      call.0,
      call.1,
      λ knows. make_step c.args.self c.args.host _ c.make_folder.result d call.0 (g.met.D.SharedDisk.well_formed c.args.disk.now d tells)
          (ready_in Begun c.args.self c.args.host d c.in-Begun.is knows) call.2.0 call.2.1 call.2.2,
    )

pub returns-in-Filling-clause-content : goal.returns-in-Filling-clause-content
returns-in-Filling-clause-content g c d tells =
    let call = c.fill.ensures.content d tells in
    (call.0, call.1, λ knows. fill_step c.args.self c.args.host _ c.fill.result d call.0 (ready_in Filling c.args.self c.args.host d c.in-Filling.is knows) call.2.0 call.2.1 call.2.2)

pub returns-in-Syncing-clause-content : goal.returns-in-Syncing-clause-content
returns-in-Syncing-clause-content g c d tells =
    let call = c.sync.ensures.content d tells in
    (call.0, call.1, λ knows. sync_step c.args.self c.args.host _ c.sync.result d call.0 (ready_in Syncing c.args.self c.args.host d c.in-Syncing.is knows) call.2.0 call.2.1 call.2.2)

pub returns-in-Layering-clause-call : goal.returns-in-Layering-clause-call
returns-in-Layering-clause-call g c d tells =
    let call = c.layer.ensures.content d tells in
    (call.0, call.1, subst (λ (s : Stage). CallOf s c.args.self c.args.host (g.D.SharedDisk.faults c.layer.new.disk) c.layer.result d call.0) (sym c.in-Layering.is) call.2)

pub returns-in-Layering-clause-content : goal.returns-in-Layering-clause-content
returns-in-Layering-clause-content g c d tells =
    let call = c.layer.ensures.steps d tells in (
      call.0,
      call.1,
      λ knows. let known = ready_in (Layering c.in-Layering.creating) c.args.self c.args.host d c.in-Layering.is knows in
          layer_step c.in-Layering.creating c.args.self c.args.host _ c.layer.result d call.0 known (call.2 known.knows),
    )

pub returns-in-Writing-clause-call : goal.returns-in-Writing-clause-call
returns-in-Writing-clause-call g c d tells =
    let call = c.write.ensures.content d tells in
    (call.0, call.1, subst (λ (s : Stage). CallOf s c.args.self c.args.host (g.D.SharedDisk.faults c.write.new.disk) c.write.result d call.0) (sym c.in-Writing.is) call.2)

pub returns-in-Writing-clause-content : goal.returns-in-Writing-clause-content
returns-in-Writing-clause-content g c d tells =
    let call = c.write.ensures.steps d tells in (
      call.0,
      call.1,
      λ knows. let known = ready_in (Writing c.in-Writing.replace) c.args.self c.args.host d c.in-Writing.is knows in
          write_step c.in-Writing.replace c.args.self c.args.host _ c.write.result d call.0 known (call.2 known.replace),
    )
