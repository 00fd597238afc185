use Rattle.std.proofs.Common.{replicate, ap, ◌∙◌, subst}
use Rattle.qcow_format.specs.declared.header.Header.{Header}
use Rattle.layer_heading.specs.Clearing.{KnowsStage}
use Rattle.layer_heading.specs.declared.clearing_stage.ClearingStage.{ClearingStage}
use Rattle.layer_heading.proofs.Clearings.{headed_here, laid_here, read_here}
use Rattle.layer_heading.proofs.Frames.{at_same, read_elsewhere, sync_elsewhere, write_elsewhere}
use Rattle.layer_heading.proofs.clearing_stage.ClearingStage.step.Goals as goal

pub returns-else-header-eq0-clause-content : goal.returns-else-header-eq0-clause-content
returns-else-header-eq0-clause-content g c d tells =
    let call = c.lay.ensures.content d tells in
    let rest = at_same _ d call.0 (read_elsewhere d call.0 c.args.host 0 _ (replicate 512 0) call.2.1 call.2.0 call.2.3) in (
      call.0,
      call.1,
      record {
        dirs = rest.dirs;
        others = rest.others;
        here = λ f there knows.
            let q = subst (λ (s : ClearingStage). KnowsStage c.args.layer.now c.args.host s f) c.in-Begun.is knows in
            read_here c.args.layer.now c.args.layer.now c.args.host _ _ d call.0 f there (λ f' at. (g.met.D.SharedDisk.well_formed c.lay.new.disk call.0 call.1).files _ f' at) q
            (λ none. c.if-header-eq0.false (ap (λ (x : Header). x.autoclear_features) c.header.ensures ∙ none)) call.2;
      },
    )

pub returns-in-Laid-clause-content : goal.returns-in-Laid-clause-content
returns-in-Laid-clause-content g c d tells =
    let call = c.write.ensures.content d tells in
    let rest = write_elsewhere d call.0 c.args.host _ _ _ call.2.0 call.2.1 in (
      call.0,
      call.1,
      record {
        dirs = rest.dirs;
        others = rest.others;
        here = λ f there knows.
            let k = subst (λ (s : ClearingStage). KnowsStage c.args.layer.now c.args.host s f) c.in-Laid.is knows in
            laid_here c.args.layer.now c.args.layer.now c.args.host _ _ d call.0 f there (λ f' at. (g.met.D.SharedDisk.well_formed c.write.new.disk call.0 call.1).files _ f' at) c.in-Laid.sector k.0 k.1 k.2 call.2;
      },
    )

pub returns-in-Headed-clause-content : goal.returns-in-Headed-clause-content
returns-in-Headed-clause-content g c d tells =
    let call = c.sync.ensures.content d tells in
    let rest = sync_elsewhere d call.0 c.args.host _ call.2.0 call.2.1 in (
      call.0,
      call.1,
      record {
        dirs = rest.dirs;
        others = rest.others;
        here = λ f there knows.
            let k = subst (λ (s : ClearingStage). KnowsStage c.args.layer.now c.args.host s f) c.in-Headed.is knows in
            headed_here c.args.layer.now _ c.args.host _ _ d call.0 f there (λ f' at. (g.met.D.SharedDisk.well_formed c.sync.new.disk call.0 call.1).files _ f' at) k.0 k.1 k.2 k.3 c.sync.ensures.layer call.2;
      },
    )
