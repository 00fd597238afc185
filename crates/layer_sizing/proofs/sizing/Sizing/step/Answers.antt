use Rattle.std.proofs.Common.{refl, replicate, sym, subst}
use Rattle.qcow_layer.specs.Opening.{capacity_kept, header_kept}
use Rattle.layer_heading.specs.Writing.{LeavesFile}
use Rattle.layer_heading.proofs.Frames.{at_same, read_elsewhere, sync_elsewhere, write_elsewhere}
use Rattle.layer_sizing.specs.Sized.{IsOldOrSized}
use Rattle.layer_sizing.specs.Sizing.{CallIn, CallOf, KnowsIn, KnowsSizing}
use Rattle.layer_sizing.specs.Stages.{asked_of, larger_of}
use Rattle.layer_sizing.specs.declared.raising.Stage.{Stage}
use Rattle.layer_sizing.specs.declared.sizing.Sizing.{Sizing}
use Rattle.layer_sizing.proofs.Begins.{begun_here}
use Rattle.layer_sizing.proofs.Steps.{headed_here, laid_here, ready_here}
use Rattle.layer_sizing.proofs.Zeros.{edge_here, look_here, zeroes_elsewhere, zeroes_here}
use Rattle.layer_sizing.proofs.sizing.Sizing.step.Goals as goal

pub returns-in-Seeking-clause-content : goal.returns-in-Seeking-clause-content
returns-in-Seeking-clause-content g c d tells =
    let call = c.look.ensures.content d tells in
    let rest = at_same _ d call.0 call.2.1.same in (
      call.0,
      call.1,
      subst
          (λ (s : Sizing). LeavesFile (IsOldOrSized (header_kept c.args.layer.now) (capacity_kept c.args.layer.now) (larger_of s)) (KnowsSizing c.args.layer.now c.args.host) s c.args.layer.now c.look.new.layer c.args.host (g.D.SharedDisk.faults c.look.new.disk) c.look.result d call.0)
          (sym c.in-Going.is)
          (record {
            dirs = rest.dirs;
            others = rest.others;
            here = λ f there knows.
                let k = subst (λ (s : Stage). KnowsIn s (asked_of c.in-Going.raising) c.args.layer.now c.args.host f) c.in-Seeking.is knows in
                look_here c.in-Going.raising c.args.layer.now c.look.new.layer c.args.host _ _ _ d call.0 f there (λ f' at. (g.met.D.SharedDisk.well_formed c.look.new.disk call.0 call.1).files _ f' at) c.in-Seeking.looking k c.look.ensures.counts.cause call.2;
          }),
    )

pub returns-in-Zeroing-clause-content : goal.returns-in-Zeroing-clause-content
returns-in-Zeroing-clause-content g c d tells =
    let call = c.zero.ensures.content d tells in
    let rest = zeroes_elsewhere c.in-Going.raising c.in-Zeroing.range c.args.layer.now c.args.host _ _ d call.0 call.2 in (
      call.0,
      call.1,
      subst
          (λ (s : Sizing). LeavesFile (IsOldOrSized (header_kept c.args.layer.now) (capacity_kept c.args.layer.now) (larger_of s)) (KnowsSizing c.args.layer.now c.args.host) s c.args.layer.now c.args.layer.now c.args.host (g.D.SharedDisk.faults c.zero.new.disk) c.zero.result d call.0)
          (sym c.in-Going.is)
          (record {
            dirs = rest.dirs;
            others = rest.others;
            here = λ f there knows.
                let k = subst (λ (s : Stage). KnowsIn s (asked_of c.in-Going.raising) c.args.layer.now c.args.host f) c.in-Zeroing.is knows in
                zeroes_here c.in-Going.raising c.args.layer.now c.args.layer.now c.args.host 0 _ _ d call.0 f there (λ f' at. (g.met.D.SharedDisk.well_formed c.zero.new.disk call.0 call.1).files _ f' at) c.in-Zeroing.range k call.2;
          }),
    )

pub returns-in-Edge-clause-content : goal.returns-in-Edge-clause-content
returns-in-Edge-clause-content g c d tells =
    let call = c.write_edge.ensures.content d tells in
    let rest = write_elsewhere d call.0 c.args.host _ _ _ call.2.0 call.2.1 in (
      call.0,
      call.1,
      subst
          (λ (s : Sizing). LeavesFile (IsOldOrSized (header_kept c.args.layer.now) (capacity_kept c.args.layer.now) (larger_of s)) (KnowsSizing c.args.layer.now c.args.host) s c.args.layer.now c.args.layer.now c.args.host (g.D.SharedDisk.faults c.write_edge.new.disk) c.write_edge.result d call.0)
          (sym c.in-Going.is)
          (record {
            dirs = rest.dirs;
            others = rest.others;
            here = λ f there knows.
                let k = subst (λ (s : Stage). KnowsIn s (asked_of c.in-Going.raising) c.args.layer.now c.args.host f) c.in-Edge.is knows in
                edge_here c.in-Going.raising c.args.layer.now c.args.layer.now c.args.host 0 _ _ d call.0 f there (λ f' at. (g.met.D.SharedDisk.well_formed c.write_edge.new.disk call.0 call.1).files _ f' at) c.in-Edge.range k.0 c.in-Edge.sector k.1 k.2 k.3 call.2;
          }),
    )

pub returns-in-Ready-clause-content : goal.returns-in-Ready-clause-content
returns-in-Ready-clause-content g c d tells =
    let call = c.lay_header.ensures.content d tells in
    let rest = at_same _ d call.0 (read_elsewhere d call.0 c.args.host 0 _ (replicate 512 0) call.2.1 call.2.0 call.2.3) in (
      call.0,
      call.1,
      subst
          (λ (s : Sizing). LeavesFile (IsOldOrSized (header_kept c.args.layer.now) (capacity_kept c.args.layer.now) (larger_of s)) (KnowsSizing c.args.layer.now c.args.host) s c.args.layer.now c.args.layer.now c.args.host (g.D.SharedDisk.faults c.lay_header.new.disk) c.lay_header.result d call.0)
          (sym c.in-Going.is)
          (record {
            dirs = rest.dirs;
            others = rest.others;
            here = λ f there knows.
                let k = subst (λ (s : Stage). KnowsIn s (asked_of c.in-Going.raising) c.args.layer.now c.args.host f) c.in-Ready.is knows in
                ready_here c.in-Going.raising c.args.layer.now c.args.layer.now c.args.host _ _ d call.0 f there (λ f' at. (g.met.D.SharedDisk.well_formed c.lay_header.new.disk call.0 call.1).files _ f' at) k call.2;
          }),
    )

pub returns-in-Laid-clause-content : goal.returns-in-Laid-clause-content
returns-in-Laid-clause-content g c d tells =
    let call = c.write_header.ensures.content d tells in
    let rest = write_elsewhere d call.0 c.args.host _ _ _ call.2.0 call.2.1 in (
      call.0,
      call.1,
      subst
          (λ (s : Sizing). LeavesFile (IsOldOrSized (header_kept c.args.layer.now) (capacity_kept c.args.layer.now) (larger_of s)) (KnowsSizing c.args.layer.now c.args.host) s c.args.layer.now c.args.layer.now c.args.host (g.D.SharedDisk.faults c.write_header.new.disk) c.write_header.result d call.0)
          (sym c.in-Going.is)
          (record {
            dirs = rest.dirs;
            others = rest.others;
            here = λ f there knows.
                let k = subst (λ (s : Stage). KnowsIn s (asked_of c.in-Going.raising) c.args.layer.now c.args.host f) c.in-Laid.is knows in
                laid_here c.in-Going.raising c.args.layer.now c.args.layer.now c.args.host _ _ d call.0 f there (λ f' at. (g.met.D.SharedDisk.well_formed c.write_header.new.disk call.0 call.1).files _ f' at) c.in-Laid.sector k.0 k.1 call.2;
          }),
    )

pub returns-in-Headed-clause-content : goal.returns-in-Headed-clause-content
returns-in-Headed-clause-content g c d tells =
    let call = c.sync_header.ensures.content d tells in
    let rest = sync_elsewhere d call.0 c.args.host _ call.2.0 call.2.1 in (
      call.0,
      call.1,
      subst
          (λ (s : Sizing). LeavesFile (IsOldOrSized (header_kept c.args.layer.now) (capacity_kept c.args.layer.now) (larger_of s)) (KnowsSizing c.args.layer.now c.args.host) s c.args.layer.now c.sync_header.new.layer c.args.host (g.D.SharedDisk.faults c.sync_header.new.disk) c.sync_header.result d call.0)
          (sym c.in-Going.is)
          (record {
            dirs = rest.dirs;
            others = rest.others;
            here = λ f there knows.
                let k = subst (λ (s : Stage). KnowsIn s (asked_of c.in-Going.raising) c.args.layer.now c.args.host f) c.in-Headed.is knows in
                headed_here c.in-Going.raising c.args.layer.now c.sync_header.new.layer c.args.host _ _ d call.0 f there (λ f' at. (g.met.D.SharedDisk.well_formed c.sync_header.new.disk call.0 call.1).files _ f' at) k.0 k.1 k.2 c.sync_header.ensures.layer call.2;
          }),
    )

pub returns-in-Begun-clause-content : goal.returns-in-Begun-clause-content
returns-in-Begun-clause-content g c d tells = (
  d,
  tells,
  subst
      (λ (s : Sizing). LeavesFile (IsOldOrSized (header_kept c.args.layer.now) (capacity_kept c.args.layer.now) (larger_of s)) (KnowsSizing c.args.layer.now c.args.host) s c.args.layer.now c.args.layer.now c.args.host (g.D.SharedDisk.faults c.args.disk.now) c.check.result d d)
      (sym c.in-Begun.is)
      (record {
        dirs = λ q. refl;
        others = λ q _. refl;
        here = λ f there knows. (
          f,
          there,
          begun_here c.args.layer.now c.in-Begun.capacity c.args.host (g.D.SharedDisk.faults c.args.disk.now) c.check.result f c.check.ensures.bounded knows,
        );
      }),
)

pub returns-in-Seeking-clause-call : goal.returns-in-Seeking-clause-call
returns-in-Seeking-clause-call g c d tells =
    let call = c.look.ensures.content d tells in (
      call.0,
      call.1,
      subst (λ (s : Sizing). CallOf s c.args.layer.now c.args.host (g.D.SharedDisk.faults c.look.new.disk) c.look.result d call.0) (sym c.in-Going.is)
          (subst (λ (s : Stage). CallIn s c.in-Going.raising c.args.layer.now c.args.host (g.D.SharedDisk.faults c.look.new.disk) c.look.result d call.0) (sym c.in-Seeking.is) call.2),
    )

pub returns-in-Zeroing-clause-call : goal.returns-in-Zeroing-clause-call
returns-in-Zeroing-clause-call g c d tells =
    let call = c.zero.ensures.content d tells in (
      call.0,
      call.1,
      subst (λ (s : Sizing). CallOf s c.args.layer.now c.args.host (g.D.SharedDisk.faults c.zero.new.disk) c.zero.result d call.0) (sym c.in-Going.is)
          (subst (λ (s : Stage). CallIn s c.in-Going.raising c.args.layer.now c.args.host (g.D.SharedDisk.faults c.zero.new.disk) c.zero.result d call.0) (sym c.in-Zeroing.is) call.2),
    )

pub returns-in-Edge-clause-call : goal.returns-in-Edge-clause-call
returns-in-Edge-clause-call g c d tells =
    let call = c.write_edge.ensures.content d tells in (
      call.0,
      call.1,
      subst (λ (s : Sizing). CallOf s c.args.layer.now c.args.host (g.D.SharedDisk.faults c.write_edge.new.disk) c.write_edge.result d call.0) (sym c.in-Going.is)
          (subst (λ (s : Stage). CallIn s c.in-Going.raising c.args.layer.now c.args.host (g.D.SharedDisk.faults c.write_edge.new.disk) c.write_edge.result d call.0) (sym c.in-Edge.is) call.2),
    )

pub returns-in-Ready-clause-call : goal.returns-in-Ready-clause-call
returns-in-Ready-clause-call g c d tells =
    let call = c.lay_header.ensures.content d tells in (
      call.0,
      call.1,
      subst (λ (s : Sizing). CallOf s c.args.layer.now c.args.host (g.D.SharedDisk.faults c.lay_header.new.disk) c.lay_header.result d call.0) (sym c.in-Going.is)
          (subst (λ (s : Stage). CallIn s c.in-Going.raising c.args.layer.now c.args.host (g.D.SharedDisk.faults c.lay_header.new.disk) c.lay_header.result d call.0) (sym c.in-Ready.is) call.2),
    )

pub returns-in-Laid-clause-call : goal.returns-in-Laid-clause-call
returns-in-Laid-clause-call g c d tells =
    let call = c.write_header.ensures.content d tells in (
      call.0,
      call.1,
      subst (λ (s : Sizing). CallOf s c.args.layer.now c.args.host (g.D.SharedDisk.faults c.write_header.new.disk) c.write_header.result d call.0) (sym c.in-Going.is)
          (subst (λ (s : Stage). CallIn s c.in-Going.raising c.args.layer.now c.args.host (g.D.SharedDisk.faults c.write_header.new.disk) c.write_header.result d call.0) (sym c.in-Laid.is) call.2),
    )

pub returns-in-Headed-clause-call : goal.returns-in-Headed-clause-call
returns-in-Headed-clause-call g c d tells =
    let call = c.sync_header.ensures.content d tells in (
      call.0,
      call.1,
      subst (λ (s : Sizing). CallOf s c.args.layer.now c.args.host (g.D.SharedDisk.faults c.sync_header.new.disk) c.sync_header.result d call.0) (sym c.in-Going.is)
          (subst (λ (s : Stage). CallIn s c.in-Going.raising c.args.layer.now c.args.host (g.D.SharedDisk.faults c.sync_header.new.disk) c.sync_header.result d call.0) (sym c.in-Headed.is) call.2),
    )
