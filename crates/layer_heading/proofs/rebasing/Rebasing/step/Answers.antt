use Rattle.std.proofs.Common.{◌≡◌, ℕ, ◌/◌, List, replicate, Some, ap, ◌∙◌, subst}
use Rattle.shared_disk.specs.Content.{Content}
use Rattle.qcow_layer.specs.declared.layer.Layer.{Layer}
use Rattle.layer_creating.specs.New.{name_sector}
use Rattle.layer_heading.specs.declared.rebasing.Stage.{Stage}
use Rattle.layer_heading.specs.Rebased.{name_place}
use Rattle.layer_heading.specs.Rebasing.{KnowsIn, backing_of, name_at}
use Rattle.layer_heading.specs.Writing.{WritesThen}
use Rattle.layer_heading.proofs.Frames.{at_same, read_elsewhere, sync_elsewhere, write_elsewhere}
use Rattle.layer_heading.proofs.Steps.{Rebases, begun_here, headed_here, laid_here, named_here, read_here}
use Rattle.layer_heading.proofs.rebasing.Rebasing.step.Goals as goal

-- a write of the same sector at the same place
same_write : (layer : Layer) (host faults p q : ℕ) (s t : List ℕ) (next turn : Rebases) (d e : Content) → p ≡ q → s ≡ t → WritesThen layer host p s faults next turn d e → WritesThen layer host q t faults next turn d e
same_write layer host faults p q s t next turn d e at is call =
    subst (λ (x : List ℕ). WritesThen layer host q x faults next turn d e) is (subst (λ (x : ℕ). WritesThen layer host x s faults next turn d e) at call)

pub returns-in-Begun-clause-content : goal.returns-in-Begun-clause-content
returns-in-Begun-clause-content g c d tells =
    let call = c.write.ensures.content d tells in
    let rest = write_elsewhere d call.0 c.args.host _ _ _ call.2.0 call.2.1 in (
      call.0,
      call.1,
      record {
        dirs = rest.dirs;
        others = rest.others;
        here = λ f there knows.
            let k = subst (λ (s : Stage). KnowsIn s (backing_of c.args.self) c.args.layer.now c.args.host f) c.in-Begun.is knows in
            begun_here c.args.self c.args.layer.now c.args.layer.now c.args.host _ _ d call.0 f there (λ f' at. (g.met.D.SharedDisk.well_formed c.write.new.disk call.0 call.1).files _ f' at) k
            (same_write c.args.layer.now c.args.host _ _ (name_at c.args.layer.now) _ (name_sector (Some (backing_of c.args.self))) _ _ d call.0
            (ap (λ (n : ℕ). n / 512) (c.name_place-at.ensures.value ∙ ap name_place c.header.ensures)) c.name_sector-sector.ensures call.2);
      },
    )

pub returns-in-Named-clause-content : goal.returns-in-Named-clause-content
returns-in-Named-clause-content g c d tells =
    let call = c.sync_name.ensures.content d tells in
    let rest = sync_elsewhere d call.0 c.args.host _ call.2.0 call.2.1 in (
      call.0,
      call.1,
      record {
        dirs = rest.dirs;
        others = rest.others;
        here = λ f there knows.
            let k = subst (λ (s : Stage). KnowsIn s (backing_of c.args.self) c.args.layer.now c.args.host f) c.in-Named.is knows in
            named_here c.args.self c.args.layer.now c.args.layer.now c.args.host _ _ d call.0 f there (λ f' at. (g.met.D.SharedDisk.well_formed c.sync_name.new.disk call.0 call.1).files _ f' at) k.0 k.1 k.2 call.2;
      },
    )

pub returns-in-Synced-clause-content : goal.returns-in-Synced-clause-content
returns-in-Synced-clause-content g c d tells =
    let call = c.lay_header.ensures.content d tells in
    let rest = at_same _ d call.0 (read_elsewhere d call.0 c.args.host 0 _ (replicate 512 0) call.2.1 call.2.0 call.2.3) in (
      call.0,
      call.1,
      record {
        dirs = rest.dirs;
        others = rest.others;
        here = λ f there knows.
            let k = subst (λ (s : Stage). KnowsIn s (backing_of c.args.self) c.args.layer.now c.args.host f) c.in-Synced.is knows in
            read_here c.args.self c.args.layer.now c.args.layer.now c.args.host _ _ d call.0 f there (λ f' at. (g.met.D.SharedDisk.well_formed c.lay_header.new.disk call.0 call.1).files _ f' at) k call.2;
      },
    )

pub returns-in-Laid-clause-content : goal.returns-in-Laid-clause-content
returns-in-Laid-clause-content g c d tells =
    let call = c.write-in-Laid.ensures.content d tells in
    let rest = write_elsewhere d call.0 c.args.host _ _ _ call.2.0 call.2.1 in (
      call.0,
      call.1,
      record {
        dirs = rest.dirs;
        others = rest.others;
        here = λ f there knows.
            let k = subst (λ (s : Stage). KnowsIn s (backing_of c.args.self) c.args.layer.now c.args.host f) c.in-Laid.is knows in
            laid_here c.args.self c.args.layer.now c.args.layer.now c.args.host _ _ d call.0 f there (λ f' at. (g.met.D.SharedDisk.well_formed c.write-in-Laid.new.disk call.0 call.1).files _ f' at) c.in-Laid.sector k.0 k.1 call.2;
      },
    )

pub returns-in-Headed-clause-content : goal.returns-in-Headed-clause-content
returns-in-Headed-clause-content g c d tells =
    let call = c.sync_header.ensures.content d tells in
    let rest = sync_elsewhere d call.0 c.args.host _ call.2.0 call.2.1 in (
      call.0,
      call.1,
      record {
        dirs = rest.dirs;
        others = rest.others;
        here = λ f there knows.
            let k = subst (λ (s : Stage). KnowsIn s (backing_of c.args.self) c.args.layer.now c.args.host f) c.in-Headed.is knows in
            headed_here c.args.self c.args.layer.now _ c.args.host _ _ d call.0 f there (λ f' at. (g.met.D.SharedDisk.well_formed c.sync_header.new.disk call.0 call.1).files _ f' at) k.0 k.1 k.2 c.sync_header.ensures.layer call.2;
      },
    )
