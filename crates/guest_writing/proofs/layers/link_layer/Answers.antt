use Rattle.std.proofs.Common.{◌<◌, sym, subst, inl}
use Rattle.volume_chain.specs.Layers.{IsLayerAt}
use Rattle.volume_chain.specs.Chain.{open_in}
use Rattle.volume_chain.specs.declared.chain.Chain.{Chain}
use Rattle.guest_writing.specs.Left.{stage_left}
use Rattle.guest_writing.specs.declared.stage.Stage.TheVariants.{Linking}
use Rattle.guest_writing.proofs.Left.{links_left, links_on}
use Rattle.guest_writing.proofs.Fills.{writes_same}
use Rattle.guest_writing.proofs.Links.{goes_on, is_done, leaves}
use Rattle.guest_writing.proofs.layers.link_layer.Goals as goal

pub returns-in-More-clause-way : goal.returns-in-More-clause-way
returns-in-More-clause-way g c volume at count = subst (λ (z : Chain). IsLayerAt (open_in z) c.args.index) (sym c.in-More.ensures.chain) c.requires.way

pub returns-in-More-clause-content : goal.returns-in-More-clause-content
returns-in-More-clause-content g c d tells =
    let call = c.in-More.ensures.content d tells in (
      call.0,
      call.1,
      λ volume at part room l x old start of k same.
          let one = call.2 k.layer l x start k.begun k.file k.write k.work in
          writes_same c.args.chain.now c.link.new.chain l x old c.args.host _ start room _ d call.0 c.in-More.ensures.chain
          (record {
            leaves = leaves c.args.chain.now c.args.index c.args.work l x c.args.host _ start d call.0 k _ one;
            after = goes_on c.args.chain.now c.args.index c.args.work l x c.args.host _ start d call.0 k _ one c.in-More.next one.turns;
          }),
    )

pub returns-in-Done-clause-content : goal.returns-in-Done-clause-content
returns-in-Done-clause-content g c d tells =
    let call = c.in-Done.ensures.content d tells in (
      call.0,
      call.1,
      λ volume at part room l x old start of k same.
          let one = call.2 k.layer l x start k.begun k.file k.write k.work in
          writes_same c.args.chain.now c.link.new.chain l x old c.args.host _ start room _ d call.0 c.in-Done.ensures.chain
          (record {
            leaves = leaves c.args.chain.now c.args.index c.args.work l x c.args.host _ start d call.0 k _ one;
            after = is_done c.args.chain.now c.args.index c.args.work l x c.args.host _ start d call.0 k _ one (g.met.D.SharedDisk.well_formed c.link.new.disk call.0 call.1) one.turns;
          }),
    )

pub returns-in-Ended-clause-content : goal.returns-in-Ended-clause-content
returns-in-Ended-clause-content g c d tells =
    let call = c.in-Ended.ensures.content d tells in (
      call.0,
      call.1,
      λ volume at part room l x old start of k same.
          let one = call.2 k.layer l x start k.begun k.file k.write k.work in
          writes_same c.args.chain.now c.link.new.chain l x old c.args.host _ start room _ d call.0 c.in-Ended.ensures.chain
          (record { leaves = leaves c.args.chain.now c.args.index c.args.work l x c.args.host _ start d call.0 k _ one; after = inl one.turns }),
    )

pub returns-in-More-clause-left : goal.returns-in-More-clause-left
returns-in-More-clause-left g c volume at count =
    subst (λ (z : Chain). stage_left (Linking c.args.index c.in-More.next) volume at z count < stage_left (Linking c.args.index c.args.work) volume at c.args.chain.now count) (sym c.in-More.ensures.chain)
    (links_on c.args.chain.now volume at count c.args.index c.args.work c.in-More.next c.requires.way (λ w is. (c.in-More.ensures.falls w is).1))

pub returns-in-Done-clause-left : goal.returns-in-Done-clause-left
returns-in-Done-clause-left g c volume at count = links_left c.args.chain.now volume at count c.args.index c.args.work c.requires.way c.in-Done.ensures.falls

pub returns-in-Ended-clause-left : goal.returns-in-Ended-clause-left
returns-in-Ended-clause-left g c volume at count = links_left c.args.chain.now volume at count c.args.index c.args.work c.requires.way c.in-Ended.ensures.falls
