use Rattle.std.proofs.Common.{◌<◌, sym, subst, inl}
use Rattle.volume_chain.specs.Layers.{IsLayerAt}
use Rattle.volume_chain.specs.Chain.{open_in}
use Rattle.volume_chain.specs.declared.chain.Chain.{Chain}
use Rattle.guest_writing.specs.Left.{stage_left}
use Rattle.guest_writing.specs.declared.stage.Stage.TheVariants.{Filling, Linking}
use Rattle.guest_writing.proofs.Left.{fills_on, links_nearer}
use Rattle.guest_writing.proofs.Fills.{goes_on, leaves, to_link, writes_same}
use Rattle.guest_writing.proofs.layers.fill_layer.Goals as goal

pub returns-in-More-clause-way : goal.returns-in-More-clause-way
returns-in-More-clause-way g c volume at = subst (λ (z : Chain). IsLayerAt (open_in z) c.args.index) (sym c.in-More.ensures.chain) c.requires.way

pub returns-in-More-clause-content : goal.returns-in-More-clause-content
returns-in-More-clause-content g c d tells =
    let call = c.in-More.ensures.content d tells in (
      call.0,
      call.1,
      λ volume at l x old start of k same.
          let one = call.2 k.layer l x old k.file k.write.there k.work same in
          writes_same c.args.chain.now c.step.new.chain l x old c.args.host _ start c.step.new.room _ d call.0 c.in-More.ensures.chain
          (record {
            leaves = leaves c.args.chain.now c.args.index c.args.work l x old c.args.host _ start c.args.room.now c.step.new.room d call.0 k _ one;
            after = goes_on c.args.chain.now c.args.index c.args.work l x old c.args.host _ start c.args.room.now c.step.new.room d call.0 k _ one c.in-More.next one.after;
          }),
    )

pub returns-in-Done-clause-way : goal.returns-in-Done-clause-way
returns-in-Done-clause-way g c volume at = subst (λ (z : Chain). IsLayerAt (open_in z) c.args.index) (sym c.in-Done.ensures.chain) c.requires.way

pub returns-in-Done-clause-content : goal.returns-in-Done-clause-content
returns-in-Done-clause-content g c d tells =
    let call = c.in-Done.ensures.content d tells in (
      call.0,
      call.1,
      λ volume at l x old start of k same.
          let one = call.2 k.layer l x old k.file k.write.there k.work same in
          writes_same c.args.chain.now c.step.new.chain l x old c.args.host _ start c.step.new.room _ d call.0 c.in-Done.ensures.chain
          (record {
            leaves = leaves c.args.chain.now c.args.index c.args.work l x old c.args.host _ start c.args.room.now c.step.new.room d call.0 k _ one;
            after = to_link c.args.chain.now c.args.index c.args.work l x old c.args.host _ start c.args.room.now c.step.new.room d call.0 k _ one c.in-Done.placed c.begin-linking.result c.begin-linking.ensures one.after.1;
          }),
    )

pub returns-in-Ended-clause-content : goal.returns-in-Ended-clause-content
returns-in-Ended-clause-content g c d tells =
    let call = c.in-Ended.ensures.content d tells in (
      call.0,
      call.1,
      λ volume at l x old start of k same.
          let one = call.2 k.layer l x old k.file k.write.there k.work same in
          writes_same c.args.chain.now c.step.new.chain l x old c.args.host _ start c.step.new.room _ d call.0 c.in-Ended.ensures.chain
          (record {
            leaves = leaves c.args.chain.now c.args.index c.args.work l x old c.args.host _ start c.args.room.now c.step.new.room d call.0 k _ one;
            after = inl one.after;
          }),
    )

pub returns-in-More-clause-left : goal.returns-in-More-clause-left
returns-in-More-clause-left g c volume at count =
    subst (λ (z : Chain). stage_left (Filling c.args.index c.in-More.next) volume at z count < stage_left (Filling c.args.index c.args.work) volume at c.args.chain.now count) (sym c.in-More.ensures.chain)
    (fills_on c.args.chain.now volume at count c.args.index c.args.work c.in-More.next c.in-More.ensures.placed c.in-More.ensures.falls)

pub returns-in-Done-clause-left : goal.returns-in-Done-clause-left
returns-in-Done-clause-left g c volume at count =
    subst (λ (z : Chain). stage_left (Linking c.args.index c.begin-linking.result) volume at z count < stage_left (Filling c.args.index c.args.work) volume at c.args.chain.now count) (sym c.in-Done.ensures.chain)
    (links_nearer c.args.chain.now volume at count c.args.index c.args.work c.in-Done.placed c.begin-linking.result c.requires.way c.in-Done.ensures.placed c.begin-linking.ensures c.in-Done.ensures.falls)
