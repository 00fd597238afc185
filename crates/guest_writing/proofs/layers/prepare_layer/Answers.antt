use Rattle.std.proofs.Common.{List, ℕ, ◌≡◌, ◌%◌, ◌<◌, length, Option, sym, ap, ◌∙◌, subst}
use Rattle.shared_disk.specs.Calls.{IsAligned}
use Rattle.write_planning.specs.Span.{at_of, length_of}
use Rattle.write_planning.specs.declared.span.Span.{Span}
use Rattle.volume_chain.specs.declared.volumes.OpenVolume.{OpenVolume}
use Rattle.write_preparing.specs.Preparing.{preparing_left}
use Rattle.guest_writing.specs.Left.{pieces_by}
use Rattle.guest_writing.proofs.Left.{fills_nearer, prepares_nearer}
use Rattle.guest_writing.proofs.Prepares.{goes_on, leaves, refuses, to_fill}
use Rattle.guest_writing.proofs.Standing.{layer_still}
use Rattle.guest_writing.proofs.layers.prepare_layer.Goals as goal

pub returns-in-More-clause-way : goal.returns-in-More-clause-way
returns-in-More-clause-way g c =
    let same = (c.in-More.ensures.falls c.requires.way.layer.0 c.requires.way.layer.1).0 in
    record {
      layer = layer_still c.args.chain.now c.prepare.new.chain c.args.index c.in-More.ensures.chain;
      low = c.requires.way.low;
      length = ap (λ (s : Span). length_of s) same ∙ c.requires.way.length;
      at = subst (λ (s : Span). IsAligned (at_of s)) (sym same) c.requires.way.at;
    }

pub returns-in-More-clause-content : goal.returns-in-More-clause-content
returns-in-More-clause-content g c d tells =
    let call = c.in-More.ensures.content d tells in (
      call.0,
      call.1,
      λ room l x old start of k same.
          let one = call.2 k.layer l x start k.file k.write k.work same in
          record {
            leaves = leaves c.args.volume c.args.at c.args.chain.now c.prepare.new.chain c.args.index c.args.work l x old c.args.host _ start d call.0 of k _ one;
            after = goes_on c.args.volume c.args.at c.args.chain.now c.prepare.new.chain c.args.index c.args.work l x old c.args.host _ start d call.0 of k _ one c.in-More.next one.turns;
          },
    )

pub returns-in-Done-clause-way : goal.returns-in-Done-clause-way
returns-in-Done-clause-way g c = layer_still c.args.chain.now c.prepare.new.chain c.args.index c.in-Done.ensures.chain

pub returns-in-Done-clause-content : goal.returns-in-Done-clause-content
returns-in-Done-clause-content g c d tells =
    let call = c.in-Done.ensures.content d tells in (
      call.0,
      call.1,
      λ room l x old start of k same.
          let one = call.2 k.layer l x start k.file k.write k.work same in
          record {
            leaves = leaves c.args.volume c.args.at c.args.chain.now c.prepare.new.chain c.args.index c.args.work l x old c.args.host _ start d call.0 of k _ one;
            after = to_fill c.args.volume c.args.at c.args.chain.now c.prepare.new.chain c.args.index c.args.work l x old c.args.host _ start d call.0 of k _ one c.in-Done.placed c.begin-fillings.result room c.begin-fillings.ensures one.turns
                (subst (λ (bytes : List ℕ). length bytes % 512 ≡ 0) (sym same) c.requires.piece.0);
          },
    )

pub returns-in-Ended-clause-content : goal.returns-in-Ended-clause-content
returns-in-Ended-clause-content g c d tells =
    let call = c.in-Ended.ensures.content d tells in (
      call.0,
      call.1,
      λ room l x old start of k same.
          let one = call.2 k.layer l x start k.file k.write k.work same in
          record {
            leaves = leaves c.args.volume c.args.at c.args.chain.now c.prepare.new.chain c.args.index c.args.work l x old c.args.host _ start d call.0 of k _ one;
            after = refuses c.args.volume c.args.at c.args.chain.now c.prepare.new.chain c.args.index c.args.work l x old c.args.host _ start d call.0 of k _ one c.in-Ended.refusal one.turns;
          },
    )

pub returns-in-More-clause-left : goal.returns-in-More-clause-left
returns-in-More-clause-left g c =
    let at = c.in-More.ensures.chain in
    prepares_nearer c.args.chain.now c.prepare.new.chain c.args.volume c.args.at (length c.args.part.now) c.args.index c.args.work c.in-More.next at c.in-More.ensures.plans
    (subst (λ (o : Option OpenVolume). preparing_left (pieces_by o) c.in-More.next < preparing_left (pieces_by o) c.args.work) (sym at.was) (c.in-More.ensures.falls at.before at.was).1)

pub returns-in-Done-clause-left : goal.returns-in-Done-clause-left
returns-in-Done-clause-left g c =
    let at = c.in-Done.ensures.chain in
    fills_nearer c.args.chain.now c.prepare.new.chain c.args.volume c.args.at (length c.args.part.now) c.args.index c.args.at c.args.work c.in-Done.placed c.begin-fillings.result at c.in-Done.ensures.plans c.begin-fillings.ensures
    (subst (λ (o : Option OpenVolume). 0 < preparing_left (pieces_by o) c.args.work) (sym at.was) (c.in-Done.ensures.falls at.before at.was))
