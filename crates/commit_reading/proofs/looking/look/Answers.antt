use Rattle.std.proofs.Common.{List, slice_get, Some, refl, sym, ap, ◌∙◌}
use Rattle.std.proofs.lemmas.Option.{slice_get_past, slice_get_read}
use Rattle.volume_chain.specs.declared.volumes.OpenVolume.{OpenVolume}
use Rattle.chain_reading.proofs.Lent.{chain_same, looks_at, looks_nowhere, no_layer, no_raw}
use Rattle.commit_reading.proofs.looking.look.Goals as goal

pub layer_mut-requires : goal.layer_mut-requires
layer_mut-requires g c = (
  c.in-Some-Cow.field-0-0,
  ap (λ (os : List OpenVolume). slice_get os c.args.index) (sym c.volumes.ensures)
      ∙ slice_get_read c.volumes.result.now _ c.args.index c.in-Some-Cow.field-0.now refl c.in-Some-Cow.ensures.lookup.3.0 c.in-Some-Cow.ensures.lookup.1
      ∙ ap (λ (o : OpenVolume). Some o) c.in-Some-Cow.field-0-is,
)

pub returns-in-Some-Cow-clause-chain : goal.returns-in-Some-Cow-clause-chain
returns-in-Some-Cow-clause-chain g c = chain_same c.args.chain.now c.args.index c.layer_mut.result.now c.step.new.layer c.layer_mut.ensures.value c.step.ensures.layer

pub returns-in-Some-Cow-clause-content : goal.returns-in-Some-Cow-clause-content
returns-in-Some-Cow-clause-content g c d tells =
    let t = c.step.ensures.content d tells in
    (t.0, t.1, looks_at c.args.chain.now c.args.index c.args.looking c.args.host c.step.result d t.0 c.layer_mut.result.now c.layer_mut.ensures.value t.2)

pub returns-in-Some-Raw-clause-content : goal.returns-in-Some-Raw-clause-content
returns-in-Some-Raw-clause-content g c d tells = (
  d,
  tells,
  looks_nowhere c.args.chain.now c.args.index c.args.looking c.args.host _ d (no_raw c.args.chain.now c.args.index c.in-Some-Raw.field-0-0 (
      ap (λ (os : List OpenVolume). slice_get os c.args.index) (sym c.volumes.ensures)
      ∙ slice_get_read c.volumes.result.now _ c.args.index c.in-Some-Raw.field-0.now refl c.in-Some-Raw.ensures.lookup.3.0 c.in-Some-Raw.ensures.lookup.1
      ∙ ap (λ (o : OpenVolume). Some o) c.in-Some-Raw.field-0-is
      )),
)

pub returns-in-None-clause-content : goal.returns-in-None-clause-content
returns-in-None-clause-content g c d tells = (
  d,
  tells,
  looks_nowhere c.args.chain.now c.args.index c.args.looking c.args.host _ d (no_layer c.args.chain.now c.args.index (
      ap (λ (os : List OpenVolume). slice_get os c.args.index) (sym c.volumes.ensures) ∙ slice_get_past c.volumes.result.now c.args.index c.in-None.ensures.lookup.3
      )),
)
