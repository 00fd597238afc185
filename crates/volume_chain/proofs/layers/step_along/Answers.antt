use Rattle.std.proofs.Common.{◌≡◌, Option, Some, refl, sym, ap, ◌∙◌}
use Rattle.volume_chain.specs.declared.chain.Kind.{Kind}
use Rattle.volume_chain.proofs.Moves.{begin_falls, raw_falls, raw_shape}
use Rattle.volume_chain.proofs.Opens.{begin_steps, end_steps, raw_steps}
use Rattle.volume_chain.proofs.Shapes.{all_open}
use Rattle.volume_chain.proofs.layers.step_along.Goals as goal

-- the next volume, as it was found
next_is : {k q : Option Kind} {field kind : Kind} → k ≡ q → k ≡ Some field → field ≡ kind → q ≡ Some kind
next_is found is of = sym found ∙ is ∙ ap Some of

pub returns-in-None-clause-shape : goal.returns-in-None-clause-shape
returns-in-None-clause-shape g c = (refl, λ shaped. (shaped, all_open c.args.chain shaped (sym c.next_kind.ensures ∙ c.in-None.is)))

pub returns-in-None-clause-content : goal.returns-in-None-clause-content
returns-in-None-clause-content g c d tells = (d, tells, end_steps c.args.chain c.args.host d (sym c.next_kind.ensures ∙ c.in-None.is))

pub returns-in-Some-Raw-clause-shape : goal.returns-in-Some-Raw-clause-shape
returns-in-Some-Raw-clause-shape g c = raw_shape c.args.chain c.in-Some-Raw.id c.ask_length.result (next_is c.next_kind.ensures c.in-Some-Raw.is c.in-Some-Raw.field-0-is) c.ask_length.ensures.asked

pub returns-in-Some-Raw-clause-falls : goal.returns-in-Some-Raw-clause-falls
returns-in-Some-Raw-clause-falls g c = raw_falls c.args.chain c.in-Some-Raw.id c.ask_length.result (next_is c.next_kind.ensures c.in-Some-Raw.is c.in-Some-Raw.field-0-is) c.ask_length.ensures.asked

pub returns-in-Some-Raw-clause-content : goal.returns-in-Some-Raw-clause-content
returns-in-Some-Raw-clause-content g c d tells =
    let call = c.ask_length.ensures.content d tells in
    let next = next_is c.next_kind.ensures c.in-Some-Raw.is c.in-Some-Raw.field-0-is in
    (call.0, call.1, raw_steps c.args.chain c.in-Some-Raw.id c.args.host _ c.ask_length.result d call.0 next call.2)

pub returns-in-Some-Cow-clause-falls : goal.returns-in-Some-Cow-clause-falls
returns-in-Some-Cow-clause-falls g c =
    begin_falls c.args.chain c.in-Some-Cow.id c.in-Some-Cow.capacity c.begin_layer.result (next_is c.next_kind.ensures c.in-Some-Cow.is c.in-Some-Cow.field-0-is) c.begin_layer.ensures.begins

pub returns-in-Some-Cow-clause-content : goal.returns-in-Some-Cow-clause-content
returns-in-Some-Cow-clause-content g c d tells =
    let next = next_is c.next_kind.ensures c.in-Some-Cow.is c.in-Some-Cow.field-0-is in
    (d, tells, begin_steps c.args.chain c.in-Some-Cow.id c.in-Some-Cow.capacity c.args.host c.begin_layer.result d next c.begin_layer.ensures.begins)
