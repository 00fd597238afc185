use Rattle.std.proofs.Common.{◌^◌, ℕ, List, length, Some, refl, sym, ap, ◌∙◌, subst, arith}
use Rattle.std.proofs.lemmas.Option.{slice_get_past, slice_get_read}
use Rattle.shared_disk.specs.Calls.{IsAligned}
use Rattle.qcow_format.specs.declared.header.Header.{Header}
use Rattle.volume_chain.specs.declared.volumes.OpenVolume.{OpenVolume}
use Rattle.volume_chain.specs.declared.volumes.OpenVolume.TheVariants.{Raw, Cow}
use Rattle.write_planning.specs.Span.{at_of, length_of}
use Rattle.write_planning.specs.declared.span.Span.{Span}
use Rattle.raw_layer.specs.Raw.{left_of}
use Rattle.guest_writing.proofs.Left.{found_nearer, raw_nearer}
use Rattle.guest_writing.proofs.Ready.{is_part, layer_found, none_past, raw_found, there_now}
use Rattle.guest_writing.proofs.finding.find.Goals as goal

pub new-span-requires : goal.new-span-requires
new-span-requires c =
    is_part c.args.at (length c.args.part.now) c.cluster_bytes-width.result c.in-Some-Cow.layer c.requires.piece c.requires.way.ends
    (c.cluster_bytes-width.ensures ∙ ap (λ (h : Header). 2 ^ h.cluster_bits) c.header.ensures)

pub unreachable-requires : goal.unreachable-requires
unreachable-requires c =
    none_past c.args.chain.now c.args.volume c.requires.way.opened c.path.result.now c.volumes.result.now c.place_on-index.result c.path.ensures c.volumes.ensures c.place_on-index.ensures c.requires.way.there
    (slice_get_past c.volumes.result.now c.place_on-index.result c.in-None.ensures.lookup.3)

pub returns-in-Some-Raw-clause-knows : goal.returns-in-Some-Raw-clause-knows
returns-in-Some-Raw-clause-knows c l x old host start room d of k same =
    let there =
    there_now c.args.chain.now c.args.volume c.path.result.now c.volumes.result.now c.place_on-index.result (Raw c.in-Some-Raw.field-0-0) c.path.ensures c.volumes.ensures c.place_on-index.ensures
    (slice_get_read c.volumes.result.now _ c.place_on-index.result c.in-Some-Raw.field-0.now refl c.in-Some-Raw.ensures.lookup.3.0 c.in-Some-Raw.ensures.lookup.1 ∙ ap (λ (o : OpenVolume). Some o) c.in-Some-Raw.field-0-is) in
    raw_found c.args.volume c.args.at c.args.chain.now l x old host start d of k c.begin.result c.in-Some-Raw.field-0-0 there.1 c.begin.ensures

pub returns-in-Some-Cow-clause-way : goal.returns-in-Some-Cow-clause-way
returns-in-Some-Cow-clause-way c =
    let there =
    there_now c.args.chain.now c.args.volume c.path.result.now c.volumes.result.now c.place_on-index.result (Cow c.in-Some-Cow.layer) c.path.ensures c.volumes.ensures c.place_on-index.ensures
    (slice_get_read c.volumes.result.now _ c.place_on-index.result c.in-Some-Cow.field-0.now refl c.in-Some-Cow.ensures.lookup.3.0 c.in-Some-Cow.ensures.lookup.1 ∙ ap (λ (o : OpenVolume). Some o) c.in-Some-Cow.field-0-is) in
    record {
      layer = (c.in-Some-Cow.layer, there.0);
      low = omega (arith, c.in-Some-Cow.ensures.lookup.3.0, c.volumes.type_inv.1);
      length = ap (λ (s : Span). length_of s) c.begin-in-Some-Cow.ensures.span ∙ c.new-span.ensures.length;
      at = subst IsAligned (sym (ap (λ (s : Span). at_of s) c.begin-in-Some-Cow.ensures.span ∙ c.new-span.ensures.at)) c.requires.aligned;
    }

pub returns-in-Some-Cow-clause-knows : goal.returns-in-Some-Cow-clause-knows
returns-in-Some-Cow-clause-knows c l x old host start room d of k same =
    let there =
    there_now c.args.chain.now c.args.volume c.path.result.now c.volumes.result.now c.place_on-index.result (Cow c.in-Some-Cow.layer) c.path.ensures c.volumes.ensures c.place_on-index.ensures
    (slice_get_read c.volumes.result.now _ c.place_on-index.result c.in-Some-Cow.field-0.now refl c.in-Some-Cow.ensures.lookup.3.0 c.in-Some-Cow.ensures.lookup.1 ∙ ap (λ (o : OpenVolume). Some o) c.in-Some-Cow.field-0-is) in
    layer_found c.args.volume c.args.at c.args.chain.now l x old host start d of k c.place_on-index.result there.2 c.in-Some-Cow.layer c.new-span.result c.begin-in-Some-Cow.result there.0 c.begin-in-Some-Cow.ensures c.new-span.ensures.at
    (c.new-span.ensures.length ∙ sym (ap (λ (bytes : List ℕ). length bytes) same)) (c.new-span.ensures.width ∙ c.cluster_bytes-width.ensures ∙ ap (λ (h : Header). 2 ^ h.cluster_bits) c.header.ensures)

pub returns-in-Some-Raw-clause-left : goal.returns-in-Some-Raw-clause-left
returns-in-Some-Raw-clause-left c =
    let there =
    there_now c.args.chain.now c.args.volume c.path.result.now c.volumes.result.now c.place_on-index.result (Raw c.in-Some-Raw.field-0-0) c.path.ensures c.volumes.ensures c.place_on-index.ensures
    (slice_get_read c.volumes.result.now _ c.place_on-index.result c.in-Some-Raw.field-0.now refl c.in-Some-Raw.ensures.lookup.3.0 c.in-Some-Raw.ensures.lookup.1 ∙ ap (λ (o : OpenVolume). Some o) c.in-Some-Raw.field-0-is) in
    raw_nearer c.args.chain.now c.args.volume c.args.at (length c.args.part.now) _ c.in-Some-Raw.field-0-0 there.1 (ap left_of c.begin.ensures.stage)

pub returns-in-Some-Cow-clause-left : goal.returns-in-Some-Cow-clause-left
returns-in-Some-Cow-clause-left c =
    let there =
    there_now c.args.chain.now c.args.volume c.path.result.now c.volumes.result.now c.place_on-index.result (Cow c.in-Some-Cow.layer) c.path.ensures c.volumes.ensures c.place_on-index.ensures
    (slice_get_read c.volumes.result.now _ c.place_on-index.result c.in-Some-Cow.field-0.now refl c.in-Some-Cow.ensures.lookup.3.0 c.in-Some-Cow.ensures.lookup.1 ∙ ap (λ (o : OpenVolume). Some o) c.in-Some-Cow.field-0-is) in
    found_nearer c.args.chain.now c.args.volume c.args.at (length c.args.part.now) c.place_on-index.result c.in-Some-Cow.layer c.new-span.result c.begin-in-Some-Cow.result there.2 there.0 c.begin-in-Some-Cow.ensures c.new-span.ensures.at c.new-span.ensures.length
    (c.new-span.ensures.width ∙ c.cluster_bytes-width.ensures ∙ ap (λ (h : Header). 2 ^ h.cluster_bits) c.header.ensures)
