use Rattle.std.proofs.Common.{◌≡◌, List, None, Some, refl, sym, ap, ◌∙◌, subst}
use Rattle.std.specs.Prelude.{slice_get}
use Rattle.std.proofs.lemmas.Option.{slice_get_read, slice_get_within}
use Rattle.chain_records.specs.Records.{records_in}
use Rattle.qcow_layer.specs.declared.layer.Layer.{Layer}
use Rattle.volume_chain.specs.Chain.{open_in, records_kept}
use Rattle.volume_chain.specs.declared.volumes.OpenVolume.{OpenVolume}
use Rattle.volume_chain.specs.declared.volumes.OpenVolume.TheVariants.{Cow}
use Rattle.chain_settling.specs.Work.{IsBackingFor}
use Rattle.chain_settling.proofs.headers.header_work.Goals as goal

pub returns-in-Some-backing_for : goal.returns-in-Some-backing_for
returns-in-Some-backing_for c =
    let at : slice_get (open_in c.args.chain.now) c.args.at ≡ Some (Cow c.in-Cow.layer) =
    ap (λ (xs : List OpenVolume). slice_get xs c.args.at) (sym c.volumes.ensures) ∙ slice_get_read c.volumes.result.now _ c.args.at c.in-Some.volume.now refl c.in-Some.ensures.lookup.3.0 c.in-Some.ensures.lookup.1 ∙ ap (λ (o : OpenVolume). Some o) c.in-Cow.is in
    record {
      work = (
        slice_get_within (open_in c.args.chain.now) c.args.at (Cow c.in-Cow.layer) at,
        c.in-Cow.layer,
        at,
        subst (λ xs. IsBackingFor (records_in xs) c.in-Cow.layer (Some c.in-Some-backing_for.backing)) c.records.ensures c.in-Some-backing_for.ensures,
      );
    }

pub returns-in-None : goal.returns-in-None
returns-in-None c =
    let at : slice_get (open_in c.args.chain.now) c.args.at ≡ Some (Cow c.in-Cow.layer) =
    ap (λ (xs : List OpenVolume). slice_get xs c.args.at) (sym c.volumes.ensures) ∙ slice_get_read c.volumes.result.now _ c.args.at c.in-Some.volume.now refl c.in-Some.ensures.lookup.3.0 c.in-Some.ensures.lookup.1 ∙ ap (λ (o : OpenVolume). Some o) c.in-Cow.is in
    record {
      work = (
        slice_get_within (open_in c.args.chain.now) c.args.at (Cow c.in-Cow.layer) at,
        λ l at_l.
            let same : c.in-Cow.layer ≡ l = let h : Some (Cow c.in-Cow.layer) ≡ Some (Cow l) = sym at ∙ at_l in cc in
            subst (λ (z : Layer). IsBackingFor (records_in (records_kept c.args.chain.now)) z None) same (subst (λ xs. IsBackingFor (records_in xs) c.in-Cow.layer None) c.records.ensures c.in-None.ensures),
      );
    }
