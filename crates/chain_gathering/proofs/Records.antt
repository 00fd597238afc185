-- The records that were gathered are those of the image's texts.
use Rattle.std.proofs.Common.{◌≡◌, ◌⊎◌, Bool, true, false, if◌then◌else◌, List, [], ◌∷◌, Option, Some, None, Result, Ok, refl, sym, ap, ◌∙◌, subst, inl, inr, arith}
use Rattle.std.specs.Prelude.{length, option_and_then}
use Rattle.std.specs.List.{Contains}
use Rattle.std.specs.Option.{is_some}
use Rattle.std.proofs.lemmas.Bool.{false≢true}
use Rattle.sd_names.specs.declared.fault.VolumeFault.{VolumeFault}
use Rattle.sd_names.specs.declared.id.Id.{Id}
use Rattle.shared_disk.specs.Content.{Content, File}
use Rattle.shared_disk.specs.Places.{id_is}
use Rattle.shared_disk.proofs.Outcomes.{contains_here, contains_more, nothing_in, cons_cases}
use Rattle.shared_disk.proofs.Places.{id_is-itself, id_is-same}
use Rattle.volume_meta.specs.declared.record.VolumeRecord.{VolumeRecord}
use Rattle.chain_model.specs.Folder.{Volumes}
use Rattle.chain_model.specs.Opening.{AreVolumes}
use Rattle.chain_model.specs.Records.{Image, is_volume, record_in, records_of, text_of}
use Rattle.chain_records.specs.Records.{ids_of, records_in}
use Rattle.chain_records.specs.Shown.{AreRead}
use Rattle.chain_records.specs.declared.volume.Volume.{Volume}
use Rattle.chain_records.proofs.Lists.{record_among}
use Rattle.chain_gathering.specs.Knowing.{IsGathered, volumes_in}
use Rattle.chain_gathering.specs.Stages.{dir_in, image_in}
use Rattle.chain_gathering.specs.declared.gathered.Gathered.{Gathered}
use Rattle.chain_gathering.specs.declared.stages.Target.{Target}
use Rattle.chain_gathering.proofs.Lists.{length_ids, length_records}

abbrev ReadAs : Image → Volumes → List Volume → Type 0
ReadAs i x xs = (r : Volume) → Contains xs r → text_of i x r.id ≡ Some (Ok r.meta)

record_is : (i : Image) (x : Volumes) (xs : List Volume) (v : Id) → ReadAs i x xs → Contains (ids_of xs) v → records_of i x v ≡ records_in xs v
record_is i x [] v texts h = absurd (nothing_in v h)
record_is i x (y ∷ ys) v texts h = go (id_is y.id v) refl (cons_cases y.id v (ids_of ys) h) (λ c. record_is i x ys v (λ r g. texts r (contains_more y r ys g)) c)
  where
    go : (t : Bool) → id_is y.id v ≡ t → (y.id ≡ v) ⊎ Contains (ids_of ys) v → (Contains (ids_of ys) v → records_of i x v ≡ records_in ys v)
        → records_of i x v ≡ (if t then Some y.meta else records_in ys v)
    go true t c rest =
        subst (λ (u : Id). records_of i x u ≡ Some y.meta) (id_is-same y.id v t) (ap (λ (o : Option (Result VolumeRecord VolumeFault)). option_and_then record_in o) (texts y (contains_here y ys)))
    go false t (inl e) rest = absurd (false≢true (sym t ∙ subst (λ (u : Id). id_is y.id u ≡ true) e (id_is-itself y.id)))
    go false t (inr c) rest = rest c

no_text : (i : Image) (x : Volumes) (v : Id) → is_volume x v ≡ false → records_of i x v ≡ None
no_text i x v e = go (x.text v) refl e
  where
    go : (o : Option File) → x.text v ≡ o → is_some o ≡ false → records_of i x v ≡ None
    go None t e = rw t refl
    go (Some f) t e = absurd (false≢true (sym e))

records_are : (i : Image) (x : Volumes) (xs : List Volume) (v : Id) → AreVolumes x (ids_of xs) → ReadAs i x xs → records_of i x v ≡ records_in xs v
records_are i x xs v are texts = go (is_volume x v) refl
  where
    none : is_volume x v ≡ false → (o : Option VolumeRecord) → records_in xs v ≡ o → None ≡ o
    none f None t = refl
    none f (Some y) t = absurd (false≢true (sym f ∙ are.each v (record_among xs v y t)))

    go : (t : Bool) → is_volume x v ≡ t → records_of i x v ≡ records_in xs v
    go true t = record_is i x xs v texts (are.all v t)
    go false t = no_text i x v t ∙ none t (records_in xs v) refl

pub gathered_read : (t : Target) (kept : Gathered) (d : Content) → IsGathered t kept d → AreRead (image_in t) (volumes_in (dir_in t) d) kept.records
gathered_read t kept d is = record {
  few = omega (arith, length_records kept.records, ap length is.order, length_ids kept.found, is.few);
  are = are;
  records = λ v. records_are (image_in t) (volumes_in (dir_in t) d) kept.records v are is.texts;
  files = is.own;
}
  where
    are : AreVolumes (volumes_in (dir_in t) d) (ids_of kept.records)
    are = subst (λ (vs : List Id). AreVolumes (volumes_in (dir_in t) d) vs) (sym is.order) is.are
