-- What a chain is made of fits, step by step.
use Rattle.std.proofs.Common.{◌≡◌, ◌⊎◌, ℕ, true, List, length, Option, Some, None, refl, sym, ap, ◌∙◌, subst, inl, inr}
use Rattle.std.specs.List.{Contains}
use Rattle.std.proofs.lemmas.Bool.{false≢true}
use Rattle.sd_names.specs.declared.id.Id.{Id}
use Rattle.sd_names.specs.declared.kinds.Format.{Format}
use Rattle.sd_names.specs.declared.kinds.Format.TheVariants as format
use Rattle.shared_disk.proofs.Outcomes.{cons_cases}
use Rattle.volume_meta.specs.declared.record.VolumeRecord.{VolumeRecord}
use Rattle.chain_model.specs.Chain.{counting}
use Rattle.chain_model.specs.Records.{Records, holds_in, legal_in}
use Rattle.chain_records.specs.Checks.{FirstIs, record_checks}
use Rattle.chain_records.specs.Paths.{IsReadingPath}
use Rattle.chain_records.specs.Records.{ids_of, records_in}
use Rattle.chain_records.specs.declared.volume.Volume.{Volume}
use Rattle.chain_records.proofs.Lists.{record_among, some_record}
use Rattle.chain_records.proofs.Settled.{counted}
use Rattle.chain_records.proofs.Short.{chain_inside}
use Rattle.volume_chain.specs.Chain.{IsOpenAs, IsShaped, kind_by, kind_of, next_of, opened}
use Rattle.volume_chain.specs.declared.chain.Chain.{Chain}
use Rattle.volume_chain.specs.declared.chain.Kind.TheVariants as kind
use Rattle.volume_chain.specs.declared.volumes.OpenVolume.{OpenVolume}
use Rattle.volume_chain.proofs.Along.{along_all, along_snoc, next_among}

legal_record : (o : Option VolumeRecord) → holds_in legal_in o ≡ true → (x : VolumeRecord) × (o ≡ Some x)
legal_record None e = absurd (false≢true e)
legal_record (Some x) e = (x, refl)

-- each volume of the path has a record
pub path_record : (xs : List Volume) (path : List Id) (u : Id) → FirstIs (records_in xs) (record_checks (ids_of xs)) None → IsReadingPath (records_in xs) path → Contains path u
    → (x : VolumeRecord) × (records_in xs u ≡ Some x)
path_record xs path u checked reading h =
    some_record xs u (go (cons_cases reading.0 u (counting (records_in xs) reading.1) (subst (λ (p : List Id). Contains p u) reading.3 h)))
  where
    inside : Contains (ids_of xs) reading.0
    inside = let has = legal_record (records_in xs reading.0) reading.2.legal in record_among xs reading.0 has.0 has.1

    go : (reading.0 ≡ u) ⊎ Contains (counting (records_in xs) reading.1) u → Contains (ids_of xs) u
    go (inl e) = subst (λ (w : Id). Contains (ids_of xs) w) e inside
    go (inr g) = chain_inside xs reading.0 u reading.1 checked inside reading.2.below (counted (records_in xs) u reading.1 g).0

-- the next volume, by how it is opened
pub raw_next : (r : Records) (o : Option Id) (v : Id) → kind_of r o ≡ Some (kind.Raw v) → (o ≡ Some v) × ((x : VolumeRecord) × (r v ≡ Some x) × (x.format ≡ format.Raw))
raw_next r None v e = absurd cc
raw_next r (Some u) v e = go (r u) refl e
  where
    go : (q : Option VolumeRecord) → r u ≡ q → kind_by u q ≡ Some (kind.Raw v) → (Some u ≡ Some v) × ((x : VolumeRecord) × (r v ≡ Some x) × (x.format ≡ format.Raw))
    go None t e = absurd cc
    go (Some x) t e = by_format x.format refl e
      where
        by_format : (f : Format) → x.format ≡ f → Some (elim f [ format.Raw ↦ kind.Raw u | format.Cow ↦ kind.Cow u x.capacity ]) ≡ Some (kind.Raw v)
            → (Some u ≡ Some v) × ((y : VolumeRecord) × (r v ≡ Some y) × (y.format ≡ format.Raw))
        by_format format.Raw f e = let same : u ≡ v = cc in (ap (λ (w : Id). Some w) same, (x, subst (λ (w : Id). r w ≡ Some x) same t, f))
        by_format format.Cow f e = absurd cc

pub cow_next : (r : Records) (o : Option Id) (v : Id) (capacity : ℕ) → kind_of r o ≡ Some (kind.Cow v capacity)
    → (o ≡ Some v) × ((x : VolumeRecord) × (r v ≡ Some x) × (x.format ≡ format.Cow) × (x.capacity ≡ capacity))
cow_next r None v capacity e = absurd cc
cow_next r (Some u) v capacity e = go (r u) refl e
  where
    go : (q : Option VolumeRecord) → r u ≡ q → kind_by u q ≡ Some (kind.Cow v capacity)
        → (Some u ≡ Some v) × ((x : VolumeRecord) × (r v ≡ Some x) × (x.format ≡ format.Cow) × (x.capacity ≡ capacity))
    go None t e = absurd cc
    go (Some x) t e = by_format x.format refl e
      where
        by_format : (f : Format) → x.format ≡ f → Some (elim f [ format.Raw ↦ kind.Raw u | format.Cow ↦ kind.Cow u x.capacity ]) ≡ Some (kind.Cow v capacity)
            → (Some u ≡ Some v) × ((y : VolumeRecord) × (r v ≡ Some y) × (y.format ≡ format.Cow) × (y.capacity ≡ capacity))
        by_format format.Raw f e = absurd cc
        by_format format.Cow f e =
            let same : u ≡ v = cc in
            let bytes : x.capacity ≡ capacity = cc in
            (ap (λ (w : Id). Some w) same, (x, subst (λ (w : Id). r w ≡ Some x) same t, f, bytes))

-- where none is left, all are open
pub all_open : (c : Chain) → IsShaped c → kind_of (records_in c.records) (next_of c) ≡ None → length c.volumes ≡ length c.path
all_open c shaped none = go (next_of c) refl
  where
    no_kind : (v : Id) (x : VolumeRecord) (o : Option VolumeRecord) → o ≡ Some x → kind_by v o ≡ None → ⊥
    no_kind v x o e n = cc

    go : (o : Option Id) → next_of c ≡ o → length c.volumes ≡ length c.path
    go None e = along_all _ c.path c.volumes shaped.each e
    go (Some v) e =
        let has = path_record c.records c.path v shaped.checked shaped.reading (next_among c.path (length c.volumes) v e) in
        absurd (no_kind v has.0 (records_in c.records v) has.1 (ap (kind_of (records_in c.records)) (sym e) ∙ none))

-- one volume more is open as its record says
pub shaped_more : (c : Chain) (v : Id) (o : OpenVolume) → IsShaped c → next_of c ≡ Some v → IsOpenAs c.target v (records_in c.records v) o → IsShaped (opened c o)
shaped_more c v o shaped next is = rw next (record {
  valid = shaped.valid;
  checked = shaped.checked;
  reading = shaped.reading;
  each = along_snoc _ c.path c.volumes v o next shaped.each is;
})
