-- A cluster that was written whole has at its place what its sectors are to be.
use Rattle.std.proofs.Common.{◌≡◌, ◌⊎◌, inl, inr, ℕ, ◌+◌, ◌-◌, ◌*◌, ◌/◌, ◌%◌, ◌^◌, ◌<◌, ◌≤◌, true, nat_lt, List, Option, Some, None, refl, sym, ap, ◌∙◌, subst, arith}
use Rattle.std.proofs.lemmas.Bool.{cases_lt, lt-ltb}
use Rattle.sd_names.specs.declared.id.Id.{Id}
use Rattle.shared_disk.specs.Calls.{sectors_in, synced}
use Rattle.shared_disk.specs.Content.{File, seen, sector_of, zero_sector}
use Rattle.shared_disk.specs.WellFormed.{IsWellFormedFile}
use Rattle.qcow_format.specs.declared.entry.Entry.{Entry}
use Rattle.qcow_format.specs.declared.entry.Entry.TheVariants.{Absent, Zero, Data}
use Rattle.qcow_format.specs.declared.header.Header.{Header}
use Rattle.volume_meta.specs.declared.record.VolumeRecord.{VolumeRecord}
use Rattle.image_model.specs.File.{sector_in}
use Rattle.image_model.specs.Layer.{entry_at}
use Rattle.layer_laws.specs.Laws.{layer}
use Rattle.qcow_layer.specs.declared.layer.Layer.{Layer}
use Rattle.qcow_layer.specs.declared.looking.Looked.{Looked}
use Rattle.layer_writing.specs.Holding.{as_seen, on_medium}
use Rattle.chain_model.specs.Chain.{IsBelow}
use Rattle.chain_model.specs.Flat.{flat}
use Rattle.chain_model.specs.Folder.{Volumes}
use Rattle.chain_model.specs.Own.{own, own_in, sector_behind, sectors_of}
use Rattle.chain_model.specs.Records.{Records}
use Rattle.own_laws.specs.Sectors.{IsLayerOf, cluster_of, offset_of, sector_at}
use Rattle.chain_laws.specs.Laid.{IsInPart, Laying}
use Rattle.chain_laws.specs.Written.{IsHeld}
use Rattle.part_laws.specs.Steps.{StandsFor}
use Rattle.volume_chain.specs.Chain.{path_in}
use Rattle.volume_chain.specs.declared.chain.Chain.{Chain}
use Rattle.chain_reading.specs.Knowing.{records_of}
use Rattle.cluster_filling.specs.Cluster.{IsClusterOf, IsIn, IsWanted, ReadsBelow, source_on}
use Rattle.cluster_filling.specs.Filled.{HoldsNoData, SeesFilled}
use Rattle.cluster_filling.specs.declared.cluster.Cluster.{Cluster}
use Rattle.cluster_filling.specs.declared.cluster.NewCluster.{NewCluster}
use Rattle.cluster_filling.proofs.Medium.{sector_there, synced_has}
use Rattle.cluster_filling.proofs.Paths.{filled_alike}
use Rattle.write_planning.specs.Linked.{place_in}
use Rattle.write_planning.specs.Plan.{found_at, places_below, span_of, tables_of, target_found}
use Rattle.write_planning.specs.Span.{first_of, width_of}
use Rattle.write_preparing.specs.Filled.{StandsWhole}
use Rattle.write_preparing.specs.Preparing.{IsPrepared}
use Rattle.write_filling.specs.Cluster.{IsNewCluster}
use Rattle.write_filling.specs.Said.{capacity_said, entry_found}
use Rattle.write_filling.specs.Filling.{HoldsSince, IsInImage, many_of, next_place}
use Rattle.write_filling.specs.declared.fillings.Fillings.{Fillings}
use Rattle.write_filling.proofs.Beside.{layer_synced}
use Rattle.write_filling.proofs.Since.{since_synced}
use Rattle.write_filling.proofs.Places.{IsGiven, given, low_number, wide}

-- a sector of the volume is held as its cluster's entry says
entry_held : (x : VolumeRecord) (h : Header) (f : File) (k : ℕ) (entry : Entry) → IsLayerOf x h f → k < sectors_of x → entry_at (layer h (on_medium f)) (cluster_of h k) ≡ entry
    → own_in x f k ≡ sector_behind f (offset_of h k) entry
unfolding own_in
entry_held x h f k entry is low at =
    let inside : nat_lt k (sectors_of x) ≡ true = lt-ltb k (sectors_of x) low in
    rw (inside, is.cow, is.header, at) refl

-- a cluster of data gets no place
data_stays : (width n place : ℕ) (xs : List ℕ) (o : Option Looked) (q : ℕ) → entry_found o ≡ Data q → place_in width xs (target_found n o) ≡ Some place → ⊥
data_stays width n place xs None q is at = let e : Absent ≡ Data q = is in absurd cc
data_stays width n place xs (Some looked) q is at =
    let none : place_in width xs (target_found n (Some looked)) ≡ None = rw is refl in
    let both : None ≡ Some place = sym none ∙ at in
    absurd cc

module _ (s : Fillings) (c : Chain) (w : Layer) (l : Laying) (x : VolumeRecord) (old : Volumes) (host : ℕ) (f : File) (image : IsInImage s c w l old) (prepared : IsPrepared s.placed w l x host f) (since : HoldsSince l x old f)
    (well : IsWellFormedFile f) (lt : s.done < many_of s) (place : ℕ) (gets : next_place s ≡ Some place) (new : NewCluster) (is : IsNewCluster s place c new) (k : Cluster) (of : IsClusterOf new k) (sees : SeesFilled k c old l.part.bytes host f) where
  abbrev h : Header
  h = w.work.header

  abbrev W : ℕ
  W = 2 ^ h.cluster_bits

  abbrev part : List ℕ
  part = l.part.bytes

  abbrev c0 : ℕ
  c0 = first_of (span_of s.placed.plan) + s.done

  abbrev found : Option Looked
  found = found_at s.placed.plan s.done

  here : IsGiven s.placed w l x host f prepared s.done place
  here = given s.placed w l x host f prepared s.done place lt gets

  width_is : new.width ≡ W
  width_is = is.width ∙ wide s.placed w l x host f prepared

  low_at : new.number * (new.width / 512) ≤ 2 ^ 54
  low_at = subst (λ m. m * (new.width / 512) ≤ 2 ^ 54) (sym is.number) (subst (λ m. c0 * (m / 512) ≤ 2 ^ 54) (sym is.width) (low_number s.placed.plan s.done lt))

  there : (n : ℕ) → cluster_of h n ≡ c0 → IsWanted k c old part n (sector_in f.size (seen host f) (sector_at h place n))
  there n in_c =
      let whole : new.width % 512 ≡ 0 = subst (λ m. m % 512 ≡ 0) (sym is.width) (span_of s.placed.plan).part.whole in
      let low = here.low in
      let at = is.target in
      let number : 512 * n / new.width ≡ new.number = ap (λ m. 512 * n / m) width_is ∙ in_c ∙ sym is.number in
      let wanted = sector_there new k c old part (synced host f) n of (omega (arith, low, at)) low_at whole number (synced_has k c old part host f sees) in
      subst (λ m. IsWanted k c old part n (sector_in f.size (seen host f) ((place + 512 * n % m) / 512))) width_is
      (subst (λ m. IsWanted k c old part n (sector_in f.size (seen host f) ((m + 512 * n % new.width) / 512))) is.target wanted)

  volume_is : k.volume ≡ l.volume
  volume_is = of.volume ∙ is.volume ∙ sym image.volume

  from_is : k.from ≡ l.part.at
  from_is = of.from ∙ ap (λ m. m / 512) (is.at ∙ image.at) ∙ omega arith

  says : records_of c s.volume ≡ Some x
  says = sym (ap (λ (r : Records). r s.volume) image.records) ∙ ap (λ (v : Id). l.records v) (sym image.volume) ∙ prepared.over.says

  capacity_is : k.capacity ≡ sectors_of x
  capacity_is = of.capacity ∙ ap (λ m. m / 512) (is.capacity ∙ ap capacity_said says)

  -- what was found is what the layer says
  entry_is : (entry : Entry) → entry_found found ≡ entry → (n : ℕ) → n < sectors_of x → cluster_of h n ≡ c0 → own_in x (synced host f) n ≡ sector_behind (synced host f) (offset_of h n) entry
  entry_is entry at n low in_c =
      let all = prepared.over.all in
      let was = prepared.over.found.found s.done (omega (arith, all, lt)) in
      let same : entry_at (layer h (as_seen host f)) c0 ≡ entry = sym was.2.entry ∙ sym (ap entry_found was.1) ∙ at in
      entry_held x h (synced host f) n entry (layer_synced s.placed w l x host f prepared.over well) low (ap (λ m. entry_at (layer h (as_seen host f)) m) in_c ∙ same)

  abbrev Alike : Records → Id → Entry → ℕ → List ℕ → Type 0
  Alike r v entry n there = IsBelow r v l.below → HoldsNoData entry (own r old v n) → there ≡ flat r old v l.below n

  -- outside the part it is what the volume read as
  alike : (entry : Entry) → entry_found found ≡ entry → (n : ℕ) → n < sectors_of x → (IsIn k (sectors_in part) n → ⊥) → (b : List ℕ) → IsWanted k c old part n b → HoldsNoData entry (own l.records old l.volume n) → b ≡ l.reads n
  alike entry at n low out b wanted none =
      let base : Alike (records_of c) k.volume entry n b = λ below held.
      filled_alike k c old s.index entry l.below part n b image.shape (image.path ∙ ap (λ (v : Id). Some v) (sym (of.volume ∙ is.volume)))
      (of.below ∙ is.below ∙ ap (λ (e : Entry). source_on (path_in c) s.index e) at) held below (subst (λ m. n < m) (sym capacity_is) low) out wanted in
      let moved : Alike l.records l.volume entry n b = subst (λ (r : Records). Alike r l.volume entry n b) (sym image.records) (subst (λ (v : Id). Alike (records_of c) v entry n b) volume_is base) in
      moved image.below none ∙ image.reads n (x, prepared.over.says, low)

  outside : (n : ℕ) → n < sectors_of x → cluster_of h n ≡ c0 → (IsInPart l.part n → ⊥) → (b : List ℕ) → IsWanted k c old part n b → StandsFor l n (own_in x (synced host f) n) b
  outside n low in_c out b wanted = go (entry_found found) refl
    where
      out_of : IsIn k (sectors_in part) n → ⊥
      out_of inside = out (subst (λ m. (m ≤ n) × (n < m + sectors_in part)) from_is inside)

      absent : entry_found found ≡ Absent → own_in x (synced host f) n ≡ None → IsHeld l n (own l.records old l.volume n) (own_in x (synced host f) n) → StandsFor l n (own_in x (synced host f) n) b
      absent at none (inl same) = inr (alike Absent at n low out_of b wanted (sym same ∙ none), λ bytes e. absurd cc)
      absent at none (inr (inl here)) = absurd (out here.0)
      absent at none (inr (inr here)) = let some = here.1 in absurd cc

      zeros : (q : ℕ) → entry_found found ≡ Zero q → own_in x (synced host f) n ≡ Some zero_sector → b ≡ zero_sector → IsHeld l n (own l.records old l.volume n) (own_in x (synced host f) n)
          → StandsFor l n (own_in x (synced host f) n) b
      zeros q at held zero (inl same) =
          let reads = alike (Zero q) at n low out_of b wanted (sym same ∙ held) in
          inr (reads, λ bytes e. let same' : zero_sector ≡ bytes = cc in sym same' ∙ sym zero ∙ reads)
      zeros q at held zero (inr (inl here)) = absurd (out here.0)
      zeros q at held zero (inr (inr here)) =
          let now = here.1 in
          let reads : zero_sector ≡ l.reads n = cc in
          inr (zero ∙ reads, λ bytes e. let same : zero_sector ≡ bytes = cc in sym same ∙ reads)

      no_source : (q : ℕ) → entry_found found ≡ Zero q → k.below ≡ None
      no_source q at = of.below ∙ is.below ∙ ap (λ (e : Entry). source_on (path_in c) s.index e) at

      go : (entry : Entry) → entry_found found ≡ entry → StandsFor l n (own_in x (synced host f) n) b
      go Absent at = absent at (entry_is Absent at n low in_c) (since_synced l x old host f n prepared.over.writer.knows.alone since low)
      go (Zero q) at =
          let below = wanted.below out_of (subst (λ m. n < m) (sym capacity_is) low) in
          zeros q at (entry_is (Zero q) at n low in_c) (subst (λ (o : Option Id). ReadsBelow c old o n b) (no_source q at) below) (since_synced l x old host f n prepared.over.writer.knows.alone since low)
      go (Data q) at = absurd (data_stays (width_of (span_of s.placed.plan)) (tables_of s.placed.plan + places_below s.placed.plan s.done) place s.placed.clusters.numbers.items found q at gets)

  pub stands : (n : ℕ) → cluster_of h n ≡ c0 → n < sectors_of x → StandsWhole l n (own_in x (synced host f) n) (sector_in f.size (seen host f) (sector_at h place n))
  stands n in_c low = go (cases_lt n l.part.at) (cases_lt n (l.part.at + sectors_in part))
    where
      b : List ℕ
      b = sector_in f.size (seen host f) (sector_at h place n)

      past : (IsInPart l.part n → ⊥) → StandsWhole l n (own_in x (synced host f) n) (sector_in f.size (seen host f) (sector_at h place n))
      past out = record {
        stands = outside n low in_c out (sector_in f.size (seen host f) (sector_at h place n)) (there n in_c);
        part = λ inside. absurd (out inside);
      }

      go : (n < l.part.at) ⊎ (l.part.at ≤ n) → (n < l.part.at + sectors_in part) ⊎ (l.part.at + sectors_in part ≤ n) → StandsWhole l n (own_in x (synced host f) n) (sector_in f.size (seen host f) (sector_at h place n))
      go (inl before) rest = past (λ inside. omega (arith, before, inside.0))
      go (inr le) (inr behind) = past (λ inside. omega (arith, behind, inside.1))
      go (inr le) (inl within) =
          let inside : IsIn k (sectors_in part) n = subst (λ m. (m ≤ n) × (n < m + sectors_in part)) (sym from_is) (le, within) in
          let same = (there n in_c).inside inside ∙ ap (λ m. sector_of part (n - m)) from_is in
          record { stands = inl ((le, within), same); part = λ here. same }
