-- A settled chain is known as an opening knows one, and nothing is unsynced in its volumes' files and texts.
use Rattle.std.proofs.Common.{◌≡◌, ◌≢◌, ◌⊎◌, ℕ, zero, suc, ◌*◌, ◌≤◌, Bool, List, [], ◌∷◌, length, Option, Some, None, refl, sym, ap, ◌∙◌, subst, inl, inr, arith}
use Rattle.std.specs.Prelude.{if◌then◌else◌, is_some, slice_get}
use Rattle.std.specs.List.{Contains}
use Rattle.std.specs.List.Sorted.{IsStrictlySortedBy}
use Rattle.std.proofs.lemmas.Option.{none-some, same_Some, slice_get_within}
use Rattle.sd_names.specs.declared.id.Id.{Id}
use Rattle.sd_names.specs.declared.place.Dir.{Dir}
use Rattle.sd_names.specs.declared.place.Place.{Place}
use Rattle.shared_disk.specs.Content.{Content, File}
use Rattle.shared_disk.specs.Crash.{IsAlso, IsSettled, OnEach}
use Rattle.shared_disk.proofs.AtPlace.{one_file}
use Rattle.shared_disk.proofs.Outcomes.{cons_cases, contains_here, contains_more, nothing_in}
use Rattle.volume_meta.specs.declared.record.VolumeRecord.{VolumeRecord}
use Rattle.qcow_layer.specs.Opening.{place_kept, volume_kept}
use Rattle.qcow_layer.specs.declared.layer.Layer.{Layer}
use Rattle.qcow_layer.specs.declared.stages.Target as layer
use Rattle.chain_model.specs.Folder.{Volumes}
use Rattle.chain_model.specs.Opening.{id_cmp}
use Rattle.chain_model.specs.Records.{Records, is_volume}
use Rattle.chain_gathering.specs.Knowing.{AreSettled, volumes_in}
use Rattle.chain_gathering.specs.declared.names.VolumeName.TheVariants.{Data, Text}
use Rattle.chain_records.specs.Checks.{FirstIs, record_checks}
use Rattle.chain_records.specs.Paths.{IsReadingPath}
use Rattle.chain_records.specs.Records.{files_of, first_missing, ids_of, records_in}
use Rattle.chain_records.specs.Settling.{ArePartlyRewritten, IsRewritten}
use Rattle.chain_records.specs.Shown.{IsShown}
use Rattle.chain_records.specs.declared.volume.Volume.{Volume}
use Rattle.chain_records.proofs.Again.{pass_again}
use Rattle.chain_records.proofs.Partly.{path_alike, reading_alike}
use Rattle.volume_chain.specs.Chain.{IsOpenAs, IsShaped, OnPath, open_in, path_in, records_kept, target_of}
use Rattle.volume_chain.specs.Knowing.{IsKnown, KnowsChain}
use Rattle.volume_chain.specs.declared.chain.Chain.{Chain}
use Rattle.volume_chain.specs.declared.chain.Target.{Target}
use Rattle.volume_chain.specs.declared.volumes.OpenVolume.{OpenVolume}
use Rattle.volume_chain.specs.declared.volumes.OpenVolume.TheVariants.{Cow, Raw}
use Rattle.chain_settling.specs.Alike.{HoldsAlike}
use Rattle.chain_settling.specs.Fit.{AreValid}
use Rattle.chain_settling.specs.Knowing.{IsSettledImage}
use Rattle.chain_settling.specs.Was.{IsLeftAlone, IsOffLayers, WasOpen, file_in, folder_in, image_kept, text_in}
use Rattle.chain_settling.specs.Work.{IsLayerAt}
use Rattle.chain_settling.proofs.Alike.{same_or_not}
use Rattle.chain_settling.proofs.Grows.{there}
use Rattle.chain_settling.proofs.Opened.{path_once}
use Rattle.chain_settling.proofs.Valid.{same_length}

-- ---- lists of the same volumes, each with its file or without

abbrev rest : {A : Type 0} → List A → List A
rest [] = []
rest (x ∷ xs) = xs

first_id : (x y : Volume) (xs ys : List Volume) → ids_of (y ∷ ys) ≡ ids_of (x ∷ xs) → y.id ≡ x.id
first_id x y xs ys e = same_Some y.id x.id (ap (λ (vs : List Id). slice_get vs 0) e)

first_file : (x y : Volume) (xs ys : List Volume) → files_of (y ∷ ys) ≡ files_of (x ∷ xs) → y.has_file ≡ x.has_file
first_file x y xs ys e = same_Some y.has_file x.has_file (ap (λ (bs : List Bool). slice_get bs 0) e)

same_missing : (xs ys : List Volume) → ids_of ys ≡ ids_of xs → files_of ys ≡ files_of xs → first_missing ys ≡ first_missing xs
same_missing [] [] ids files = refl
same_missing [] (y ∷ ys) ids files = absurd (none-some y.id (sym (ap (λ (vs : List Id). slice_get vs 0) ids)))
same_missing (x ∷ xs) [] ids files = absurd (none-some x.id (ap (λ (vs : List Id). slice_get vs 0) ids))
same_missing (x ∷ xs) (y ∷ ys) ids files =
    let id = first_id x y xs ys ids in
    let file = first_file x y xs ys files in
    let more = same_missing xs ys (ap rest ids) (ap rest files) in
    λ i. if file i then more i else Some (id i)

-- a volume of the second list stands in the first one
same_volume : (xs ys : List Volume) → ids_of ys ≡ ids_of xs → files_of ys ≡ files_of xs → (y : Volume) → Contains ys y → (x : Volume) × Contains xs x × (x.id ≡ y.id) × (x.has_file ≡ y.has_file)
same_volume xs [] ids files y h = absurd (nothing_in y h)
same_volume [] (z ∷ zs) ids files y h = absurd (none-some z.id (sym (ap (λ (vs : List Id). slice_get vs 0) ids)))
same_volume (x ∷ xs) (z ∷ zs) ids files y h = go (cons_cases z y zs h) (λ more. same_volume xs zs (ap rest ids) (ap rest files) y more)
  where
    go : (z ≡ y) ⊎ Contains zs y → (Contains zs y → (w : Volume) × Contains xs w × (w.id ≡ y.id) × (w.has_file ≡ y.has_file)) → (w : Volume) × Contains (x ∷ xs) w × (w.id ≡ y.id) × (w.has_file ≡ y.has_file)
    go (inl same) later = (
      x,
      contains_here x xs,
      sym (first_id x z xs zs ids) ∙ ap (λ (w : Volume). w.id) same,
      sym (first_file x z xs zs files) ∙ ap (λ (w : Volume). w.has_file) same,
    )
    go (inr more) later =
        let w = later more in
        (w.0, contains_more x w.0 xs w.1, w.2, w.3)

pub also_there : (R : File → File → Type 0) (a b : Option File) → IsAlso R a b → is_some b ≡ is_some a
also_there R None None also = refl
also_there R None (Some g) also = absurd also
also_there R (Some f) None also = absurd also
also_there R (Some f) (Some g) also = refl

-- ---- open volumes along a path

along : (R : Id → OpenVolume → Type 0) (path : List Id) (os : List OpenVolume) → length os ≡ length path → ((b : ℕ) (v : Id) (o : OpenVolume) → slice_get path b ≡ Some v → slice_get os b ≡ Some o → R v o) → OnPath R path os
along R path [] e each = tt
along R [] (o ∷ os) e each = absurd (omega (arith, e))
along R (v ∷ vs) (o ∷ os) e each = (each zero v o refl refl, along R vs os (omega (arith, e)) (λ b u p at is. each (suc b) u p at is))

-- a record whose parent or VOLTYPE is rewritten opens its volume as before
rewritten_open : (t : Target) (r : Records) (v : Id) (o p : Option VolumeRecord) (z : OpenVolume) → (p ≡ o) ⊎ IsRewritten r v o p → IsOpenAs t v o z → IsOpenAs t v p z
rewritten_open t r v o p z (inl same) is = subst (λ (q : Option VolumeRecord). IsOpenAs t v q z) (sym same) is
rewritten_open t r v None p z (inr w) is = absurd is
rewritten_open t r v (Some y) p (Raw bytes) (inr w) is = subst (λ (q : Option VolumeRecord). IsOpenAs t v q (Raw bytes)) (sym w.2) is
rewritten_open t r v (Some y) p (Cow l) (inr w) is = subst (λ (q : Option VolumeRecord). IsOpenAs t v q (Cow l)) (sym w.2) is

opened_volume : (t : Target) (v : Id) (o : Option VolumeRecord) (l : Layer) → IsOpenAs t v o (Cow l) → volume_kept l ≡ v
opened_volume t v None l is = absurd is
opened_volume t v (Some y) l is = ap (λ (q : layer.Target). q.volume) is.1

-- whether a layer of the path is of a volume
pub find_layer : (os : List OpenVolume) (v : Id) → ((b : ℕ) × (l : Layer) × (slice_get os b ≡ Some (Cow l)) × (volume_kept l ≡ v)) ⊎ ((b : ℕ) (l : Layer) → slice_get os b ≡ Some (Cow l) → volume_kept l ≢ v)
find_layer [] v = inr (λ b l e. absurd (none-some (Cow l) e))
find_layer (Raw bytes ∷ os) v = go (find_layer os v)
  where
    go : ((b : ℕ) × (l : Layer) × (slice_get os b ≡ Some (Cow l)) × (volume_kept l ≡ v)) ⊎ ((b : ℕ) (l : Layer) → slice_get os b ≡ Some (Cow l) → volume_kept l ≢ v)
        → ((b : ℕ) × (l : Layer) × (slice_get (Raw bytes ∷ os) b ≡ Some (Cow l)) × (volume_kept l ≡ v)) ⊎ ((b : ℕ) (l : Layer) → slice_get (Raw bytes ∷ os) b ≡ Some (Cow l) → volume_kept l ≢ v)
    go (inl f) = inl (suc f.0, f.1, f.2, f.3)
    go (inr none) = inr at
      where
        at : (b : ℕ) (l : Layer) → slice_get (Raw bytes ∷ os) b ≡ Some (Cow l) → volume_kept l ≢ v
        at zero l e = let h : Some (Raw bytes) ≡ Some (Cow l) = e in absurd cc
        at (suc b) l e = none b l e
find_layer (Cow m ∷ os) v = go (same_or_not (volume_kept m) v) (find_layer os v)
  where
    go : (volume_kept m ≡ v) ⊎ (volume_kept m ≢ v) → ((b : ℕ) × (l : Layer) × (slice_get os b ≡ Some (Cow l)) × (volume_kept l ≡ v)) ⊎ ((b : ℕ) (l : Layer) → slice_get os b ≡ Some (Cow l) → volume_kept l ≢ v)
        → ((b : ℕ) × (l : Layer) × (slice_get (Cow m ∷ os) b ≡ Some (Cow l)) × (volume_kept l ≡ v)) ⊎ ((b : ℕ) (l : Layer) → slice_get (Cow m ∷ os) b ≡ Some (Cow l) → volume_kept l ≢ v)
    go (inl same) found = inl (zero, m, refl, same)
    go (inr other) (inl f) = inl (suc f.0, f.1, f.2, f.3)
    go (inr other) (inr none) = inr at
      where
        at : (b : ℕ) (l : Layer) → slice_get (Cow m ∷ os) b ≡ Some (Cow l) → volume_kept l ≢ v
        at zero l e = let h : Some (Cow m) ≡ Some (Cow l) = e in let one : m ≡ l = cc in subst (λ (z : Layer). volume_kept z ≢ v) one other
        at (suc b) l e = none b l e

-- ---- what is known of a settled chain

module _ (c : Chain) (host : ℕ) (r : Records) (x : Volumes) (d : Content) (k : IsSettledImage c host r x d) where
  abbrev dir : Dir
  dir = folder_in c

  abbrev s : Records
  s = records_in (records_kept c)

  was : WasOpen c r x
  was = k.image.was

  partly : ArePartlyRewritten r s
  partly = k.image.partly

  same_there : (v : Id) → is_volume (volumes_in dir d) v ≡ is_volume x v
  same_there v = also_there (λ f g. IsSettled g) (x.text v) (d.file (text_in dir v)) (k.image.alike.texts v)

  shown : IsShown (image_kept c) (volumes_in dir d) (records_kept c)
  shown = record {
    read = record {
      few = subst (λ (n : ℕ). n ≤ 32) (sym (same_length was.first (records_kept c) was.ids)) was.shown.read.few;
      are = record {
        rising = subst (λ (vs : List Id). IsStrictlySortedBy id_cmp vs) (sym was.ids) was.shown.read.are.rising;
        each = λ v h. same_there v ∙ was.shown.read.are.each v (subst (λ (vs : List Id). Contains vs v) was.ids h);
        all = λ v is. subst (λ (vs : List Id). Contains vs v) (sym was.ids) (was.shown.read.are.all v (sym (same_there v) ∙ is));
      };
      records = k.said;
      files = λ y h. file y (same_volume was.first (records_kept c) was.ids was.files y h);
    };
    there = same_missing was.first (records_kept c) was.ids was.files ∙ was.shown.there;
  }
    where
      file : (y : Volume) → (z : Volume) × Contains was.first z × (z.id ≡ y.id) × (z.has_file ≡ y.has_file) → y.has_file ≡ is_some (d.file (file_in dir y.id))
      file y z =
          sym z.3 ∙ was.shown.read.files z.0 z.1 ∙ ap (λ (v : Id). is_some (x.file v)) z.2 ∙ sym (also_there (λ f g. OnEach g (HoldsAlike (r y.id) f)) (x.file y.id) (d.file (file_in dir y.id)) (k.image.alike.files y.id))

  reading : IsReadingPath s (path_in c)
  reading =
      let still = reading_alike r s was.reading.0 was.reading.1 partly was.reading.2 in (
        was.reading.0,
        still.0,
        still.1,
        was.reading.3 ∙ sym (path_alike r s was.reading.0 was.reading.1 still.0 partly was.reading.2.below still.1.below),
      )

  shape : AreValid c → IsShaped c
  shape valid = record {
    valid = valid;
    checked = subst (λ (vs : List Id). FirstIs s (record_checks vs) None) (sym was.ids) (pass_again was.first s (subst (λ (q : Records). ArePartlyRewritten q s) was.records partly) was.checked);
    reading = reading;
    each = along (λ v o. IsOpenAs (target_of c) v (s v) o) (path_in c) (open_in c) was.all (λ b v o at is. rewritten_open (target_of c) r v (r v) (s v) o (partly v) (was.each b v o at is).0);
  }

  -- no layer of the path is of the same volume as a raw one
  raw_off : (b bytes : ℕ) (v : Id) → slice_get (path_in c) b ≡ Some v → slice_get (open_in c) b ≡ Some (Raw bytes) → IsOffLayers c v
  raw_off b bytes v at is a l at_a same = go (slice_get (path_in c) a) refl
    where
      go : (o : Option Id) → slice_get (path_in c) a ≡ o → ⊥
      go None none = let within = slice_get_within (open_in c) a (Cow l) at_a in there (path_in c) a (omega (arith, within, was.all)) none
      go (Some u) e =
          let own : volume_kept l ≡ u = opened_volume (target_of c) u (r u) l (was.each a u (Cow l) e at_a).0 in
          let one : a ≡ b = path_once r (path_in c) was.reading a b v (e ∙ ap (λ (w : Id). Some w) (sym own ∙ same)) at in
          let h : Some (Cow l) ≡ Some (Raw bytes) = sym at_a ∙ ap (λ (i : ℕ). slice_get (open_in c) i) one ∙ is in
          absurd cc

  raw_known : (bytes : ℕ) (p : Place) (f : File) (o : Option File) → d.file p ≡ o → bytes ≤ 512 * f.size → IsAlso IsLeftAlone (Some f) o → (g : File) × (d.file p ≡ Some g) × (bytes ≤ 512 * g.size)
  raw_known bytes p f None e low also = absurd also
  raw_known bytes p f (Some g) e low also = (g, e, omega (arith, low, also.longer.size))

  known : (b : ℕ) (v : Id) (o : OpenVolume) → slice_get (path_in c) b ≡ Some v → slice_get (open_in c) b ≡ Some o → IsKnown (target_of c) host d v o
  known b v (Raw bytes) at is =
      let long = (was.each b v (Raw bytes) at is).1 in
      raw_known bytes (file_in dir v) long.0 (d.file (file_in dir v)) refl long.2
      (subst (λ (o : Option File). IsAlso IsLeftAlone o (d.file (file_in dir v))) long.1 (k.image.alone v (raw_off b bytes v at is)))
  known b v (Cow l) at is = let own = k.rest.layers.each b l is in record { file = own.file; there = own.there; knows = own.knows }

  pub chain_known : AreValid c → KnowsChain c host d
  chain_known valid = record {
    shown = shown;
    shape = shape valid;
    all = was.all;
    known = along (IsKnown (target_of c) host d) (path_in c) (open_in c) was.all known;
  }

  pub all_settled : AreSettled dir d
  all_settled (Data v) f e = go (find_layer (open_in c) v)
    where
      off : (o : Option File) → IsAlso IsLeftAlone o (Some f) → IsSettled f
      off None also = absurd also
      off (Some g) also = also.settled

      go : ((b : ℕ) × (l : Layer) × IsLayerAt c b l × (volume_kept l ≡ v)) ⊎ IsOffLayers c v → IsSettled f
      go (inl found) =
          let own = k.rest.layers.each found.0 found.1 found.2 in
          let at : place_kept found.1 ≡ file_in dir v = own.place ∙ ap (λ (u : Id). file_in dir u) found.3 in
          subst IsSettled (one_file own.file f (d.file (file_in dir v)) (ap (λ (p : Place). d.file p) (sym at) ∙ own.there) e) own.settled
      go (inr none) = off (x.file v) (subst (λ (o : Option File). IsAlso IsLeftAlone (x.file v) o) e (k.image.alone v none))
  all_settled (Text v) f e = text (x.text v) (subst (λ (o : Option File). IsAlso (λ g h. IsSettled h) (x.text v) o) e (k.image.alike.texts v))
    where
      text : (o : Option File) → IsAlso (λ g h. IsSettled h) o (Some f) → IsSettled f
      text None also = absurd also
      text (Some g) also = also
