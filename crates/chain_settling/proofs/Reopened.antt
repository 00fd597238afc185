-- An image whose settling was cut can be opened again.
use Rattle.std.proofs.Common.{◌≡◌, ◌⊎◌, ℕ, ◌≤◌, Bool, true, false, List, [], ◌∷◌, length, Option, Some, None, unwrap_or, refl, sym, ap, ◌∙◌, subst, inl, inr}
use Rattle.std.specs.Prelude.{if◌then◌else◌, is_some}
use Rattle.std.specs.List.{Contains}
use Rattle.std.proofs.lemmas.Option.{none-some, same_Some}
use Rattle.sd_names.specs.Id.{zero_id}
use Rattle.sd_names.specs.declared.id.Id.{Id}
use Rattle.sd_names.specs.declared.place.Dir.{Dir}
use Rattle.sd_names.specs.declared.refusal.Refusal.{Refusal}
use Rattle.sd_names.specs.declared.refusal.Refusal.TheVariants.{ChainTooLong}
use Rattle.shared_disk.specs.Content.{Content, File}
use Rattle.shared_disk.specs.Crash.{IsAlso, IsFileOutcome, IsOutcome, IsSettled, OnEach}
use Rattle.shared_disk.specs.Places.{id_is}
use Rattle.shared_disk.proofs.AtPlace.{also_some}
use Rattle.shared_disk.proofs.Outcomes.{cons_cases, contains_here, contains_more, nothing_in, settled_itself}
use Rattle.shared_disk.proofs.Places.{id_is-same}
use Rattle.image_model.specs.File.{file_of}
use Rattle.image_model.specs.Soundness.{HasFault}
use Rattle.volume_meta.specs.declared.record.VolumeRecord.{VolumeRecord}
use Rattle.chain_gathering.specs.Knowing.{AreSettled, volumes_in}
use Rattle.chain_gathering.specs.declared.names.VolumeName.TheVariants.{Data}
use Rattle.chain_model.specs.Chain.{IsBelow, path_of}
use Rattle.chain_model.specs.Folder.{Volumes}
use Rattle.chain_model.specs.Headers.{backing_by_record}
use Rattle.chain_model.specs.Opening.{AreVolumes, Check, IsBadLayer, IsBadName, IsOpenable, Refuses, both, capacity, format, header, layer, named_by_header, ring}
use Rattle.chain_model.specs.Reading.{IsReading}
use Rattle.chain_model.specs.Records.{Image, Records, is_volume, parent, parent_in, records_of}
use Rattle.chain_model.specs.Up.{up_of}
use Rattle.chain_model.proofs.Asked.{asks_capacity, asks_format, asks_ring}
use Rattle.chain_model.proofs.Opened.{text_there}
use Rattle.chain_model.proofs.Refusals.{one_path}
use Rattle.chain_model.proofs.Whole as whole
use Rattle.chain_records.specs.Checks.{FirstIs, record_checks}
use Rattle.chain_records.specs.Records.{ids_of, records_in}
use Rattle.chain_records.specs.Settling.{ArePartlyRewritten, IsRewritten}
use Rattle.chain_records.specs.declared.volume.Volume.{Volume}
use Rattle.chain_records.proofs.Again.{pass_again}
use Rattle.chain_records.proofs.Firsts.{all_pass, parents_pass, values_pass}
use Rattle.chain_records.proofs.Opening.{opened_by_records}
use Rattle.chain_records.proofs.Partly.{name_alike, path_alike, reading_alike}
use Rattle.volume_chain.specs.Chain.{path_in}
use Rattle.volume_chain.specs.Stages.{IsOpen}
use Rattle.volume_chain.specs.declared.chain.Chain.{Chain}
use Rattle.chain_settling.specs.Alike.{HoldsAlike, ReadsAlike}
use Rattle.chain_settling.specs.Fit.{AreValid}
use Rattle.chain_settling.specs.Knowing.{IsSettledImage}
use Rattle.chain_settling.specs.Reopening.{NamesAlike, OpensAlike, StaysSound, named_in}
use Rattle.chain_settling.specs.Was.{file_in, folder_in, image_kept, text_in}
use Rattle.chain_settling.proofs.Alike.{says_by}
use Rattle.chain_settling.proofs.Known.{all_settled, also_there, chain_known}
use Rattle.chain_settling.proofs.Listed.{ids_listed, listed, records_listed, shown}
use Rattle.chain_settling.proofs.Opened.{legal_record}
use Rattle.chain_settling.proofs.Outcomes.{text_on}
use Rattle.chain_settling.proofs.Plans.{Rewritten, parent_by, record_was, up_alike}
use Rattle.chain_settling.proofs.OpensAlike.{none_of_sound}

-- the image's records pass their checks
passed : (i : Image) (x : Volumes) (v : Id) (vs : List Id) → (o : IsOpenable i x v vs) → FirstIs (records_of i x) (record_checks o.volumes) None
passed i x v vs o =
    all_pass (records_of i x) o.volumes
    (parents_pass (records_of i x) o.volumes (λ w h e bad. let has = whole.texts i x v vs bad.0 o (whole.parents_inside i x v vs w bad.0 o bad.1.0) in none-some has.0 (sym bad.1.1 ∙ has.1)))
    (λ ring_there. o.passes ring (asks_ring o.volumes path) (ChainTooLong 0) (ring_there, refl))
    (values_pass (records_of i x) o.volumes (λ w h e bad. o.passes (format w) (asks_format o.volumes path w h) e bad) (λ w h e bad. o.passes (capacity w) (asks_capacity o.volumes path w h) e bad))
    (λ none. none v vs o.reads)
  where
    path : List Id
    path = path_of (records_of i x) v vs

some_after : (r : Records) (v : Id) (o a : Option VolumeRecord) (y : VolumeRecord) → (a ≡ o) ⊎ IsRewritten r v o a → o ≡ Some y → (z : VolumeRecord) × (a ≡ Some z)
some_after r v o a y (inl same) e = (y, same ∙ e)
some_after r v None a y (inr is) e = absurd (none-some y e)
some_after r v (Some q) a y (inr is) e = (record q { parent = is.0; voltype = is.1 }, is.2)

-- the parent that a record names, zeros standing for none
parent_shown : (z : VolumeRecord) → unwrap_or (parent_in z) zero_id ≡ z.parent
parent_shown z = go (id_is z.parent zero_id) refl
  where
    go : (b : Bool) → id_is z.parent zero_id ≡ b → unwrap_or (if b then None else Some z.parent) zero_id ≡ z.parent
    go true e = sym (id_is-same z.parent zero_id e)
    go false e = refl

-- a check of two for each volume is of one of the volumes
record Among (vs : List Id) (c : Check) : Type 0 where
  volume : Id
  inside : Contains vs volume
  is : (c ≡ layer volume) ⊎ (c ≡ header volume)

among : (vs : List Id) (c : Check) → Contains (both layer header vs) c → Among vs c
among [] c h = absurd (nothing_in c h)
among (v ∷ vs) c h = first (cons_cases (layer v) c (header v ∷ both layer header vs) h) (λ more. among vs c more)
  where
    second : (header v ≡ c) ⊎ Contains (both layer header vs) c → (Contains (both layer header vs) c → Among vs c) → Among (v ∷ vs) c
    second (inl same) rest = record { volume = v; inside = contains_here v vs; is = inr (sym same) }
    second (inr more) rest = let later = rest more in record { volume = later.volume; inside = contains_more v later.volume vs later.inside; is = later.is }

    first : (layer v ≡ c) ⊎ Contains (header v ∷ both layer header vs) c → (Contains (both layer header vs) c → Among vs c) → Among (v ∷ vs) c
    first (inl same) rest = record { volume = v; inside = contains_here v vs; is = inl (sym same) }
    first (inr more) rest = second (cons_cases (header v) c (both layer header vs) more) rest

-- the files of an image as crashes may leave them
pub record AreLeft (dir : Dir) (d : Content) (y : Volumes) : Type 0 where
  pub texts : (v : Id) → y.text v ≡ d.file (text_in dir v)
  pub files : (v : Id) → IsAlso IsFileOutcome (d.file (file_in dir v)) (y.file v)

module _ (i : Image) (dir : Dir) (x : Volumes) (d : Content) (y : Volumes) (v : Id) (vs : List Id) (alike : ReadsAlike i dir (records_of i x) x d) (opens : OpensAlike i dir (records_of i x) x d) (left : AreLeft dir d y) (o : IsOpenable i x v vs) where
  abbrev r : Records
  r = records_of i x

  abbrev s : Records
  s = records_of i y

  other : VolumeRecord
  other = (legal_record (r v) o.reads.legal).0

  said : (w : Id) → s w ≡ records_of i (volumes_in dir d) w
  said w = ap (λ (f : Option File). says_by i f) (left.texts w)

  partly : ArePartlyRewritten r s
  partly w = subst (λ (a : Option VolumeRecord). (a ≡ r w) ⊎ IsRewritten r w (r w) a) (sym (said w)) (alike.partly w)

  -- ---- the same volumes, each with a record and its file

  same_there : (w : Id) → is_volume y w ≡ is_volume x w
  same_there w = ap (λ (f : Option File). is_some f) (left.texts w) ∙ also_there (λ f g. IsSettled g) (x.text w) (d.file (text_in dir w)) (alike.texts w)

  are : AreVolumes y o.volumes
  are = record { rising = o.are.rising; each = λ w h. same_there w ∙ o.are.each w h; all = λ w is. o.are.all w (sym (same_there w) ∙ is) }

  texts : (w : Id) → is_volume y w ≡ true → (z : VolumeRecord) × (s w ≡ Some z)
  texts w is = let was = whole.texts i x v vs w o (sym (same_there w) ∙ is) in some_after r w (r w) (s w) was.0 (partly w) was.1

  -- what is said of each outcome of a file holds of the file that is left
  file_left : (w : Id) (R : File → File → Type 0) → IsAlso (λ f g. OnEach g (R f)) (x.file w) (d.file (file_in dir w)) → IsAlso R (x.file w) (y.file w)
  file_left w R also = go (x.file w) (d.file (file_in dir w)) (y.file w) also (left.files w)
    where
      go : (t f g : Option File) → IsAlso (λ f g. OnEach g (R f)) t f → IsAlso IsFileOutcome f g → IsAlso R t g
      go None None None also is = tt
      go None None (Some g) also is = absurd is
      go None (Some f) g also is = absurd also
      go (Some t) None g also is = absurd also
      go (Some t) (Some f) None also is = absurd is
      go (Some t) (Some f) (Some g) also is = also g is

  files : (w : Id) → is_volume y w ≡ true → (f : File) × (y.file w ≡ Some f)
  files w is =
      let was = whole.files i x v vs w o (sym (same_there w) ∙ is) in
      let also = also_some (HoldsAlike (r w)) (x.file w) (y.file w) was.0 (file_left w (HoldsAlike (r w)) (alike.files w)) was.1 in
      (also.0, also.1)

  few : length o.volumes ≤ 32
  few = whole.few i x v vs o.volumes o o.are

  -- ---- the records pass

  abbrev before : List Volume
  before = listed i x other o.volumes o.are few (λ w is. whole.texts i x v vs w o is) (λ w is. whole.files i x v vs w o is)

  abbrev now : List Volume
  now = listed i y other o.volumes are few texts files

  same_before : r ≡ records_in before
  same_before = records_listed i x other o.volumes o.are few (λ w is. whole.texts i x v vs w o is) (λ w is. whole.files i x v vs w o is)

  same_now : s ≡ records_in now
  same_now = records_listed i y other o.volumes are few texts files

  ids_before : ids_of before ≡ o.volumes
  ids_before = ids_listed r other o.volumes

  ids_now : ids_of now ≡ o.volumes
  ids_now = ids_listed s other o.volumes

  pass_before : FirstIs (records_in before) (record_checks (ids_of before)) None
  pass_before =
      subst (λ (us : List Id). FirstIs (records_in before) (record_checks us) None) (sym ids_before)
      (subst (λ (q : Records). FirstIs q (record_checks o.volumes) None) same_before (passed i x v vs o))

  pass_now : FirstIs (records_in now) (record_checks (ids_of now)) None
  pass_now =
      subst (λ (us : List Id). FirstIs (records_in now) (record_checks us) None) (ids_before ∙ sym ids_now)
      (subst (λ (q : Records). FirstIs q (record_checks (ids_of before)) None) same_now
      (pass_again before s (subst (λ (q : Records). ArePartlyRewritten q s) same_before partly) pass_before))

  -- ---- the path is the same

  pub still : (ws : List Id) × IsReading s v ws
  still = reading_alike r s v vs partly o.reads

  pub path : path_of s v still.0 ≡ path_of r v vs
  path = path_alike r s v vs still.0 partly o.reads.below still.1.below

  -- ---- its layers pass

  layer_passes : (w : Id) (e : Refusal) → Contains (path_of r v vs) w → IsBadLayer y s w e → ⊥
  layer_passes w e on bad = go (r w) refl was (x.file w) refl (file_left w (StaysSound (r w)) (opens.sound w))
    where
      was : Rewritten (r w) (s w) bad.0
      was = record_was r w (r w) (s w) bad.0 (partly w) bad.1

      at : (q : VolumeRecord) → r w ≡ Some q → (t : File) → x.file w ≡ Some t → bad.0.format ≡ q.format → bad.0.capacity ≡ q.capacity → StaysSound (Some q) t bad.3 → ⊥
      at q is t there fmt cap stays =
          let cow = sym fmt ∙ bad.2 in
          let sound = stays cow (whole.layers i x v vs w q t o on is cow there) in
          none_of_sound (file_of bad.3.size bad.3.stable) q.capacity bad.5 sound (subst (λ (n : ℕ). HasFault (file_of bad.3.size bad.3.stable) n bad.5) cap bad.6)

      go : (q : Option VolumeRecord) → r w ≡ q → Rewritten q (s w) bad.0 → (t : Option File) → x.file w ≡ t → IsAlso (StaysSound q) t (y.file w) → ⊥
      go None e1 w1 t e2 also = none-some w1.was w1.is
      go (Some q) e1 w1 t e2 also = file t e2 (subst (λ (f : Option File). IsAlso (StaysSound (Some q)) t f) bad.4 also)
        where
          same : w1.was ≡ q
          same = same_Some w1.was q (sym w1.is)

          file : (t : Option File) → x.file w ≡ t → IsAlso (StaysSound (Some q)) t (Some bad.3) → ⊥
          file None e3 a = absurd a
          file (Some t) e3 a = at q e1 t e3 (w1.format ∙ ap (λ (z : VolumeRecord). z.format) same) (w1.capacity ∙ ap (λ (z : VolumeRecord). z.capacity) same) a

  header_passes : (w : Id) (e : Refusal) → Contains (path_of r v vs) w → IsBadName y s w e → ⊥
  header_passes w e on bad = go names.2
    where
      was : Rewritten (r w) (s w) bad.0
      was = record_was r w (r w) (s w) bad.0 (partly w) bad.1

      below : (us : List Id) × IsBelow r w us
      below = whole.chains i x v vs w o

      file : (t : File) × (x.file w ≡ Some t)
      file = whole.files i x v vs w o (text_there _ (x.text w) was.was was.is)

      text : Option Id
      text = parent (records_of i (volumes_in dir d)) w

      names : (g : File) × (y.file w ≡ Some g) × NamesAlike r w text file.0 g
      names =
          also_some (NamesAlike r w text) (x.file w) (y.file w) file.0
          (file_left w (NamesAlike r w text) (opens.names (path_of r v vs) w (v, vs, o.reads, refl) on)) file.1

      named : named_by_header y s w ≡ unwrap_or (named_in (r w) names.0) zero_id
      named = ap (λ (a : Option Id). unwrap_or a zero_id) (name_alike r s y w partly ∙ ap (λ (f : Option File). backing_by_record (r w) f) names.1)

      -- both records name the same parent, where the text wasn't rewritten
      same_parent : text ≡ parent r w → was.was.parent ≡ bad.0.parent
      same_parent same =
          sym (parent_shown was.was)
          ∙ ap (λ (a : Option Id). unwrap_or a zero_id)
          (ap (λ (a : Option VolumeRecord). parent_by a) (sym was.is) ∙ sym same ∙ ap (λ (a : Option VolumeRecord). parent_by a) (sym (said w)) ∙ ap (λ (a : Option VolumeRecord). parent_by a) bad.1)
          ∙ parent_shown bad.0

      go : NamesAlike r w text file.0 names.0 → ⊥
      go (inr up) =
          let ups : up_of s bad.3 ≡ Some up.0 = up_alike r s w up.1.0 bad.3 partly up.1.1 bad.4 ∙ up.1.2 in
          bad.6 (named ∙ ap (λ (a : Option Id). unwrap_or a zero_id) (up.2 ∙ sym ups))
      go (inl same) = by (whole.headers i x v vs w below.0 was.was o on was.is (sym was.format ∙ bad.2) below.1)
        where
          as_before : named_by_header y s w ≡ named_by_header x r w
          as_before = named ∙ ap (λ (a : Option Id). unwrap_or a zero_id) (same.1 ∙ ap (λ (f : Option File). backing_by_record (r w) f) (sym file.1))

          by : (named_by_header x r w ≡ was.was.parent) ⊎ (named_by_header x r w ≡ unwrap_or (up_of r below.0) zero_id) → ⊥
          by (inl e1) = bad.5 (as_before ∙ e1 ∙ same_parent same.0)
          by (inr e2) = bad.6 (as_before ∙ e2 ∙ ap (λ (a : Option Id). unwrap_or a zero_id) (sym (up_alike r s w below.0 bad.3 partly below.1 bad.4)))

  layers_pass : (c : Check) → Contains (both layer header (path_of (records_in now) v still.0)) c → (e : Refusal) → Refuses i y (ids_of now) c e → ⊥
  layers_pass c h e bad = go at.is
    where
      inside : Contains (both layer header (path_of r v vs)) c
      inside = subst (λ (us : List Id). Contains (both layer header us) c) (ap (λ (q : Records). path_of q v still.0) (sym same_now) ∙ path) h

      at : Among (path_of r v vs) c
      at = among (path_of r v vs) c inside

      go : (c ≡ layer at.volume) ⊎ (c ≡ header at.volume) → ⊥
      go (inl same) = layer_passes at.volume e at.inside (subst (λ (z : Check). Refuses i y (ids_of now) z e) same bad)
      go (inr same) = header_passes at.volume e at.inside (subst (λ (z : Check). Refuses i y (ids_of now) z e) same bad)

  pub opens_again : IsOpenable i y v still.0
  opens_again =
      opened_by_records i y now v still.0 (shown i y other o.volumes are few texts files) pass_now (subst (λ (q : Records). IsReading q v still.0) same_now still.1) layers_pass

-- ---- on each outcome, and once it is settled

outcome_left : (i : Image) (dir : Dir) (r : Records) (x : Volumes) (d o : Content) → ReadsAlike i dir r x d → IsOutcome d o → AreLeft dir d (volumes_in dir o)
outcome_left i dir r x d o alike out = record { texts = λ v. text_on i dir r x d o alike out v; files = λ v. out.files (file_in dir v) }

pub cut_opens : (i : Image) (dir : Dir) (x : Volumes) (d o : Content) (v : Id) (vs : List Id) → ReadsAlike i dir (records_of i x) x d → OpensAlike i dir (records_of i x) x d → IsOutcome d o → IsOpenable i x v vs
    → (ws : List Id) × IsOpenable i (volumes_in dir o) v ws × (path_of (records_of i (volumes_in dir o)) v ws ≡ path_of (records_of i x) v vs)
cut_opens i dir x d o v vs alike opens out openable =
    let left = outcome_left i dir (records_of i x) x d o alike out in (
      (still i dir x d (volumes_in dir o) v vs alike opens left openable).0,
      opens_again i dir x d (volumes_in dir o) v vs alike opens left openable,
      path i dir x d (volumes_in dir o) v vs alike opens left openable,
    )

-- a file in which nothing is unsynced is an outcome of itself
settled_left : (dir : Dir) (d : Content) → AreSettled dir d → AreLeft dir d (volumes_in dir d)
settled_left dir d settled = record { texts = λ v. refl; files = λ v. file v (d.file (file_in dir v)) refl }
  where
    file : (v : Id) (o : Option File) → d.file (file_in dir v) ≡ o → IsAlso IsFileOutcome o o
    file v None e = tt
    file v (Some f) e = settled_itself f (settled (Data v) f e)

pub settled_open : (c : Chain) (host : ℕ) (x : Volumes) (d : Content) (v : Id) (vs : List Id) → IsSettledImage c host (records_of (image_kept c) x) x d → AreValid c → IsOpenable (image_kept c) x v vs → IsOpen c host d
settled_open c host x d v vs k valid openable = record {
  settled = settled;
  volume = v;
  below = (still i dir x d (volumes_in dir d) v vs k.image.alike k.image.opens left openable).0;
  openable = opens_again i dir x d (volumes_in dir d) v vs k.image.alike k.image.opens left openable;
  path =
      one_path (records_of i x) (path_in c) (path_of (records_of i x) v vs) (inl k.image.was.reading) (inl (v, vs, openable.reads, refl))
      ∙ sym (path i dir x d (volumes_in dir d) v vs k.image.alike k.image.opens left openable);
  knows = chain_known c host (records_of i x) x d k valid;
}
  where
    i : Image
    i = image_kept c

    dir : Dir
    dir = folder_in c

    settled : AreSettled dir d
    settled = all_settled c host (records_of i x) x d k

    left : AreLeft dir d (volumes_in dir d)
    left = settled_left dir d settled
