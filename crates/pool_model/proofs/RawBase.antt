-- The files of a new raw volume mean an image of one volume of zeros.
use Rattle.std.proofs.Common.{◌≡◌, ◌⊎◌, ℕ, ◌*◌, ◌<◌, Bool, true, false, List, [], ◌∷◌, Option, Some, None, Result, Ok, refl, sym, ap, subst, ◌∙◌, inl, inr, arith}
use Rattle.std.specs.Prelude.{◌≢◌, Contains, if◌then◌else◌, nat_lt, option_and_then, replicate, unwrap_or}
use Rattle.std.specs.Option.{is_some, option_map}
use Rattle.std.specs.List.Sorted.{IsStrictlySortedBy}
use Rattle.std.proofs.lemmas.Bool.{false≢true, ltb-true}
use Rattle.sd_names.specs.Id.{zero_id}
use Rattle.sd_names.specs.declared.fault.VolumeFault.{VolumeFault}
use Rattle.sd_names.specs.declared.id.Id.{Id}
use Rattle.sd_names.specs.declared.kinds.Format.{Format}
use Rattle.sd_names.specs.declared.kinds.Format.TheVariants.{Raw, Cow}
use Rattle.sd_names.specs.declared.kinds.VolType.TheVariants.{Leaf}
use Rattle.sd_names.specs.declared.place.Name.TheVariants as name
use Rattle.sd_names.specs.declared.refusal.Refusal.{Refusal}
use Rattle.shared_disk.specs.Content.{File, zero_sector}
use Rattle.shared_disk.specs.Places.{id_is}
use Rattle.shared_disk.proofs.Outcomes.{contains_here, cons_cases, nothing_in}
use Rattle.shared_disk.proofs.Places.{id_is-itself, id_is-same}
use Rattle.volume_meta.specs.Read.{read_volume}
use Rattle.volume_meta.specs.declared.record.VolumeRecord.{VolumeRecord}
use Rattle.chain_model.specs.Chain.{HasAncestor, IsBelow, farther, nearest}
use Rattle.chain_model.specs.Flat.{flat}
use Rattle.chain_model.specs.Folder.{Folder, Volumes, volumes_of}
use Rattle.chain_model.specs.Headers.{backing, backing_by_record, backing_in}
use Rattle.chain_model.specs.Opening.{AreVolumes, Check, IsBadText, IsOpenable, Refuses, checks, id_cmp}
use Rattle.chain_model.specs.Own.{own_by, own_in, sector_by_format, sectors_of}
use Rattle.chain_model.specs.Reading.{IsReading}
use Rattle.chain_model.specs.Records.{Image as ImageIn, holds_in, is_legal, is_volume, legal_in, parent, parent_in, record_in, records_of, stored_text, text_of}
use Rattle.chain_model.specs.Up.{up_of}
use Rattle.chain_model.proofs.Chains.{no_id, one_below, up_counts}
use Rattle.chain_model.proofs.Settled.{is_one}
use Rattle.pool_model.specs.ImageStands.{FolderMeans, IsVolume, ReadsWhole, SaysAs, VolumeAt, flat_in, flats_in, room_at, room_by_format, settled_record}
use Rattle.pool_model.specs.Laws.{HoldsRawBase}
use Rattle.pool_model.specs.Made.{base_image, base_volume, made_length, room_made}
use Rattle.pool_model.proofs.Flats.{legal_by}
use Rattle.pool_model.proofs.Settled.{settled_means}

-- ---- what the texts say

text_here : (i : ImageIn) (F : Folder) (v : Id) (y : VolumeRecord) → HoldsRawBase i F v y → text_of i (volumes_of F) v ≡ Some (Ok y)
text_here i F v y h =
    ap (λ (o : Option File). option_map (λ f. read_volume i.version i.domain i.id (stored_text f)) o) h.text_is
    ∙ ap (λ (r : Result VolumeRecord VolumeFault). Some r) h.reads

pub record_here : (i : ImageIn) (F : Folder) (v : Id) (y : VolumeRecord) → HoldsRawBase i F v y → records_of i (volumes_of F) v ≡ Some y
record_here i F v y h = ap (λ (t : Option (Result VolumeRecord VolumeFault)). option_and_then record_in t) (text_here i F v y h)

record_elsewhere : (i : ImageIn) (F : Folder) (v w : Id) (y : VolumeRecord) → HoldsRawBase i F v y → w ≢ v → records_of i (volumes_of F) w ≡ None
record_elsewhere i F v w y h other =
    ap (λ (o : Option File). option_and_then record_in (option_map (λ f. read_volume i.version i.domain i.id (stored_text f)) o)) (h.others w other)

none_some : {A : Type 0} (o : Option A) (a : A) → o ≡ None → o ≡ Some a → ⊥
none_some o a e f = cc

-- the volume is the only one with a record
only_record : (i : ImageIn) (F : Folder) (v w : Id) (y z : VolumeRecord) → HoldsRawBase i F v y → records_of i (volumes_of F) w ≡ Some z → w ≡ v
only_record i F v w y z h e = go (is_one w v)
  where
    go : (w ≡ v) ⊎ (w ≢ v) → w ≡ v
    go (inl same) = same
    go (inr other) = absurd (none_some (records_of i (volumes_of F) w) z (record_elsewhere i F v w y h other) e)

no_parent : (y : VolumeRecord) → y.parent ≡ zero_id → parent_in y ≡ None
no_parent y e = ap (λ (q : Id). if id_is q zero_id then None else Some q) e ∙ ap (λ (b : Bool). if b then None else Some zero_id) (id_is-itself zero_id)

orphan : (i : ImageIn) (F : Folder) (v w : Id) (y : VolumeRecord) → HoldsRawBase i F v y → parent (records_of i (volumes_of F)) w ≡ None
orphan i F v w y h = go (is_one w v)
  where
    go : (w ≡ v) ⊎ (w ≢ v) → parent (records_of i (volumes_of F)) w ≡ None
    go (inl same) =
        ap (λ (u : Id). parent (records_of i (volumes_of F)) u) same
        ∙ ap (λ (o : Option VolumeRecord). option_and_then parent_in o) (record_here i F v y h) ∙ no_parent y h.base
    go (inr other) = ap (λ (o : Option VolumeRecord). option_and_then parent_in o) (record_elsewhere i F v w y h other)

-- ---- it can be opened

one_rises : (v : Id) → IsStrictlySortedBy id_cmp (v ∷ [])
unfolding IsStrictlySortedBy
one_rises v = (tt, tt)

some_here : (o : Option File) (f : File) → o ≡ Some f → is_some o ≡ true
some_here o f e = ap (λ (p : Option File). is_some p) e

volumes_are : (i : ImageIn) (F : Folder) (v : Id) (y : VolumeRecord) → HoldsRawBase i F v y → AreVolumes (volumes_of F) (v ∷ [])
volumes_are i F v y h = record {
  rising = one_rises v;
  each = λ w among. each w (cons_cases v w [] among);
  all = λ w is. all w is (is_one w v);
}
  where
    each : (w : Id) → (v ≡ w) ⊎ Contains [] w → is_volume (volumes_of F) w ≡ true
    each w (inl same) = subst (λ (u : Id). is_volume (volumes_of F) u ≡ true) same (some_here (F (name.Meta v)) h.text h.text_is)
    each w (inr rest) = absurd (nothing_in w rest)

    all : (w : Id) → is_volume (volumes_of F) w ≡ true → (w ≡ v) ⊎ (w ≢ v) → Contains (v ∷ []) w
    all w is (inl same) = subst (λ (u : Id). Contains (v ∷ []) u) (sym same) (contains_here v [])
    all w is (inr other) = absurd (false≢true (sym (ap (λ (p : Option File). is_some p) (h.others w other)) ∙ is))

legal_here : (i : ImageIn) (F : Folder) (v : Id) (y : VolumeRecord) → HoldsRawBase i F v y → is_legal (records_of i (volumes_of F)) v ≡ true
legal_here i F v y h = ap (λ (o : Option VolumeRecord). holds_in legal_in o) (record_here i F v y h) ∙ legal_by y h.legal

is_reading : (i : ImageIn) (F : Folder) (v : Id) (y : VolumeRecord) → HoldsRawBase i F v y → IsReading (records_of i (volumes_of F)) v []
is_reading i F v y h = record { below = orphan i F v v y h; legal = legal_here i F v y h; all = λ u legal. all u legal (is_one u v) }
  where
    all : (u : Id) → is_legal (records_of i (volumes_of F)) u ≡ true → (u ≡ v) ⊎ (u ≢ v) → Contains (v ∷ []) u
    all u legal (inl same) = subst (λ (w : Id). Contains (v ∷ []) w) (sym same) (contains_here v [])
    all u legal (inr other) =
        absurd (false≢true (sym (ap (λ (o : Option VolumeRecord). holds_in legal_in o) (record_elsewhere i F v u y h other)) ∙ legal))

-- ---- no check refuses it

not_raw : (f : Format) → f ≡ Raw → f ≡ Cow → ⊥
not_raw f e g = cc

same_record : (o : Option VolumeRecord) (a b : VolumeRecord) → o ≡ Some a → o ≡ Some b → a ≡ b
same_record o a b e f = cc

no_layer : (i : ImageIn) (F : Folder) (v : Id) (y z : VolumeRecord) → HoldsRawBase i F v y → records_of i (volumes_of F) v ≡ Some z → z.format ≡ Cow → ⊥
no_layer i F v y z h e cow =
    not_raw y.format h.format (ap (λ (x : VolumeRecord). x.format) (same_record (records_of i (volumes_of F) v) y z (record_here i F v y h) e) ∙ cow)

no_ancestor : (i : ImageIn) (F : Folder) (v w u : Id) (y : VolumeRecord) → HoldsRawBase i F v y → HasAncestor (records_of i (volumes_of F)) w u → ⊥
no_ancestor i F v w u y h (nearest e) = no_id (parent (records_of i (volumes_of F)) w) u (orphan i F v w y h) e
no_ancestor i F v w u y h (farther {w = m} e more) = no_id (parent (records_of i (volumes_of F)) w) m (orphan i F v w y h) e

none_up : (i : ImageIn) (F : Folder) (v w : Id) (y : VolumeRecord) (vs : List Id) → HoldsRawBase i F v y → IsBelow (records_of i (volumes_of F)) v vs
    → up_of (records_of i (volumes_of F)) vs ≡ Some w → ⊥
none_up i F v w y [] h below e = no_id (up_of (records_of i (volumes_of F)) []) w refl e
none_up i F v w y (u ∷ us) h below e = no_id (parent (records_of i (volumes_of F)) v) u (orphan i F v v y h) below.0

abbrev Never : ImageIn → Volumes → List Id → Check → Type 0
Never i x vs c = (e : Refusal) → Refuses i x vs c e → ⊥

abbrev NoneOf : ImageIn → Volumes → List Id → List Check → Type 0
NoneOf i x vs [] = Unit {0}
NoneOf i x vs (c ∷ cs) = Never i x vs c × NoneOf i x vs cs

none_in : (i : ImageIn) (x : Volumes) (vs : List Id) (cs : List Check) (c : Check) → NoneOf i x vs cs → Contains cs c → Never i x vs c
none_in i x vs [] c none among = absurd (nothing_in c among)
none_in i x vs (d ∷ ds) c none among = go (cons_cases d c ds among) (λ rest. none_in i x vs ds c none.1 rest)
  where
    go : (d ≡ c) ⊎ Contains ds c → (Contains ds c → Never i x vs c) → Never i x vs c
    go (inl same) more = subst (λ (k : Check). Never i x vs k) same none.0
    go (inr rest) more = more rest

passes : (i : ImageIn) (F : Folder) (v : Id) (y : VolumeRecord) → HoldsRawBase i F v y → (c : Check) → Contains (checks (v ∷ []) (v ∷ [])) c → (e : Refusal)
    → Refuses i (volumes_of F) (v ∷ []) c e → ⊥
passes i F v y h c among = none_in i (volumes_of F) (v ∷ []) (checks (v ∷ []) (v ∷ [])) c (
  (λ e r. omega (arith, r.0)),
  (
    (λ e r. subst (λ (t : Option (Result VolumeRecord VolumeFault)). IsBadText v t e) (text_here i F v y h) r),
    (
      (λ e r. none_some (F (name.Volume v)) h.file r.0 h.file_is),
      (
        (λ e r. no_id (parent (records_of i (volumes_of F)) v) r.0 (orphan i F v v y h) r.1),
        (
          (λ e r. no_ancestor i F v r.0.0 r.0.0 y h r.0.1),
          (
            (λ e r. r.3 (orphan i F v v y h)),
            (
              (λ e r. none_up i F v r.5 y r.3 h r.4 r.6),
              (
                (λ e r. r.0 v [] (is_reading i F v y h)),
                ((λ e r. no_layer i F v y r.0 h r.1 r.2), ((λ e r. no_layer i F v y r.0 h r.1 r.2), tt)),
              ),
            ),
          ),
        ),
      ),
    ),
  ),
)
    among

openable : (i : ImageIn) (F : Folder) (v : Id) (y : VolumeRecord) → HoldsRawBase i F v y → IsOpenable i (volumes_of F) v []
openable i F v y h = record {
  volumes = v ∷ [];
  are = volumes_are i F v y h;
  reads = is_reading i F v y h;
  passes = passes i F v y h;
}

-- ---- and reads as zeros

in_file : (f : File) (k : ℕ) (b : Bool) → ((j : ℕ) → j < f.size → f.stable j ≡ zero_sector) → nat_lt k f.size ≡ b
    → (if b then f.stable k else replicate 512 0) ≡ zero_sector
unfolding zero_sector
in_file f k true zeros e = zeros k (ltb-true k f.size e)
in_file f k false zeros e = refl

by_capacity : (y : VolumeRecord) (f : File) (k : ℕ) (b : Bool) → y.format ≡ Raw → ((j : ℕ) → j < f.size → f.stable j ≡ zero_sector)
    → unwrap_or (if b then sector_by_format y.format y f k else None) zero_sector ≡ zero_sector
by_capacity y f k false raw zeros = refl
by_capacity y f k true raw zeros =
    ap (λ (o : Format). unwrap_or (sector_by_format o y f k) zero_sector) raw ∙ in_file f k (nat_lt k f.size) zeros refl

own_zeros : (y : VolumeRecord) (f : File) (k : ℕ) → y.format ≡ Raw → ((j : ℕ) → j < f.size → f.stable j ≡ zero_sector)
    → unwrap_or (own_in y f k) zero_sector ≡ zero_sector
unfolding own_in
own_zeros y f k raw zeros = by_capacity y f k (nat_lt k (sectors_of y)) raw zeros

zero_read : (i : ImageIn) (F : Folder) (v : Id) (y : VolumeRecord) (k : ℕ) → HoldsRawBase i F v y
    → flat (records_of i (volumes_of F)) (volumes_of F) v [] k ≡ zero_sector
zero_read i F v y k h =
    ap (λ (o : Option VolumeRecord). unwrap_or (own_by o (F (name.Volume v)) k) zero_sector) (record_here i F v y h)
    ∙ ap (λ (o : Option File). unwrap_or (own_by (Some y) o k) zero_sector) h.file_is ∙ own_zeros y h.file k h.format h.zeros

flats_zero : (v u : Id) (y : VolumeRecord) (k : ℕ) → flats_in (base_image y v) u k ≡ zero_sector
flats_zero v u y k = go (id_is u v)
  where
    go : (b : Bool) → flat_in (if b then Some (base_volume y) else None) k ≡ zero_sector
    go true = refl
    go false = refl

no_backing : (i : ImageIn) (F : Folder) (v : Id) (y : VolumeRecord) → HoldsRawBase i F v y → backing (records_of i (volumes_of F)) (volumes_of F) v ≡ None
no_backing i F v y h =
    ap (λ (o : Option VolumeRecord). backing_by_record o (F (name.Volume v))) (record_here i F v y h)
    ∙ ap (λ (o : Option File). backing_by_record (Some y) o) h.file_is ∙ ap (λ (f : Format). backing_in f y h.file) h.format

reads_zeros : (i : ImageIn) (F : Folder) (v : Id) (y : VolumeRecord) → HoldsRawBase i F v y → ReadsWhole i (volumes_of F) (base_image y v)
reads_zeros i F v y h = record {
  reading = v;
  below = [];
  opens = openable i F v y h;
  flats = flats_in (base_image y v);
  here = refl;
  others = λ u other. refl;
  read = λ u us legal below k within.
      let same = only_record i F v u y within.0 h within.1 in
      ap (λ (ws : List Id). flat (records_of i (volumes_of F)) (volumes_of F) u ws k) (one_below (records_of i (volumes_of F)) u us [] below
      (orphan i F v u y h))
      ∙ ap (λ (w : Id). flat (records_of i (volumes_of F)) (volumes_of F) w [] k) same ∙ zero_read i F v y k h ∙ sym (flats_zero v u y k);
  backed = [];
  by_headers = no_backing i F v y h;
  alike = λ k. refl;
}

settled_alike : (y : VolumeRecord) → y.parent ≡ zero_id → y.voltype ≡ Leaf → y ≡ settled_record None y
settled_alike y base leaf j = record y { parent = base j; voltype = leaf j }

volume_here : (i : ImageIn) (F : Folder) (v : Id) (y : VolumeRecord) → HoldsRawBase i F v y → IsVolume i (volumes_of F) (base_image y v) v (base_volume y)
volume_here i F v y h = record {
  says = subst (λ (t : Option (Result VolumeRecord VolumeFault)). SaysAs (records_of i (volumes_of F)) v t (Ok y)) (sym (text_here i F v y h))
      (None, up_counts (records_of i (volumes_of F)) v [] (orphan i F v v y h), ap (λ (z : VolumeRecord). Ok z) (settled_alike y h.base h.leaf));
  length = ap (λ (f : Format). Some (made_length f y.capacity)) h.format ∙ ap (λ (n : ℕ). Some n) h.size
      ∙ sym (ap (λ (o : Option File). option_map (λ (f : File). 512 * f.size) o) h.file_is);
  room = ap (λ (o : Option VolumeRecord). room_at o (F (name.Volume v))) (record_here i F v y h) ∙ ap (λ (o : Option File). room_at (Some y) o) h.file_is
      ∙ ap (λ (f : Format). room_by_format f y h.file) h.format ∙ sym (ap (λ (f : Format). room_made f) h.format);
}

volume_is : (i : ImageIn) (F : Folder) (v w : Id) (y : VolumeRecord) → HoldsRawBase i F v y
    → VolumeAt i (volumes_of F) (base_image y v) w ((base_image y v).volume w)
volume_is i F v w y h = go (id_is w v) refl
  where
    go : (b : Bool) → id_is w v ≡ b → VolumeAt i (volumes_of F) (base_image y v) w (if b then Some (base_volume y) else None)
    go true e = subst (λ (u : Id). IsVolume i (volumes_of F) (base_image y v) u (base_volume y)) (sym (id_is-same w v e)) (volume_here i F v y h)
    go false e = h.others w (λ same. false≢true (sym e ∙ subst (λ (u : Id). id_is w u ≡ true) same (id_is-itself w)))

pub raw_means : (i : ImageIn) (F : Folder) (v : Id) (y : VolumeRecord) → HoldsRawBase i F v y → FolderMeans i (base_image y v) F
raw_means i F v y h = settled_means i (base_image y v) F h.settled (record { volumes = λ w. volume_is i F v w y h; opens = reads_zeros i F v y h })
