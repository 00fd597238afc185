-- A made image can be opened, and reads as zeros.
use Rattle.std.proofs.Common.{◌≡◌, ◌⊎◌, ℕ, Bool, true, false, List, [], ◌∷◌, Option, Some, None, Result, Ok, Err, refl, sym, ap, subst, ◌∙◌, inl, inr, arith}
use Rattle.std.specs.Prelude.{◌≢◌, Contains, MatchResult, if◌then◌else◌, nat_lt, option_and_then, replicate, unwrap_or}
use Rattle.std.specs.Option.{is_some, option_map}
use Rattle.std.specs.List.Sorted.{IsStrictlySortedBy}
use Rattle.std.proofs.lemmas.Bool.{false≢true}
use Rattle.sd_names.specs.Id.{zero_id}
use Rattle.sd_names.specs.declared.fault.LayerFault.{LayerFault}
use Rattle.sd_names.specs.declared.fault.VolumeFault.{VolumeFault}
use Rattle.sd_names.specs.declared.id.Id.{Id}
use Rattle.sd_names.specs.declared.kinds.Format.{Format}
use Rattle.sd_names.specs.declared.kinds.Format.TheVariants.{Raw, Cow}
use Rattle.sd_names.specs.declared.kinds.Legality.{Legality}
use Rattle.sd_names.specs.declared.kinds.Legality.TheVariants.{Legal, Illegal}
use Rattle.sd_names.specs.declared.place.Name.TheVariants as name
use Rattle.sd_names.specs.declared.refusal.Refusal.{Refusal}
use Rattle.shared_disk.specs.Content.{Content, File, zero_sector}
use Rattle.shared_disk.specs.Places.{id_is}
use Rattle.shared_disk.proofs.Outcomes.{contains_here, cons_cases, nothing_in}
use Rattle.shared_disk.proofs.Places.{id_is-itself}
use Rattle.qcow_format.specs.declared.entry.Entry.{Entry}
use Rattle.qcow_format.specs.declared.entry.Entry.TheVariants.{Absent}
use Rattle.qcow_format.specs.declared.header.Header.{Header}
use Rattle.image_model.specs.File.{File as LayerFile, file_of}
use Rattle.image_model.specs.Soundness.{FirstFault, HasFault, IsClean, IsSound, layer_header}
use Rattle.image_model.proofs.Faults.{clean_without_fault}
use Rattle.layer_creating.specs.New.{IsNewLayer, new_sector}
use Rattle.layer_creating.specs.Says.{SaysNew}
use Rattle.layer_creating.proofs.New.{new_layer_says}
use Rattle.volume_meta.specs.Read.{read_volume}
use Rattle.volume_meta.specs.declared.record.VolumeRecord.{VolumeRecord}
use Rattle.volume_texts.specs.Legible.{HasRecord}
use Rattle.volume_texts.proofs.ReadBack.{has_record}
use Rattle.chain_model.specs.Chain.{HasAncestor, IsBelow, farther, nearest}
use Rattle.chain_model.specs.Flat.{flat}
use Rattle.chain_model.specs.Folder.{Volumes}
use Rattle.chain_model.specs.Headers.{backing, backing_by, backing_by_record, backing_in}
use Rattle.chain_model.specs.Opening.{AreVolumes, Check, IsBadText, IsOpenable, Refuses, capacity, checks, format, header, id_cmp, layer, reading, ring}
use Rattle.chain_model.specs.Own.{own_by, own_in, sector_behind, sector_by_format, sector_by_header, sectors_of}
use Rattle.chain_model.specs.Reading.{IsReading}
use Rattle.chain_model.specs.Records.{holds_in, is_legal, is_volume, legal_in, parent, parent_in, record_in, records_of, stored_text, text_of}
use Rattle.chain_model.specs.Up.{up_of}
use Rattle.chain_model.proofs.Chains.{no_id}
use Rattle.chain_model.proofs.Settled.{is_one}
use Rattle.image_making.specs.Chain.{image_in, volumes_in}
use Rattle.image_making.specs.NewImage.{IsImage, IsNewFile, layer_length, text_place}
use Rattle.image_making.specs.Record.{IsBase}
use Rattle.image_making.specs.declared.making.NewImage.{NewImage}

-- ---- a new volume's file, as it says itself

made_says : (y : VolumeRecord) (f : File) → IsBase y → IsNewLayer y.capacity None layer_length f → SaysNew y.capacity None (file_of f.size f.stable)
made_says y f base is =
    let long : 2560 ≡ f.size = omega (arith, is.size) in
    let alike : file_of 2560 (new_sector y.capacity None) ≡ file_of f.size f.stable = λ i. file_of (long i) (λ k. sym (is.sectors k) i) in
    let capacity = base.legible.valid.capacity in
    subst (λ (file : LayerFile). SaysNew y.capacity None file) alike (new_layer_says y.capacity 2560 None (capacity.least, capacity.most) tt (omega arith))

no_fault : (file : LayerFile) (bound : ℕ) (fault : LayerFault) → IsSound file bound → HasFault file bound fault → ⊥
no_fault file bound fault = go (layer_header file bound)
  where
    go : (r : Result Header LayerFault)
        → MatchResult r (λ h. (n : ℕ) → IsClean (record { header = h; file = file }) bound n) (λ e. ⊥)
        → MatchResult r (λ h. FirstFault (record { header = h; file = file }) bound fault) (λ e. e ≡ fault) → ⊥
    go (Ok h) sound first = clean_without_fault (record { header = h; file = file }) bound first.at fault (sound first.at) first.here
    go (Err e) sound first = sound

-- it names no other file
names_none : (o : Format) (y : VolumeRecord) (f : File) → IsBase y → IsNewFile o y.capacity f → backing_in o y f ≡ None
names_none Raw y f base is = refl
names_none Cow y f base is =
    let says = made_says y f base is in
    ap (λ (r : Result Header LayerFault). backing_by f r) says.header ∙ says.parent

in_file : (f : File) (k : ℕ) (b : Bool) → ((j : ℕ) → f.stable j ≡ zero_sector) → (if b then f.stable k else replicate 512 0) ≡ zero_sector
unfolding zero_sector
in_file f k true zeros = zeros k
in_file f k false zeros = refl

layer_none : (f : File) (at : ℕ) (entry : Entry) → entry ≡ Absent → unwrap_or (sector_behind f at entry) zero_sector ≡ zero_sector
layer_none f at entry is = ap (λ (e : Entry). unwrap_or (sector_behind f at e) zero_sector) is

-- each sector is zeros in a raw file, and a layer holds none
holds_zeros : (o : Format) (y : VolumeRecord) (f : File) (k : ℕ) → IsBase y → IsNewFile o y.capacity f → unwrap_or (sector_by_format o y f k) zero_sector ≡ zero_sector
holds_zeros Raw y f k base is = in_file f k (nat_lt k f.size) is.sectors
holds_zeros Cow y f k base is =
    let says = made_says y f base is in
    ap (λ (r : Result Header LayerFault). unwrap_or (sector_by_header f k r) zero_sector) says.header ∙ layer_none f _ _ (says.absent _)

by_capacity : (y : VolumeRecord) (f : File) (k : ℕ) (b : Bool) → IsBase y → IsNewFile y.format y.capacity f → unwrap_or (if b then sector_by_format y.format y f k else None) zero_sector ≡ zero_sector
by_capacity y f k true base is = holds_zeros y.format y f k base is
by_capacity y f k false base is = refl

own_zeros : (y : VolumeRecord) (f : File) (k : ℕ) → IsBase y → IsNewFile y.format y.capacity f → unwrap_or (own_in y f k) zero_sector ≡ zero_sector
unfolding own_in
own_zeros y f k base is = by_capacity y f k (nat_lt k (sectors_of y)) base is

-- ---- records and checks

none_some : {A : Type 0} (o : Option A) (a : A) → o ≡ None → o ≡ Some a → ⊥
none_some o a e f = cc

same_record : (o : Option VolumeRecord) (a b : VolumeRecord) → o ≡ Some a → o ≡ Some b → a ≡ b
same_record o a b e f = cc

same_file : (o : Option File) (a b : File) → o ≡ Some a → o ≡ Some b → a ≡ b
same_file o a b e f = cc

same_text : (v w : Id) → name.Meta w ≡ name.Meta v → w ≡ v
same_text v w e = cc

no_text : (v w : Id) → name.Meta w ≢ name.Volume v
no_text v w e = absurd cc

no_parent : (y : VolumeRecord) → y.parent ≡ zero_id → parent_in y ≡ None
no_parent y e = ap (λ (q : Id). if id_is q zero_id then None else Some q) e ∙ ap (λ (b : Bool). if b then None else Some zero_id) (id_is-itself zero_id)

legal_by : (y : VolumeRecord) → y.legality ≡ Legal → legal_in y ≡ true
legal_by y e = ap (λ (l : Legality). elim l [ Legal ↦ true | Illegal ↦ false ]) e

one_rises : (v : Id) → IsStrictlySortedBy id_cmp (v ∷ [])
unfolding IsStrictlySortedBy
one_rises v = (tt, tt)

module _ (x : NewImage) (d : Content) (base : IsBase x.says) (is : IsImage x d) where
  abbrev V : Volumes
  V = volumes_in x d

  pub reads_as : HasRecord x.version (text_place x) x.says d
  reads_as = has_record x.version (text_place x) x.says d base.legible is.text

  text_here : text_of (image_in x) V x.volume ≡ Some (Ok x.says)
  text_here =
      ap (λ (o : Option File). option_map (λ f. read_volume x.version x.says.domain x.says.image (stored_text f)) o) reads_as.1
      ∙ ap (λ (r : Result VolumeRecord VolumeFault). Some r) reads_as.2.says

  record_here : records_of (image_in x) V x.volume ≡ Some x.says
  record_here = ap (λ (t : Option (Result VolumeRecord VolumeFault)). option_and_then record_in t) text_here

  text_elsewhere : (w : Id) → w ≢ x.volume → V.text w ≡ None
  text_elsewhere w other = is.only (name.Meta w) (no_text x.volume w) (λ same. other (same_text x.volume w same))

  record_elsewhere : (w : Id) → w ≢ x.volume → records_of (image_in x) V w ≡ None
  record_elsewhere w other =
      ap (λ (o : Option File). option_and_then record_in (option_map (λ f. read_volume x.version x.says.domain x.says.image (stored_text f)) o)) (text_elsewhere w other)

  orphan : (w : Id) → parent (records_of (image_in x) V) w ≡ None
  orphan w = go (is_one w x.volume)
    where
      go : (w ≡ x.volume) ⊎ (w ≢ x.volume) → parent (records_of (image_in x) V) w ≡ None
      go (inl same) =
          ap (λ (u : Id). parent (records_of (image_in x) V) u) same
          ∙ ap (λ (o : Option VolumeRecord). option_and_then parent_in o) record_here ∙ no_parent x.says base.parent
      go (inr other) = ap (λ (o : Option VolumeRecord). option_and_then parent_in o) (record_elsewhere w other)

  some_text : is_volume V x.volume ≡ true
  some_text = ap (λ (p : Option File). is_some p) reads_as.1

  volumes_are : AreVolumes V (x.volume ∷ [])
  volumes_are = record {
    rising = one_rises x.volume;
    each = λ w among. each w (cons_cases x.volume w [] among);
    all = λ w there. all w there (is_one w x.volume);
  }
    where
      each : (w : Id) → (x.volume ≡ w) ⊎ Contains [] w → is_volume V w ≡ true
      each w (inl same) = subst (λ (u : Id). is_volume V u ≡ true) same some_text
      each w (inr rest) = absurd (nothing_in w rest)

      all : (w : Id) → is_volume V w ≡ true → (w ≡ x.volume) ⊎ (w ≢ x.volume) → Contains (x.volume ∷ []) w
      all w there (inl same) = subst (λ (u : Id). Contains (x.volume ∷ []) u) (sym same) (contains_here x.volume [])
      all w there (inr other) = absurd (false≢true (sym (ap (λ (p : Option File). is_some p) (text_elsewhere w other)) ∙ there))

  is_reading : IsReading (records_of (image_in x) V) x.volume []
  is_reading = record {
    below = orphan x.volume;
    legal = ap (λ (o : Option VolumeRecord). holds_in legal_in o) record_here ∙ legal_by x.says base.legal;
    all = λ u legal. all u legal (is_one u x.volume);
  }
    where
      all : (u : Id) → is_legal (records_of (image_in x) V) u ≡ true → (u ≡ x.volume) ⊎ (u ≢ x.volume) → Contains (x.volume ∷ []) u
      all u legal (inl same) = subst (λ (w : Id). Contains (x.volume ∷ []) w) (sym same) (contains_here x.volume [])
      all u legal (inr other) = absurd (false≢true (sym (ap (λ (o : Option VolumeRecord). holds_in legal_in o) (record_elsewhere u other)) ∙ legal))

  -- ---- no check refuses it

  no_ancestor : (w u : Id) → HasAncestor (records_of (image_in x) V) w u → ⊥
  no_ancestor w u (nearest e) = no_id (parent (records_of (image_in x) V) w) u (orphan w) e
  no_ancestor w u (farther {w = m} e more) = no_id (parent (records_of (image_in x) V) w) m (orphan w) e

  none_up : (w : Id) (vs : List Id) → IsBelow (records_of (image_in x) V) x.volume vs → up_of (records_of (image_in x) V) vs ≡ Some w → ⊥
  none_up w [] below e = no_id (up_of (records_of (image_in x) V) []) w refl e
  none_up w (u ∷ us) below e = no_id (parent (records_of (image_in x) V) x.volume) u (orphan x.volume) below.0

  -- the layer has no fault, and names what the text names
  sound_layer : (z : VolumeRecord) (f : File) (fault : LayerFault) → records_of (image_in x) V x.volume ≡ Some z → z.format ≡ Cow → V.file x.volume ≡ Some f → HasFault (file_of f.size f.stable) z.capacity fault → ⊥
  sound_layer z f fault says cow there has =
      let one = same_record (records_of (image_in x) V x.volume) z x.says says record_here in
      let file = same_file (V.file x.volume) f is.file.0 there is.file.1 in
      let layer = subst (λ (o : Format). IsNewFile o x.says.capacity is.file.0) (sym (ap (λ (y : VolumeRecord). y.format) one) ∙ cow) is.file.2 in
      let said = subst (λ (n : ℕ). HasFault (file_of f.size f.stable) n fault) (ap (λ (y : VolumeRecord). y.capacity) one) has in
      no_fault (file_of is.file.0.size is.file.0.stable) x.says.capacity fault (made_says x.says is.file.0 base layer).sound
      (subst (λ (g : File). HasFault (file_of g.size g.stable) x.says.capacity fault) file said)

  pub no_backing : backing (records_of (image_in x) V) V x.volume ≡ None
  no_backing =
      ap (λ (o : Option VolumeRecord). backing_by_record o (V.file x.volume)) record_here
      ∙ ap (λ (o : Option File). backing_by_record (Some x.says) o) is.file.1 ∙ names_none x.says.format x.says is.file.0 base is.file.2

  names_parent : (z : VolumeRecord) → records_of (image_in x) V x.volume ≡ Some z → unwrap_or (backing (records_of (image_in x) V) V x.volume) zero_id ≡ z.parent
  names_parent z says =
      ap (λ (o : Option Id). unwrap_or o zero_id) no_backing
      ∙ sym (ap (λ (y : VolumeRecord). y.parent) (same_record (records_of (image_in x) V x.volume) z x.says says record_here) ∙ base.parent)

  abbrev Never : Check → Type 0
  Never c = (e : Refusal) → Refuses (image_in x) V (x.volume ∷ []) c e → ⊥

  abbrev NoneOf : List Check → Type 0
  NoneOf [] = Unit {0}
  NoneOf (c ∷ cs) = Never c × NoneOf cs

  none_in : (cs : List Check) (c : Check) → NoneOf cs → Contains cs c → Never c
  none_in [] c none among = absurd (nothing_in c among)
  none_in (k ∷ ks) c none among = go (cons_cases k c ks among) (λ rest. none_in ks c none.1 rest)
    where
      go : (k ≡ c) ⊎ Contains ks c → (Contains ks c → Never c) → Never c
      go (inl same) more = subst (λ (o : Check). Never o) same none.0
      go (inr rest) more = more rest

  by_layer : NoneOf (layer x.volume ∷ header x.volume ∷ [])
  by_layer = ((λ e r. sound_layer r.0 r.3 r.5 r.1 r.2 r.4 r.6), ((λ e r. r.5 (names_parent r.0 r.1)), tt))

  by_records : NoneOf (ring ∷ format x.volume ∷ capacity x.volume ∷ reading ∷ layer x.volume ∷ header x.volume ∷ [])
  by_records = (
    (λ e r. no_ancestor r.0.0 r.0.0 r.0.1),
    ((λ e r. r.3 (orphan x.volume)), ((λ e r. none_up r.5 r.3 r.4 r.6), ((λ e r. r.0 x.volume [] is_reading), by_layer))),
  )

  by_texts : NoneOf (checks (x.volume ∷ []) (x.volume ∷ []))
  by_texts = (
    (λ e r. omega (arith, r.0)),
    (
      (λ e r. subst (λ (t : Option (Result VolumeRecord VolumeFault)). IsBadText x.volume t e) text_here r),
      ((λ e r. none_some (V.file x.volume) is.file.0 r.0 is.file.1), ((λ e r. no_id (parent (records_of (image_in x) V) x.volume) r.0 (orphan x.volume) r.1), by_records)),
    ),
  )

  pub openable : IsOpenable (image_in x) V x.volume []
  openable = record {
    volumes = x.volume ∷ [];
    are = volumes_are;
    reads = is_reading;
    passes = λ c among. none_in (checks (x.volume ∷ []) (x.volume ∷ [])) c by_texts among;
  }

  -- ---- and reads as zeros

  pub zero_read : (k : ℕ) → flat (records_of (image_in x) V) V x.volume [] k ≡ zero_sector
  zero_read k =
      ap (λ (o : Option VolumeRecord). unwrap_or (own_by o (V.file x.volume) k) zero_sector) record_here
      ∙ ap (λ (o : Option File). unwrap_or (own_by (Some x.says) o k) zero_sector) is.file.1 ∙ own_zeros x.says is.file.0 k base is.file.2
