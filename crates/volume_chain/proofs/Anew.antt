-- The chain of an image that is made anew is known once its files are made.
use Rattle.std.proofs.Common.{◌≡◌, ◌⊎◌, ℕ, ◌*◌, ◌^◌, ◌≤◌, Bool, true, false, List, [], ◌∷◌, Option, Some, None, refl, sym, ap, ◌∙◌, subst, inl, inr, arith}
use Rattle.std.specs.Prelude.{if◌then◌else◌, is_some, option_and_then}
use Rattle.std.specs.List.{Contains}
use Rattle.std.specs.Option.{option_map}
use Rattle.std.proofs.lemmas.Bool.{false≢true}
use Rattle.std.proofs.lemmas.Option.{none-some, same_Some}
use Rattle.sd_names.specs.Id.{zero_id}
use Rattle.sd_names.specs.declared.id.Id.{Id}
use Rattle.sd_names.specs.declared.kinds.Format.{Format}
use Rattle.sd_names.specs.declared.kinds.Format.TheVariants as format
use Rattle.sd_names.specs.declared.kinds.Legality.{Legality}
use Rattle.sd_names.specs.declared.kinds.Legality.TheVariants as legality
use Rattle.shared_disk.specs.Content.{Content, File}
use Rattle.shared_disk.specs.Places.{id_is}
use Rattle.shared_disk.proofs.Outcomes.{nothing_in, cons_cases, contains_here}
use Rattle.volume_meta.specs.Read.{read_volume}
use Rattle.volume_meta.specs.Valid.{IsValid}
use Rattle.volume_meta.specs.declared.record.VolumeRecord.{VolumeRecord}
use Rattle.layer_creating.specs.New.{IsNewLayer}
use Rattle.qcow_layer.proofs.Anew.{fresh_known}
use Rattle.chain_model.specs.Chain.{HasAncestor, IsBelow, farther, nearest}
use Rattle.chain_model.specs.Folder.{Volumes}
use Rattle.chain_model.specs.Reading.{IsReading}
use Rattle.chain_model.specs.Records.{Records, is_legal, is_volume, legal_in, holds_in, parent, parent_in, record_in, records_of, stored_text}
use Rattle.chain_model.specs.Up.{up_of}
use Rattle.chain_model.proofs.Chains.{no_id}
use Rattle.chain_model.proofs.Opened.{text_there}
use Rattle.chain_model.proofs.Rings.{id_is-Decides}
use Rattle.chain_records.specs.Checks.{FirstIs, record_checks}
use Rattle.chain_records.specs.Records.{records_in}
use Rattle.chain_records.specs.declared.volume.Volume.{Volume}
use Rattle.chain_records.proofs.Lists.{record_found}
use Rattle.chain_gathering.specs.Kept.{AreValid}
use Rattle.chain_gathering.specs.Knowing.{volumes_in}
use Rattle.chain_gathering.proofs.Lists.{rising_none, rising_snoc}
use Rattle.volume_chain.specs.Chain.{IsOpenAs, dir_in, image_in, place_in}
use Rattle.volume_chain.specs.Fresh.{IsBase, IsBaseLength, IsFreshChain, IsFreshVolume, IsLengthOf, IsMade, IsMadeFile, target_for}
use Rattle.volume_chain.specs.Knowing.{IsKnown, KnowsChain}
use Rattle.volume_chain.specs.declared.chain.Chain.{Chain}
use Rattle.volume_chain.specs.declared.chain.Target.{Target}
use Rattle.volume_chain.specs.declared.volumes.OpenVolume.{OpenVolume}
use Rattle.volume_chain.specs.declared.volumes.OpenVolume.TheVariants.{Raw, Cow}

-- a record of one volume
module _ (v : Id) (x : VolumeRecord) (base : IsBase x) where
  abbrev pub volume : Volume
  volume = record { id = v; meta = x; has_file = true }

  abbrev pub r : Records
  r = records_in (volume ∷ [])

  pub is_record : r v ≡ Some x
  is_record = record_found volume v None refl

  by_id : (P : Option VolumeRecord → Type 0) (u : Id) → (v ≡ u → P (Some x)) → ((v ≡ u → ⊥) → P None) → P (r u)
  by_id P u here other = go (id_is v u) refl
    where
      go : (b : Bool) → id_is v u ≡ b → P (if b then Some x else None)
      go true t = here ((id_is-Decides v u).0 t)
      go false t = other (λ e. false≢true (sym t ∙ (id_is-Decides v u).1 e))

  none_in : parent_in x ≡ None
  none_in = ap (λ (b : Bool). if b then None else Some x.parent) ((id_is-Decides x.parent zero_id).1 base.parent)

  pub no_parent : (u : Id) → parent r u ≡ None
  no_parent u = by_id (λ (o : Option VolumeRecord). option_and_then parent_in o ≡ None) u (λ e. none_in) (λ n. refl)

  no_ancestor : {u w : Id} → HasAncestor r u w → ⊥
  no_ancestor {u} (nearest {w = w} e) = no_id (parent r u) w (no_parent u) e
  no_ancestor {u} (farther {w = w} e more) = no_id (parent r u) w (no_parent u) e

  none_up : (u w : Id) (vs : List Id) → IsBelow r u vs → up_of r vs ≡ Some w → ⊥
  none_up u w [] below up = absurd cc
  none_up u w (y ∷ ys) below up = no_id (parent r u) y (no_parent u) below.0

  legal_is : (l : Legality) → l ≡ legality.Legal → elim l [ legality.Legal ↦ true | legality.Illegal ↦ false ] ≡ true
  legal_is legality.Legal e = refl
  legal_is legality.Illegal e = absurd cc

  only_legal : (u : Id) → is_legal r u ≡ true → Contains (v ∷ []) u
  only_legal u = by_id (λ (o : Option VolumeRecord). holds_in legal_in o ≡ true → Contains (v ∷ []) u) u (λ e l. subst (λ (w : Id). Contains (v ∷ []) w) e (contains_here v [])) (λ n l. absurd (false≢true l))

  pub valid : AreValid (volume ∷ [])
  valid u = by_id (λ (o : Option VolumeRecord). (y : VolumeRecord) → o ≡ Some y → IsValid y) u (λ e y is. subst IsValid (same_Some x y is) base.valid) (λ n y is. absurd (none-some y is))

  pub reading : IsReading r v []
  reading = record {
    below = no_parent v;
    legal = ap (holds_in legal_in) is_record ∙ legal_is x.legality base.legal;
    all = only_legal;
  }

  pub checked : FirstIs r (record_checks (v ∷ [])) None
  checked = inr (
    (λ e is. no_id (parent r v) is.0 (no_parent v) is.1.0),
    inr (
      (λ e is. no_ancestor is.0.1),
      inr (
        (λ e is. is.3 (no_parent v)),
        inr ((λ e is. none_up v is.5 is.3 is.4 is.6), inr ((λ e is. is.0 v [] reading), refl)),
      ),
    ),
  )

-- ---- the files, once they are made

module _ (t : Target) (v : Id) (x : VolumeRecord) (bytes host : ℕ) (d : Content) (o : OpenVolume) (base : IsBase x) (fits : IsBaseLength x bytes) (fresh : IsFreshVolume t v x bytes o)
    (made : IsMade t v x bytes d) where
  abbrev y : Volumes
  y = volumes_in (dir_in t) d

  abbrev one : Chain
  one = record { target = t; records = volume v x base ∷ []; path = v ∷ []; volumes = o ∷ [] }

  is_there : is_volume y v ≡ true
  is_there = text_there _ (y.text v) x (ap (option_and_then record_in) made.text)

  text_none : (a : Option File) (u : Id) → y.text u ≡ a → (v ≡ u → ⊥) → records_of (image_in t) y u ≡ None
  text_none None u e other = ap (λ (a : Option File). option_and_then record_in (option_map (λ (f : File). read_volume t.version t.sd t.image (stored_text f)) a)) e
  text_none (Some f) u e other = absurd (other (sym (made.only u (ap is_some e))))

  records : (u : Id) → records_of (image_in t) y u ≡ r v x base u
  records u =
      by_id v x base (λ (a : Option VolumeRecord). records_of (image_in t) y u ≡ a) u
      (λ e. subst (λ (w : Id). records_of (image_in t) y w ≡ Some x) e (ap (option_and_then record_in) made.text)) (text_none (y.text u) u refl)

  open_as : (a : Option VolumeRecord) (p : OpenVolume) → a ≡ Some x → IsFreshVolume t v x bytes p → IsOpenAs t v a p
  open_as None p e is = absurd cc
  open_as (Some z) (Raw n) e is = let same : z ≡ x = cc in subst (λ (w : VolumeRecord). w.format ≡ format.Raw) (sym same) is.0
  open_as (Some z) (Cow l) e is =
      let same : z ≡ x = cc in
      subst (λ (w : VolumeRecord). IsOpenAs t v (Some w) (Cow l)) (sym same)
      (is.0, λ i. record { volume = is.1.volume i; place = is.1.place i; capacity = is.1.capacity_is i; greatest = is.1.greatest_is i })

  known : (p : OpenVolume) → IsFreshVolume t v x bytes p → IsKnown t host d v p
  known (Raw n) is =
      let long : bytes ≤ 512 * made.file.size = subst (λ (f : Format). IsMadeFile f x bytes made.file) is.0 made.made in
      (made.file, made.there, omega (arith, long, is.1))
  known (Cow l) is =
      let lengths = subst (λ (f : Format). IsLengthOf f x bytes) is.0 fits in
      let new : IsNewLayer x.capacity None bytes made.file = subst (λ (f : Format). IsMadeFile f x bytes made.file) is.0 made.made in
      fresh_known l v (place_in t v) x.capacity (2 ^ 40) None bytes host d made.file is.1 lengths.0 lengths.1 made.there new

  pub one_known : KnowsChain one host d
  one_known = record {
    shown = record {
      read = record {
        few = omega arith;
        are = record {
          rising = rising_snoc [] v rising_none (λ u h. absurd (nothing_in u h));
          each = λ u h. go_each u (cons_cases v u [] h);
          all = λ u is. subst (λ (w : Id). Contains (v ∷ []) w) (sym (made.only u is)) (contains_here v []);
        };
        records = records;
        files = λ z h. go_file z (cons_cases (volume v x base) z [] h);
      };
      there = refl;
    };
    shape = record { valid = valid v x base; checked = checked v x base; reading = (v, [], reading v x base, refl); each = (open_as (r v x base v) o (is_record v x base) fresh, tt) };
    all = refl;
    known = (known o fresh, tt);
  }
    where
      go_each : (u : Id) → (v ≡ u) ⊎ Contains [] u → is_volume y u ≡ true
      go_each u (inl e) = subst (λ (w : Id). is_volume y w ≡ true) e is_there
      go_each u (inr n) = absurd (nothing_in u n)

      go_file : (z : Volume) → (volume v x base ≡ z) ⊎ Contains [] z → z.has_file ≡ is_some (y.file z.id)
      go_file z (inl e) = subst (λ (w : Volume). w.has_file ≡ is_some (y.file w.id)) e (sym (ap is_some made.there))
      go_file z (inr n) = absurd (nothing_in z n)

pub fresh_chain_known : (c : Chain) (sd id v : Id) (version bytes host : ℕ) (x : VolumeRecord) (d : Content) → IsBase x → IsBaseLength x bytes → IsFreshChain c sd id version v x bytes
    → IsMade (target_for sd id version) v x bytes d → KnowsChain c host d
fresh_chain_known c sd id v version bytes host x d base fits is made =
    subst (λ (a : Chain). KnowsChain a host d) (sym same) (one_known (target_for sd id version) v x bytes host d is.volume base fits is.fresh made)
  where
    same : c ≡ one (target_for sd id version) v x bytes host d is.volume base fits is.fresh made
    same = λ i. record { target = is.target i; records = is.records i; path = is.path i; volumes = is.only i }
