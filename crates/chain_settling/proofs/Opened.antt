-- An image that is open is known to its settling.
use Rattle.std.proofs.Common.{◌≡◌, ℕ, zero, suc, ◌<◌, Bool, true, false, List, [], ◌∷◌, Option, Some, None, Result, Ok, Err, refl, sym, ap, ◌∙◌, subst, inl, arith}
use Rattle.std.specs.Prelude.{slice_get, ◌==◌, if◌then◌else◌}
use Rattle.std.specs.List.{Contains}
use Rattle.std.proofs.lemmas.List.Elements.{All-nil, All-cons}
use Rattle.std.proofs.lemmas.Bool.{false≢true}
use Rattle.std.proofs.lemmas.Option.{none-some, same_Some}
use Rattle.sd_names.specs.declared.fault.VolumeFault.{VolumeFault}
use Rattle.sd_names.specs.declared.id.Id.{Id}
use Rattle.sd_names.specs.declared.kinds.Format.TheVariants as format
use Rattle.sd_names.specs.declared.place.Dir.{Dir}
use Rattle.sd_names.specs.declared.place.Name.TheVariants as name
use Rattle.sd_names.specs.declared.place.Place.{Place}
use Rattle.shared_disk.specs.Content.{Content, File}
use Rattle.shared_disk.specs.Crash.{IsAlso, IsSettled, OnEach}
use Rattle.shared_disk.specs.WellFormed.{IsWellFormed}
use Rattle.shared_disk.proofs.Outcomes.{contains_here, contains_more, settled_file}
use Rattle.volume_meta.specs.Read.{read_volume}
use Rattle.volume_meta.specs.Valid.{IsValid}
use Rattle.volume_meta.specs.declared.record.VolumeRecord.{VolumeRecord}
use Rattle.volume_texts.proofs.ReadBack.{description_plain, disk_type_plain, domain_is, image_is}
use Rattle.whole_file.specs.Text.{HasNoZero, before_zero, bytes_of}
use Rattle.qcow_layer.specs.Opening.{place_kept, target_kept, volume_kept}
use Rattle.qcow_layer.specs.declared.layer.Layer.{Layer}
use Rattle.qcow_layer.specs.declared.stages.Target as layer
use Rattle.settling_steps.specs.Leftovers.{KnowsNames}
use Rattle.settling_steps.specs.Leftovers as tidying
use Rattle.settling_steps.specs.declared.leftovers.Tidying.{Tidying}
use Rattle.chain_model.proofs.Chains.{no_ring}
use Rattle.chain_model.specs.Chain.{IsBelow, counting}
use Rattle.chain_model.specs.Own.{own_by}
use Rattle.chain_model.specs.Records.{Image, Records, holds_in, is_passed, legal_in, record_in, records_of, stored_text}
use Rattle.chain_gathering.specs.Knowing.{AreSettled, volumes_in}
use Rattle.chain_gathering.specs.declared.names.VolumeName.TheVariants.{Data, Text}
use Rattle.chain_records.specs.Records.{records_in}
use Rattle.chain_records.specs.Paths.{HasChain, IsReadingPath}
use Rattle.chain_records.proofs.Opening.{same_records}
use Rattle.chain_records.proofs.Settled.{counting_kept, counting_passed}
use Rattle.chain_records.proofs.Short.{has_chain}
use Rattle.volume_chain.specs.Chain.{IsOpenAs, OnPath, layer_of, open_in, path_in, records_kept, target_of}
use Rattle.volume_chain.specs.Knowing.{IsKnown}
use Rattle.volume_chain.specs.Stages.{IsOpen}
use Rattle.volume_chain.specs.declared.chain.Chain.{Chain}
use Rattle.volume_chain.specs.declared.volumes.OpenVolume.{OpenVolume}
use Rattle.volume_chain.specs.declared.volumes.OpenVolume.TheVariants.{Cow, Raw}
use Rattle.chain_settling.specs.Alike.{HoldsAlike, IsCow, IsCowOf, IsOfImage, KnowsImage, ReadsAlike}
use Rattle.chain_settling.specs.Was.{IsLeftAlone, WasLong, file_in, folder_in, image_kept, text_in}
use Rattle.chain_settling.specs.Knowing.{HaveRoom, KnowsSettled, KnowsTidying}
use Rattle.chain_settling.specs.Work.{IsLayerAt}
use Rattle.chain_settling.proofs.Alike.{says_by}
use Rattle.chain_settling.proofs.OpensAlike.{opens_itself}

-- ---- an image reads as itself

itself : (i : Image) (dir : Dir) (d : Content) → AreSettled dir d → ReadsAlike i dir (records_of i (volumes_in dir d)) (volumes_in dir d) d
itself i dir d settled = record {
  texts = λ v. text v (d.file (text_in dir v)) refl;
  partly = λ v. inl refl;
  types = λ v x y was now. inl (ap (λ (z : VolumeRecord). z.voltype) (same_Some y x (sym now ∙ was)));
  files = λ v. file v (d.file (file_in dir v)) refl;
}
  where
    text : (v : Id) (o : Option File) → d.file (text_in dir v) ≡ o → IsAlso (λ f g. IsSettled g) o o
    text v None e = tt
    text v (Some f) e = settled (Text v) f e

    file : (v : Id) (o : Option File) → d.file (file_in dir v) ≡ o → IsAlso (λ f g. OnEach g (HoldsAlike (records_of i (volumes_in dir d) v) f)) o o
    file v None e = tt
    file v (Some f) e = λ g out k. ap (λ (z : File). own_by (records_of i (volumes_in dir d) v) (Some z) k) (settled_file f g (settled (Data v) f e) out)

-- ---- what a text says can be written again

front_plain : (bytes : List ℕ) → HasNoZero (before_zero bytes)
front_plain [] = All-nil (λ b. 0 < b)
front_plain (b ∷ bs) = go (b == 0) refl (front_plain bs)
  where
    some : (b : ℕ) → (b == 0) ≡ false → 0 < b
    some zero e = absurd cc
    some (suc n) e = omega arith

    go : (t : Bool) → (b == 0) ≡ t → HasNoZero (before_zero bs) → HasNoZero (if t then [] else b ∷ before_zero bs)
    go true e rest = All-nil (λ b. 0 < b)
    go false e rest = All-cons (λ b. 0 < b) b (before_zero bs) (some b e) rest

from_text : (i : Image) (o : Option File) (y : VolumeRecord) → says_by i o ≡ Some y → (f : File) × (o ≡ Some f) × (read_volume i.version i.domain i.id (stored_text f) ≡ Ok y)
from_text i None y e = absurd cc
from_text i (Some f) y e = (f, refl, go (read_volume i.version i.domain i.id (stored_text f)) e)
  where
    go : (s : Result VolumeRecord VolumeFault) → record_in s ≡ Some y → s ≡ Ok y
    go (Ok z) h = ap (λ (w : VolumeRecord). Ok w) (same_Some z y h)
    go (Err fault) h = absurd cc

of_image : (i : Image) (o : Option File) (y : VolumeRecord) → IsValid y → says_by i o ≡ Some y → IsOfImage i y
of_image i o y valid e =
    let from = from_text i o y e in
    let plain = front_plain (bytes_of from.0.stable from.0.size) in
    record {
      domain = domain_is i.version i.domain i.id (stored_text from.0) y from.2;
      id = image_is i.version i.domain i.id (stored_text from.0) y from.2;
      legible = record {
        valid = valid;
        description = description_plain i.version i.domain i.id (stored_text from.0) y plain from.2;
        disk_type = disk_type_plain i.version i.domain i.id (stored_text from.0) y plain from.2;
      };
    }

-- ---- the layers of a path

-- what holds of the volumes of a path, one by one, holds at each place
on_path : (R : Id → OpenVolume → Type 0) (path : List Id) (os : List OpenVolume) (b : ℕ) (o : OpenVolume) → OnPath R path os → slice_get os b ≡ Some o → (v : Id) × (slice_get path b ≡ Some v) × R v o
on_path R path [] b o all e = absurd (none-some o e)
on_path R [] (p ∷ os) b o all e = absurd all
on_path R (v ∷ vs) (p ∷ os) zero o all e = (v, refl, subst (λ (z : OpenVolume). R v z) (same_Some p o e) all.0)
on_path R (v ∷ vs) (p ∷ os) (suc b) o all e = on_path R vs os b o all.1 e

counted : (r : Records) (vs : List Id) (b : ℕ) (u : Id) → slice_get (counting r vs) b ≡ Some u → Contains vs u
counted r [] b u e = absurd (none-some u e)
counted r (w ∷ ws) b u e = go (is_passed r w) refl (λ n h. counted r ws n u h)
  where
    at : (b : ℕ) → ((n : ℕ) → slice_get (counting r ws) n ≡ Some u → Contains ws u) → slice_get (w ∷ counting r ws) b ≡ Some u → Contains (w ∷ ws) u
    at zero more h = subst (λ (z : Id). Contains (w ∷ ws) z) (same_Some w u h) (contains_here w ws)
    at (suc n) more h = contains_more w u ws (more n h)

    go : (t : Bool) → is_passed r w ≡ t → ((n : ℕ) → slice_get (counting r ws) n ≡ Some u → Contains ws u) → Contains (w ∷ ws) u
    go true t more = contains_more w u ws (more b (ap (λ (us : List Id). slice_get us b) (sym (counting_passed r w ws t)) ∙ e))
    go false t more = at b more (ap (λ (us : List Id). slice_get us b) (sym (counting_kept r w ws t)) ∙ e)

-- a volume stands once in a list of volumes that are below one another
once : (r : Records) (v : Id) (vs : List Id) → IsBelow r v vs → (a b : ℕ) (u : Id) → slice_get (v ∷ counting r vs) a ≡ Some u → slice_get (v ∷ counting r vs) b ≡ Some u → a ≡ b
once r v vs below zero zero u x y = refl
once r v vs below zero (suc b) u x y = absurd (no_ring r v vs below (subst (λ (z : Id). Contains vs z) (sym (same_Some v u x)) (counted r vs b u y)))
once r v vs below (suc a) zero u x y = absurd (no_ring r v vs below (subst (λ (z : Id). Contains vs z) (sym (same_Some v u y)) (counted r vs a u x)))
once r v [] below (suc a) (suc b) u x y = absurd (none-some u x)
once r v (w ∷ ws) below (suc a) (suc b) u x y = go (is_passed r w) refl (λ m n p q. once r w ws below.1 m n u p q)
  where
    go : (t : Bool) → is_passed r w ≡ t → ((m n : ℕ) → slice_get (w ∷ counting r ws) m ≡ Some u → slice_get (w ∷ counting r ws) n ≡ Some u → m ≡ n) → suc a ≡ suc b
    go true t more =
        let passed : (n : ℕ) → slice_get (counting r (w ∷ ws)) n ≡ Some u → slice_get (w ∷ counting r ws) (suc n) ≡ Some u = λ n e. ap (λ (us : List Id). slice_get us n) (sym (counting_passed r w ws t)) ∙ e in
        more (suc a) (suc b) (passed a x) (passed b y)
    go false t more =
        let kept : (n : ℕ) → slice_get (counting r (w ∷ ws)) n ≡ Some u → slice_get (w ∷ counting r ws) n ≡ Some u = λ n e. ap (λ (us : List Id). slice_get us n) (sym (counting_kept r w ws t)) ∙ e in
        ap suc (more a b (kept a x) (kept b y))

pub path_once : (r : Records) (path : List Id) → IsReadingPath r path → (a b : ℕ) (u : Id) → slice_get path a ≡ Some u → slice_get path b ≡ Some u → a ≡ b
path_once r path is a b u x y =
    once r is.0 is.1 is.2.below a b u (ap (λ (us : List Id). slice_get us a) (sym is.3) ∙ x) (ap (λ (us : List Id). slice_get us b) (sym is.3) ∙ y)

one_file_name : (dir : Dir) (u v : Id) → file_in dir u ≡ file_in dir v → u ≡ v
one_file_name dir u v same = let h : name.Volume u ≡ name.Volume v = ap (λ (p : Place). p.name) same in cc

-- the layer at a place is that of the path's volume there
record LayerAt (c : Chain) (l : Layer) (b : ℕ) : Type 0 where
  volume : Id
  at : slice_get (path_in c) b ≡ Some volume
  says : VolumeRecord
  is : records_in (records_kept c) volume ≡ Some says
  cow : says.format ≡ format.Cow
  target : target_kept l ≡ layer_of (target_of c) volume says

layer_at : (c : Chain) (l : Layer) (b : ℕ) → OnPath (λ v o. IsOpenAs (target_of c) v (records_in (records_kept c) v) o) (path_in c) (open_in c) → IsLayerAt c b l → LayerAt c l b
layer_at c l b each is = go (on_path (λ v o. IsOpenAs (target_of c) v (records_in (records_kept c) v) o) (path_in c) (open_in c) b (Cow l) each is)
  where
    by : (v : Id) → slice_get (path_in c) b ≡ Some v → (o : Option VolumeRecord) → records_in (records_kept c) v ≡ o → IsOpenAs (target_of c) v o (Cow l) → LayerAt c l b
    by v at None e opened = absurd opened
    by v at (Some y) e opened = record { volume = v; at = at; says = y; is = e; cow = opened.0; target = opened.1 }

    go : (v : Id) × (slice_get (path_in c) b ≡ Some v) × IsOpenAs (target_of c) v (records_in (records_kept c) v) (Cow l) → LayerAt c l b
    go a = by a.0 a.1 (records_in (records_kept c) a.0) refl a.2

pub legal_record : (o : Option VolumeRecord) → holds_in legal_in o ≡ true → (y : VolumeRecord) × (o ≡ Some y)
legal_record None e = absurd (false≢true e)
legal_record (Some y) e = (y, refl)

module _ (c : Chain) (host : ℕ) (d : Content) (is_open : IsOpen c host d) (formed : IsWellFormed d) where
  abbrev dir : Dir
  dir = folder_in c

  abbrev r : Records
  r = records_of (image_kept c) (volumes_in (folder_in c) d)

  same : r ≡ records_in (records_kept c)
  same = same_records (image_kept c) (volumes_in (folder_in c) d) (records_kept c) is_open.knows.shown.read

  said : (v : Id) → r v ≡ records_in (records_kept c) v
  said v = ap (λ (s : Records). s v) same

  folder : d.dir (folder_in c) ≡ true
  folder =
      let y = legal_record (r is_open.volume) is_open.openable.reads.legal in
      let text = from_text (image_kept c) (d.file (text_in (folder_in c) is_open.volume)) y.0 y.1 in
      formed.folders (text_in (folder_in c) is_open.volume) text.0 text.1

  of : (b : ℕ) (l : Layer) → IsLayerAt c b l → LayerAt c l b
  of b l is = layer_at c l b is_open.knows.shape.each is

  volume : (b : ℕ) (l : Layer) (is : IsLayerAt c b l) → volume_kept l ≡ (of b l is).volume
  volume b l is = ap (λ (t : layer.Target). t.volume) (of b l is).target

  place_at : (b : ℕ) (l : Layer) (is : IsLayerAt c b l) → place_kept l ≡ file_in (folder_in c) (of b l is).volume
  place_at b l is = ap (λ (t : layer.Target). t.place) (of b l is).target

  cow : (b : ℕ) (l : Layer) → IsLayerAt c b l → IsCow l (r (volume_kept l))
  cow b l is =
      let a = of b l is in
      let here : r (volume_kept l) ≡ Some a.says = ap (λ (u : Id). r u) (volume b l is) ∙ said a.volume ∙ a.is in
      subst (λ (o : Option VolumeRecord). IsCowOf (target_kept l) o) (sym here) (a.cow, sym (ap (λ (t : layer.Target). t.capacity) a.target))

  image : KnowsImage c r (volumes_in (folder_in c) d) d
  image = record {
    folder = folder;
    chains = λ v. subst (λ (s : Records). HasChain s v) (sym same) (has_chain (records_kept c) v is_open.knows.shape.checked);
    alike = itself (image_kept c) (folder_in c) d is_open.settled;
    opens = opens_itself (image_kept c) (folder_in c) d is_open.settled;
    partly = λ v. inl (sym (said v));
    types = λ v x y was now. inl (ap (λ (z : VolumeRecord). z.voltype) (same_Some y x (sym now ∙ sym (said v) ∙ was)));
    kept = λ v y e. let text = from_text (image_kept c) (d.file (text_in (folder_in c) v)) y (said v ∙ e) in (text.0, text.1);
    legible = λ v y e. of_image (image_kept c) (d.file (text_in (folder_in c) v)) y (is_open.knows.shape.valid v y e) (said v ∙ e);
    cows = cow;
    was = record {
      first = records_kept c;
      shown = is_open.knows.shown;
      records = same;
      ids = refl;
      files = refl;
      checked = is_open.knows.shape.checked;
      reading = subst (λ (s : Records). IsReadingPath s (path_in c)) (sym same) is_open.knows.shape.reading;
      all = is_open.knows.all;
      each = open_as;
    };
    alone = λ v off. file v (d.file (file_in (folder_in c) v)) refl;
  }
    where
      long : (v : Id) (o : OpenVolume) → IsKnown (target_of c) host d v o → WasLong (volumes_in (folder_in c) d) v o
      long v (Raw bytes) known = known
      long v (Cow l) known = tt

      open_as : (b : ℕ) (v : Id) (o : OpenVolume) → slice_get (path_in c) b ≡ Some v → slice_get (open_in c) b ≡ Some o → IsOpenAs (target_of c) v (r v) o × WasLong (volumes_in (folder_in c) d) v o
      open_as b v o at is =
          let a = on_path (λ u z. IsOpenAs (target_of c) u (records_in (records_kept c) u) z) (path_in c) (open_in c) b o is_open.knows.shape.each is in
          let k = on_path (IsKnown (target_of c) host d) (path_in c) (open_in c) b o is_open.knows.known is in
          let as_said : IsOpenAs (target_of c) v (records_in (records_kept c) v) o =
          subst (λ (u : Id). IsOpenAs (target_of c) u (records_in (records_kept c) u) o) (same_Some a.0 v (sym a.1 ∙ at)) a.2 in (
            subst (λ (s : Records). IsOpenAs (target_of c) v (s v) o) (sym same) as_said,
            long v o (subst (λ (u : Id). IsKnown (target_of c) host d u o) (same_Some k.0 v (sym k.1 ∙ at)) k.2),
          )

      file : (v : Id) (o : Option File) → d.file (file_in (folder_in c) v) ≡ o → IsAlso IsLeftAlone o o
      file v None e = tt
      file v (Some f) e = record { settled = is_open.settled (Data v) f e; longer = record { size = omega arith; sectors = λ k. refl } }

  settled : (b : ℕ) (l : Layer) → IsLayerAt c b l → KnowsSettled c l host d
  settled b l is =
      let known = (on_path (IsKnown (target_of c) host d) (path_in c) (open_in c) b (Cow l) is_open.knows.known is).2 in
      record {
        place = place_at b l is ∙ ap (λ (u : Id). file_in (folder_in c) u) (sym (volume b l is));
        file = known.file;
        there = known.there;
        knows = known.knows;
        settled = is_open.settled (Data (of b l is).volume) known.file (ap (λ (q : Place). d.file q) (sym (place_at b l is)) ∙ known.there);
      }

  apart : (a b : ℕ) (l n : Layer) → IsLayerAt c a l → IsLayerAt c b n → place_kept l ≡ place_kept n → a ≡ b
  apart a b l n at_a at_b one =
      let e : file_in (folder_in c) (of a l at_a).volume ≡ file_in (folder_in c) (of b n at_b).volume = sym (place_at a l at_a) ∙ one ∙ place_at b n at_b in
      let v : (of a l at_a).volume ≡ (of b n at_b).volume = one_file_name (folder_in c) (of a l at_a).volume (of b n at_b).volume e in
      path_once (records_in (records_kept c)) (path_in c) is_open.knows.shape.reading a b (of b n at_b).volume ((of a l at_a).at ∙ ap (λ (u : Id). Some u) v) (of b n at_b).at

  pub is_known : HaveRoom c d → KnowsNames (folder_in c) d → (t : Tidying) → tidying.IsBegun (folder_in c) t → KnowsTidying c t host r (volumes_in (folder_in c) d) d
  is_known room names t begun = record {
    files = record { image = image; said = said; layers = record { each = settled; apart = apart } };
    folder = begun.folder;
    long = λ b l low is. let k = settled b l is in record { file = k.file; there = k.there; knows = k.knows; room = room b l is k.file k.there };
    names = begun.knows d names;
  }
