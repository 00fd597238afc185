-- The reading volume of the files is that of the pool's image.
use Rattle.std.proofs.Common.{◌≡◌, ◌⊎◌, Bool, true, false, ◌&&◌, List, [], ◌∷◌, Option, Some, None, Result, Ok, Err, refl, sym, ap, subst, ◌∙◌, inl, inr}
use Rattle.std.specs.Prelude.{Contains, if◌then◌else◌, not, option_and_then, slice_get}
use Rattle.std.specs.Option.{is_some, option_map}
use Rattle.std.proofs.lemmas.Bool.{false≢true}
use Rattle.sd_names.specs.Id.{zero_id}
use Rattle.sd_names.specs.declared.fault.VolumeFault.{VolumeFault}
use Rattle.sd_names.specs.declared.id.Id.{Id}
use Rattle.shared_disk.specs.Content.{File}
use Rattle.shared_disk.specs.Places.{id_is}
use Rattle.volume_meta.specs.Read.{read_volume}
use Rattle.volume_meta.specs.declared.record.VolumeRecord.{VolumeRecord}
use Rattle.chain_model.specs.Chain.{IsBelow, counting}
use Rattle.chain_model.specs.Folder.{Volumes}
use Rattle.chain_model.specs.Reading.{IsReading}
use Rattle.chain_model.specs.Records.{Image as ImageIn, Records, holds_in, is_legal, is_passed, legal_in, parent, parent_in, passed_in, record_in, records_of, stored_text, text_of}
use Rattle.chain_model.specs.Up.{IsUp, up_of}
use Rattle.chain_model.proofs.Chains.{no_id, up_counts}
use Rattle.chain_model.proofs.Counting.{one_counts}
use Rattle.pool_model.specs.ImageStands.{IsImage, SaysAs, VolumeAt, settled_record}
use Rattle.pool_model.specs.Pool.{Image, Volume}
use Rattle.pool_model.specs.Reading.{records_in}
use Rattle.pool_model.proofs.OneImage.{known, volumes_listed}

-- ---- records of the files, and of the pool

-- both are missing, or the pool's has the parent that counts
abbrev Related : Records → Id → Option VolumeRecord → Option VolumeRecord → Type 0
Related r w a b =
    ((a ≡ None) × (b ≡ None)) ⊎ ((y : VolumeRecord) × ((up : Option Id) × IsUp r w up × (a ≡ Some y) × (b ≡ Some (settled_record up y))))

said_related : (r : Records) (w : Id) (t : Option (Result VolumeRecord VolumeFault)) (says : Result VolumeRecord VolumeFault) → SaysAs r w t says
    → Related r w (option_and_then record_in t) (record_in says)
said_related r w None says p = absurd p
said_related r w (Some (Err fault)) says p = inl (refl, ap (λ (s : Result VolumeRecord VolumeFault). record_in s) p)
said_related r w (Some (Ok y)) says p = inr (y, (p.0, p.1, refl, ap (λ (s : Result VolumeRecord VolumeFault). record_in s) p.2))

volume_related : (i : ImageIn) (x : Volumes) (m : Image) (w : Id) (o : Option Volume) → VolumeAt i x m w o
    → Related (records_of i x) w (records_of i x w) (option_and_then (λ (a : Volume). record_in a.says) o)
volume_related i x m w None at =
    inl (ap (λ (o : Option File). option_and_then record_in (option_map (λ f. read_volume i.version i.domain i.id (stored_text f)) o)) at, refl)
volume_related i x m w (Some a) at = said_related (records_of i x) w (text_of i x w) a.says at.says

related : (i : ImageIn) (x : Volumes) (m : Image) (w : Id) → IsImage i x m → Related (records_of i x) w (records_of i x w) (records_in m w)
related i x m w is = volume_related i x m w (m.volume w) (is.volumes w)

-- ---- parents aren't zeros

parent_set : (y : VolumeRecord) (a : Id) (b : Bool) → id_is y.parent zero_id ≡ b → (if b then None else Some y.parent) ≡ Some a → id_is a zero_id ≡ false
parent_set y a true e f = absurd (no_id None a refl f)
parent_set y a false e f = subst (λ (q : Id). id_is q zero_id ≡ false) (same y.parent a f) e
  where
    same : (p q : Id) → Some p ≡ Some q → p ≡ q
    same p q e = cc

set_by : (o : Option VolumeRecord) (a : Id) → option_and_then parent_in o ≡ Some a → id_is a zero_id ≡ false
set_by None a e = absurd (no_id None a refl e)
set_by (Some y) a e = parent_set y a (id_is y.parent zero_id) refl e

-- the first that counts is no volume of zeros
first_set : (r : Records) (v u : Id) (vs : List Id) → IsBelow r v vs → up_of r vs ≡ Some u → id_is u zero_id ≡ false
first_set r v u [] below e = absurd (no_id None u refl e)
first_set r v u (w ∷ ws) below e = go (is_passed r w) refl (λ f. first_set r w u ws below.1 f)
  where
    same : (p q : Id) → Some p ≡ Some q → p ≡ q
    same p q e = cc

    go : (b : Bool) → is_passed r w ≡ b → (up_of r ws ≡ Some u → id_is u zero_id ≡ false) → id_is u zero_id ≡ false
    go true p more = more (sym (ap (λ (b : Bool). slice_get (if not b then w ∷ counting r ws else counting r ws) 0) p) ∙ e)
    go false p more =
        subst (λ (q : Id). id_is q zero_id ≡ false)
        (same w u (sym (ap (λ (b : Bool). slice_get (if not b then w ∷ counting r ws else counting r ws) 0) p) ∙ e))
        (set_by (r v) w below.0)

settled_parent : (y : VolumeRecord) (up : Option Id) → ((u : Id) → up ≡ Some u → id_is u zero_id ≡ false) → parent_in (settled_record up y) ≡ up
settled_parent y None set = refl
settled_parent y (Some u) set = ap (λ (b : Bool). if b then None else Some u) (set u refl)

-- the pool's parent of a volume with a chain is the first of it that counts
pool_parent : (i : ImageIn) (x : Volumes) (m : Image) (v : Id) (vs : List Id) → IsImage i x m → IsBelow (records_of i x) v vs
    → parent (records_in m) v ≡ up_of (records_of i x) vs
pool_parent i x m v vs is below = go (related i x m v is)
  where
    no_up : (us : List Id) → IsBelow (records_of i x) v us → parent (records_of i x) v ≡ None → up_of (records_of i x) us ≡ None
    no_up [] b e = refl
    no_up (u ∷ us) b e = absurd (no_id (parent (records_of i x) v) u e b.0)

    go : Related (records_of i x) v (records_of i x v) (records_in m v) → parent (records_in m) v ≡ up_of (records_of i x) vs
    go (inl (a, b)) =
        ap (λ (o : Option VolumeRecord). option_and_then parent_in o) b
        ∙ sym (no_up vs below (ap (λ (o : Option VolumeRecord). option_and_then parent_in o) a))
    go (inr (y, (up, counts, a, b))) =
        let all = volumes_listed i x m m.fault is.opens in
        let same = one_counts (records_of i x) all.0 v up (up_of (records_of i x) vs) (known i x all.0 all.1) counts (up_counts (records_of i x) v vs below) in
        ap (λ (o : Option VolumeRecord). option_and_then parent_in o) b
        ∙ settled_parent y up (λ u e. first_set (records_of i x) v u vs below (sym same ∙ e)) ∙ same

-- ---- the chain

abbrev Chained : Records → List Id → Type 0
Chained r [] = Unit {0}
Chained r (w ∷ ws) = IsBelow r w ws

chained : (r : Records) (v : Id) (vs : List Id) → IsBelow r v vs → Chained r vs
chained r v [] below = tt
chained r v (w ∷ ws) below = below.1

pool_below : (i : ImageIn) (x : Volumes) (m : Image) (v : Id) (vs : List Id) → IsImage i x m → Chained (records_of i x) vs
    → parent (records_in m) v ≡ up_of (records_of i x) vs → IsBelow (records_in m) v (counting (records_of i x) vs)
pool_below i x m v [] is chain e = e
pool_below i x m v (w ∷ ws) is chain e =
    go (is_passed (records_of i x) w) refl (λ f. pool_below i x m v ws is (chained (records_of i x) w ws chain) f)
    (pool_below i x m w ws is (chained (records_of i x) w ws chain) (pool_parent i x m w ws is chain))
  where
    go : (b : Bool) → is_passed (records_of i x) w ≡ b
        → (parent (records_in m) v ≡ up_of (records_of i x) ws → IsBelow (records_in m) v (counting (records_of i x) ws))
        → IsBelow (records_in m) w (counting (records_of i x) ws)
        → IsBelow (records_in m) v (if not b then w ∷ counting (records_of i x) ws else counting (records_of i x) ws)
    go true p more rest =
        more (e ∙ ap (λ (b : Bool). slice_get (if not b then w ∷ counting (records_of i x) ws else counting (records_of i x) ws) 0) p)
    go false p more rest =
        (e ∙ ap (λ (b : Bool). slice_get (if not b then w ∷ counting (records_of i x) ws else counting (records_of i x) ws) 0) p, rest)

-- ---- the reading volume

legal_same : (i : ImageIn) (x : Volumes) (m : Image) (w : Id) → IsImage i x m → is_legal (records_in m) w ≡ is_legal (records_of i x) w
legal_same i x m w is = go (related i x m w is)
  where
    go : Related (records_of i x) w (records_of i x w) (records_in m w) → is_legal (records_in m) w ≡ is_legal (records_of i x) w
    go (inl (a, b)) = ap (λ (o : Option VolumeRecord). holds_in legal_in o) b ∙ sym (ap (λ (o : Option VolumeRecord). holds_in legal_in o) a)
    go (inr (y, (up, counts, a, b))) =
        ap (λ (o : Option VolumeRecord). holds_in legal_in o) b ∙ sym (ap (λ (o : Option VolumeRecord). holds_in legal_in o) a)

passed_by : (l m p q : Bool) → (p ≡ false → q ≡ false) → (not l && (m && p)) ≡ false → (not l && (m && q)) ≡ false
passed_by true m p q f e = refl
passed_by false false p q f e = refl
passed_by false true p q f e = f e

none_is : (o : Option Id) → is_some o ≡ false → o ≡ None
none_is None e = refl
none_is (Some a) e = absurd (false≢true (sym e))

passed_stays : (i : ImageIn) (x : Volumes) (m : Image) (w : Id) → IsImage i x m → is_passed (records_of i x) w ≡ false → is_passed (records_in m) w ≡ false
passed_stays i x m w is e = go (related i x m w is)
  where
    go : Related (records_of i x) w (records_of i x w) (records_in m w) → is_passed (records_in m) w ≡ false
    go (inl (a, b)) = ap (λ (o : Option VolumeRecord). holds_in passed_in o) b
    go (inr (y, (up, counts, a, b))) =
        ap (λ (o : Option VolumeRecord). holds_in passed_in o) b
        ∙ passed_by (legal_in y) y.merged (is_some (parent_in y)) (is_some (parent_in (settled_record up y)))
        (λ f. ap (λ (u : Option Id). is_some (parent_in (settled_record u y)))
        (counts.base (ap (λ (o : Option VolumeRecord). option_and_then parent_in o) a ∙ none_is (parent_in y) f)))
        (sym (ap (λ (o : Option VolumeRecord). holds_in passed_in o) a) ∙ e)

all_count : (r q : Records) (ws : List Id) → ((w : Id) → is_passed r w ≡ false → is_passed q w ≡ false) → counting q (counting r ws) ≡ counting r ws
all_count r q [] all = refl
all_count r q (w ∷ ws) all = go (is_passed r w) refl (all_count r q ws all)
  where
    go : (b : Bool) → is_passed r w ≡ b → counting q (counting r ws) ≡ counting r ws
        → counting q (if not b then w ∷ counting r ws else counting r ws) ≡ (if not b then w ∷ counting r ws else counting r ws)
    go true p more = more
    go false p more =
        ap (λ (t : Bool). if not t then w ∷ counting q (counting r ws) else counting q (counting r ws)) (all w p) ∙ ap (λ (us : List Id). w ∷ us) more

pub reading_agrees : (i : ImageIn) (x : Volumes) (m : Image) (v : Id) (vs : List Id) → IsImage i x m → IsReading (records_of i x) v vs
    → IsReading (records_in m) v (counting (records_of i x) vs)
reading_agrees i x m v vs is reads = record {
  below = pool_below i x m v vs is (chained (records_of i x) v vs reads.below) (pool_parent i x m v vs is reads.below);
  legal = legal_same i x m v is ∙ reads.legal;
  all = λ u legal. subst (λ (us : List Id). Contains (v ∷ us) u)
      (sym (all_count (records_of i x) (records_in m) vs (λ w e. passed_stays i x m w is e))) (reads.all u (sym (legal_same i x m u is) ∙ legal));
}
