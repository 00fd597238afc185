-- What is known as the rewriting of a text begins, and as a text stays.
use Rattle.std.proofs.Common.{◌≡◌, ◌≢◌, ◌⊎◌, ℕ, ◌+◌, ◌<◌, ◌≤◌, true, List, length, Option, Some, None, refl, sym, ap, ◌∙◌, subst, inl, inr, arith}
use Rattle.std.specs.Prelude.{slice_get}
use Rattle.std.specs.Option.{option_map}
use Rattle.std.proofs.lemmas.Bool.{cases_lt}
use Rattle.std.proofs.lemmas.Option.{get_or_from_slice_get, none-some, same_Some, slice_get-map, slice_get_within}
use Rattle.sd_names.specs.declared.id.Id.{Id}
use Rattle.sd_names.specs.declared.kinds.VolType.{VolType}
use Rattle.sd_names.specs.Turn.{MatchTurn}
use Rattle.sd_names.specs.declared.place.Place.{Place}
use Rattle.sd_names.specs.declared.refusal.Refusal.TheVariants.{DiskFault}
use Rattle.sd_names.specs.declared.turn.Turn.TheVariants.{More, Done}
use Rattle.shared_disk.specs.Content.{Content}
use Rattle.volume_meta.specs.Valid.{IsValid}
use Rattle.volume_meta.specs.declared.record.VolumeRecord.{VolumeRecord}
use Rattle.volume_meta.specs.Text.{volume_text}
use Rattle.volume_texts.specs.Write.{file_of, new_place, stage_of, text_place, version_of, volatile_of}
use Rattle.volume_texts.specs.declared.write.TextWrite.{TextWrite}
use Rattle.whole_file.specs.Replace.{IsReady}
use Rattle.whole_file.specs.declared.replace.Stage.{Stage as ReplaceStage}
use Rattle.whole_file.specs.declared.replace.Stage.TheVariants.{Begun}
use Rattle.qcow_layer.specs.Opening.{place_kept}
use Rattle.chain_model.specs.Folder.{Volumes}
use Rattle.chain_model.specs.Records.{Records, is_legal}
use Rattle.chain_records.specs.Records.{files_of, ids_of, records_in}
use Rattle.chain_records.specs.Rewriting.{changed, naming, typed}
use Rattle.chain_records.specs.Settling.{ArePartlyRewritten, AreRewritten, HasPassedParent, IsRewritten}
use Rattle.chain_records.specs.declared.volume.Volume.{Volume}
use Rattle.chain_records.proofs.Lists.{some_record}
use Rattle.chain_records.proofs.Partly.{legal_alike}
use Rattle.chain_records.proofs.Stepwise.{parent_step, parents_done, type_step}
use Rattle.chain_gathering.specs.Steps.{IsShown}
use Rattle.volume_chain.specs.Chain.{records_kept}
use Rattle.volume_chain.specs.Parts.{version_of as chain_version, with_records}
use Rattle.volume_chain.specs.declared.chain.Chain.{Chain}
use Rattle.chain_settling.specs.Alike.{HasTypeOf, IsOfImage, KnowsImage, ReadsAlike}
use Rattle.chain_settling.specs.Reopening.{OpensAlike}
use Rattle.chain_settling.specs.Was.{folder_in, image_kept}
use Rattle.chain_settling.specs.Begun.{IsBegunText, IsEndTurn}
use Rattle.chain_settling.specs.Fit.{AreValid, IsFit, StageTurn, chain_in}
use Rattle.chain_settling.specs.Left.{MeetsAt}
use Rattle.chain_settling.specs.Knowing.{AreTo, IsDone, IsPartDone, IsSettledImage, IsTyped, KnowsTexts, KnowsWriting}
use Rattle.chain_settling.specs.Steps.{KnowsStage, Settles, SettlesIn}
use Rattle.chain_settling.specs.Work.{IsChange, IsIdAt, IsRightType, changed_to}
use Rattle.chain_settling.specs.declared.stages.Part.{Part}
use Rattle.chain_settling.specs.declared.stages.Part.TheVariants.{Parents, Types}
use Rattle.chain_settling.specs.declared.stages.Stage.{Stage}
use Rattle.chain_settling.specs.declared.stages.Stage.TheVariants.{Texts}
use Rattle.chain_settling.specs.declared.texts.Change.{Change}
use Rattle.chain_settling.specs.declared.texts.Change.TheVariants.{Parent, Voltype}
use Rattle.chain_settling.proofs.Alike.{no_step, same_or_not}
use Rattle.chain_settling.proofs.Rights.{change_needed}
use Rattle.chain_settling.proofs.Plans.{changed_here, changed_there, done_on, names_up, parent_by, partly, place_of, right_before, stays_done, typed_on, voltype_in, was}

-- ---- records that are the same one by one

partly_same : (r s t : Records) → ((u : Id) → t u ≡ s u) → ArePartlyRewritten r s → ArePartlyRewritten r t
partly_same r s t same are u = subst (λ (o : Option VolumeRecord). (o ≡ r u) ⊎ IsRewritten r u (r u) o) (sym (same u)) (are u)

rewritten_same : (r s t : Records) → ((u : Id) → t u ≡ s u) → AreRewritten r s → AreRewritten r t
rewritten_same r s t same are u = subst (λ (o : Option VolumeRecord). IsRewritten r u (r u) o) (sym (same u)) (are u)

done_same : (r s t : Records) (u : Id) → t u ≡ s u → IsDone r s u → IsDone r t u
done_same r s t u same is has = subst (λ (o : Option VolumeRecord). IsRewritten r u (r u) o) (sym same) (is has)

typed_same : (r s t : Records) (u : Id) → t u ≡ s u → IsTyped r s u → IsTyped r t u
typed_same r s t u same is y e = is y (sym same ∙ e)

-- ---- one place more of the list

place_on : (c : Chain) (P Q : Id → Type 0) (i : ℕ) (v : Id) → slice_get (ids_of (records_kept c)) i ≡ Some v → ((u : Id) → P u ⊎ (u ≡ v) → Q u) → AreTo c P i → AreTo c Q (i + 1)
place_on c P Q i v at on are j u low here = go (cases_lt j i)
  where
    go : (j < i) ⊎ (i ≤ j) → Q u
    go (inl less) = on u (inl (are j u less here))
    go (inr not) =
        let same : j ≡ i = omega (arith, low, not) in
        on u (inr (same_Some u v (sym here ∙ ap (λ (n : ℕ). slice_get (ids_of (records_kept c)) n) same ∙ at)))

stay_or : (P : Id → Type 0) (v u : Id) → P v → P u ⊎ (u ≡ v) → P u
stay_or P v u here (inl is) = is
stay_or P v u here (inr same) = subst P (sym same) here

-- ---- a text that stays

stays : (c : Chain) (p : Part) (i : ℕ) (v : Id) (r : Records) (x : Volumes) (d : Content) → KnowsImage c r x d → slice_get (ids_of (records_kept c)) i ≡ Some v
    → IsChange p (records_in (records_kept c)) v None → IsPartDone c r p i → (y : VolumeRecord) → records_in (records_kept c) v ≡ Some y → IsPartDone c r p (i + 1)
stays c Parents i v r x d k at none done y is =
    place_on c (IsDone r (records_in (records_kept c))) (IsDone r (records_in (records_kept c))) i v at
    (λ u was. stay_or (IsDone r (records_in (records_kept c))) v u (stays_done r (records_in (records_kept c)) v k.chains k.partly none) was) done
stays c Types i v r x d k at none done y is = (
  done.0,
  place_on c (IsTyped r (records_in (records_kept c))) (IsTyped r (records_in (records_kept c))) i v at
      (λ u was. stay_or (IsTyped r (records_in (records_kept c))) v u (λ z e. right_before r (records_in (records_kept c)) v z.voltype k.chains k.partly (none z e)) was) done.1,
)

pub text_stays : (c : Chain) (p : Part) (i host : ℕ) (v : Id) (r : Records) (x : Volumes) (d : Content) → KnowsTexts c p i host r x d → slice_get (ids_of (records_kept c)) i ≡ Some v
    → IsChange p (records_in (records_kept c)) v None → (y : VolumeRecord) → records_in (records_kept c) v ≡ Some y → KnowsTexts c p (i + 1) host r x d
text_stays c p i host v r x d k at none y is = record {
  image = k.image;
  said = k.said;
  tidy = k.tidy;
  rest = k.rest;
  told = k.told;
  done = stays c p i v r x d k.image at none k.done y is;
}

-- ---- the list has ended

-- a volume whose parent is passed over has a record, and so a place
pub parents_end : (c : Chain) (i host : ℕ) (r : Records) (x : Volumes) (d : Content) → length (records_kept c) ≤ i → KnowsTexts c Parents i host r x d → KnowsTexts c Types 0 host r x d
parents_end c i host r x d past k = record {
  image = k.image;
  said = k.said;
  tidy = k.tidy;
  rest = k.rest;
  told = k.told;
  done = (parents_done r s k.image.partly (λ v has. at v has (s v) refl (k.image.partly v)), λ j v low here. absurd (omega (arith, low)));
}
  where
    s : Records
    s = records_in (records_kept c)

    at : (v : Id) → HasPassedParent r v → (o : Option VolumeRecord) → s v ≡ o → (s v ≡ r v) ⊎ IsRewritten r v (r v) (s v) → IsRewritten r v (r v) (s v)
    at v has o e (inr is) = is
    at v has (Some y) e (inl same) =
        let place = place_of (records_kept c) v y e in
        k.done place.0 v (omega (arith, place.1, past)) place.2 has
    at v has None e (inl same) = absurd (none-some has.0 (ap (λ (z : Option VolumeRecord). parent_by z) (sym e ∙ same) ∙ has.1))

pub types_end : (c : Chain) (i host : ℕ) (r : Records) (x : Volumes) (d : Content) → length (records_kept c) ≤ i → KnowsTexts c Types i host r x d → IsSettledImage c host r x d
types_end c i host r x d past k = record {
  image = k.image;
  said = k.said;
  rewritten = k.done.0;
  typed = λ v y e. let place = place_of (records_kept c) v y e in k.done.1 place.0 v (omega (arith, place.1, past)) place.2 y e;
  tidy = k.tidy;
  rest = k.rest;
  told = k.told;
}

-- ---- a text that is rewritten

-- a change leaves what makes a record one of the image
change_of_image : (change : Change) (c : Chain) (z : VolumeRecord) → IsValid (changed_to change z) → IsOfImage (image_kept c) z → IsOfImage (image_kept c) (changed_to change z)
change_of_image (Parent up) c z valid own = record { domain = own.domain; id = own.id; legible = record { valid = valid; description = own.legible.description; disk_type = own.legible.disk_type } }
change_of_image (Voltype t) c z valid own = record { domain = own.domain; id = own.id; legible = record { valid = valid; description = own.legible.description; disk_type = own.legible.disk_type } }

changed_partly : (p : Part) (c : Chain) (i : ℕ) (v : Id) (change : Change) (r : Records) (x : Volumes) (d : Content) → KnowsImage c r x d → IsPartDone c r p i
    → IsChange p (records_in (records_kept c)) v (Some change) → ArePartlyRewritten r (changed v (changed_to change) (records_in (records_kept c)))
changed_partly Parents c i v (Parent up) r x d k done is = parent_step r (records_in (records_kept c)) v up k.partly (names_up r (records_in (records_kept c)) v up k.partly is.0)
changed_partly Parents c i v (Voltype t) r x d k done is = absurd is
changed_partly Types c i v (Parent up) r x d k done is = absurd is
changed_partly Types c i v (Voltype t) r x d k done is = partly r (changed v (typed t) (records_in (records_kept c))) (type_step r (records_in (records_kept c)) v t done.0)

-- a change leaves each VOLTYPE as it was, or makes it the one that it has to be
changed_types : (p : Part) (c : Chain) (v : Id) (change : Change) (r : Records) (x : Volumes) (d : Content) → KnowsImage c r x d → IsChange p (records_in (records_kept c)) v (Some change)
    → (u : Id) → HasTypeOf r u (changed v (changed_to change) (records_in (records_kept c)) u)
changed_types p c v change r x d k is u = go (same_or_not u v)
  where
    mapped : (p : Part) (change : Change) (o : Option VolumeRecord) → IsChange p (records_in (records_kept c)) v (Some change) → HasTypeOf r v o → HasTypeOf r v (option_map (changed_to change) o)
    mapped Parents (Parent up) None is has was y at now = absurd cc
    mapped Parents (Parent up) (Some z) is has was y at now =
        subst (λ (w : VolumeRecord). (w.voltype ≡ was.voltype) ⊎ ((is_legal r v ≡ true) × IsRightType r v w.voltype)) (same_Some (naming up z) y now) (has was z at refl)
    mapped Parents (Voltype t) o is has was y at now = absurd is
    mapped Types (Parent up) o is has was y at now = absurd is
    mapped Types (Voltype t) o is has was y at now =
        inr (sym (legal_alike r (records_in (records_kept c)) v k.partly) ∙ is.0, subst (λ (n : VolType). IsRightType r v n) (sym (voltype_in o t y now)) (right_before r (records_in (records_kept c)) v t k.chains k.partly is.1))

    here : HasTypeOf r v (changed v (changed_to change) (records_in (records_kept c)) v)
    here = subst (HasTypeOf r v) (sym (changed_here v (changed_to change) (records_in (records_kept c)))) (mapped p change (records_in (records_kept c) v) is (k.types v))

    go : (u ≡ v) ⊎ (u ≢ v) → HasTypeOf r u (changed v (changed_to change) (records_in (records_kept c)) u)
    go (inl same) = subst (λ (w : Id). HasTypeOf r w (changed v (changed_to change) (records_in (records_kept c)) w)) (sym same) here
    go (inr other) = subst (HasTypeOf r u) (sym (changed_there v u (changed_to change) (records_in (records_kept c)) other)) (k.types u)

changed_done : (p : Part) (c : Chain) (i : ℕ) (v : Id) (change : Change) (xs : List Volume) (r : Records) (x : Volumes) (d : Content) → KnowsImage c r x d → IsPartDone c r p i
    → slice_get (ids_of (records_kept c)) i ≡ Some v → ids_of xs ≡ ids_of (records_kept c)
    → ((u : Id) → records_in xs u ≡ changed v (changed_to change) (records_in (records_kept c)) u)
    → IsChange p (records_in (records_kept c)) v (Some change) → IsPartDone (with_records c xs) r p (i + 1)
changed_done Parents c i v (Parent up) xs r x d k done at ids same is =
    let s : Records = records_in (records_kept c) in
    let up_is = names_up r s v up k.partly is.0 in
    λ j u low here. place_on c (IsDone r s) (IsDone r (records_in xs)) i v at
    (λ w was. done_same r (changed v (naming up) s) (records_in xs) w (same w) (done_on r s v w up k.partly up_is was)) done j u low (ap (λ (vs : List Id). slice_get vs j) (sym ids) ∙ here)
changed_done Parents c i v (Voltype t) xs r x d k done at ids same is = absurd is
changed_done Types c i v (Parent up) xs r x d k done at ids same is = absurd is
changed_done Types c i v (Voltype t) xs r x d k done at ids same is =
    let s : Records = records_in (records_kept c) in
    let right = right_before r s v t k.chains k.partly is.1 in (
      rewritten_same r (changed v (typed t) s) (records_in xs) same (type_step r s v t done.0),
      λ j u low here. place_on c (IsTyped r s) (IsTyped r (records_in xs)) i v at
          (λ w was. typed_same r (changed v (typed t) s) (records_in xs) w (same w) (typed_on r s v w t right was)) done.1 j u low (ap (λ (vs : List Id). slice_get vs j) (sym ids) ∙ here),
    )

ready : (s : ReplaceStage) (host : ℕ) (text : List ℕ) (place : Place) (d : Content) → s ≡ Begun → IsReady s host text place d
ready s host text place d e = subst (λ (z : ReplaceStage). IsReady z host text place d) (sym e) tt

pub text_begins : (c : Chain) (p : Part) (i host : ℕ) (v : Id) (change : Change) (xs : List Volume) (w : TextWrite) (r : Records) (x : Volumes) (d : Content) → KnowsTexts c p i host r x d
    → slice_get (ids_of (records_kept c)) i ≡ Some v → IsChange p (records_in (records_kept c)) v (Some change) → AreValid (with_records c xs)
    → ids_of xs ≡ ids_of (records_kept c) → files_of xs ≡ files_of (records_kept c) → ((u : Id) → records_in xs u ≡ changed v (changed_to change) (records_in (records_kept c)) u)
    → (says : VolumeRecord) → records_in xs v ≡ Some says → file_of w ≡ text_place (folder_in c) v → volatile_of w ≡ new_place (folder_in c) v → version_of w ≡ chain_version c → stage_of w ≡ Begun
    → KnowsWriting (with_records c xs) p i w host r x d
text_begins c p i host v change xs w r x d k at is valid ids files same says here file volatile version begun = record {
  image = record {
    folder = k.image.folder;
    chains = k.image.chains;
    alike = k.image.alike;
    opens = k.image.opens;
    partly = partly_same r (changed v (changed_to change) s) (records_in xs) same (changed_partly p c i v change r x d k.image k.done is);
    types = λ u. subst (HasTypeOf r u) (sym (same u)) (changed_types p c v change r x d k.image is u);
    kept = λ u y e. let z = was v (changed_to change) s u y (sym (same u) ∙ e) in k.image.kept u z.0 z.1;
    legible = λ u y e. let z = was v (changed_to change) s u y (sym (same u) ∙ e) in of_image u y e z.0 (k.image.legible u z.0 z.1) z.2;
    cows = k.image.cows;
    was = record {
      first = k.image.was.first;
      shown = k.image.was.shown;
      records = k.image.was.records;
      ids = ids ∙ k.image.was.ids;
      files = files ∙ k.image.was.files;
      checked = k.image.was.checked;
      reading = k.image.was.reading;
      all = k.image.was.all;
      each = k.image.was.each;
    };
    alone = k.image.alone;
  };
  volume = v;
  at = ap (λ (vs : List Id). slice_get vs i) ids ∙ at;
  says = says;
  is = here;
  wrong = change_needed p c v change r x d k.image is;
  file = file;
  volatile = volatile;
  version = version;
  said = λ u other. k.said u ∙ sym (same u ∙ changed_there v u (changed_to change) s other);
  tidy = λ o other. k.tidy o;
  rest = record { layers = record { each = λ b l is. record { place = (k.rest.layers.each b l is).place; file = (k.rest.layers.each b l is).file; there = (k.rest.layers.each b l is).there; knows = (k.rest.layers.each b l is).knows; settled = (k.rest.layers.each b l is).settled }; apart = k.rest.layers.apart }; whole = k.rest.whole };
  told = k.told;
  done = changed_done p c i v change xs r x d k.image k.done at ids same is;
  write = record { folder = ap (λ (q : Place). d.dir q.dir) file ∙ k.image.folder; ready = ready (stage_of w) host (volume_text (version_of w) says) (volatile_of w) d begun };
}
  where
    s : Records
    s = records_in (records_kept c)

    of_image : (u : Id) (y : VolumeRecord) → records_in xs u ≡ Some y → (z : VolumeRecord) → IsOfImage (image_kept c) z → (y ≡ z) ⊎ (y ≡ changed_to change z) → IsOfImage (image_kept c) y
    of_image u y e z own (inl same) = subst (λ (q : VolumeRecord). IsOfImage (image_kept c) q) (sym same) own
    of_image u y e z own (inr now) =
        subst (λ (q : VolumeRecord). IsOfImage (image_kept c) q) (sym now) (change_of_image change c z (subst IsValid now (valid u y e)) own)

-- ---- the turn of a step

pub id_at : (c : Chain) (i : ℕ) (v : Id) → IsIdAt c i v → slice_get (ids_of (records_kept c)) i ≡ Some v
id_at c i v is = slice_get-map (λ (y : Volume). y.id) (records_kept c) i ∙ ap (λ (o : Option Volume). option_map (λ (y : Volume). y.id) o) is.1 ∙ ap (λ (u : Id). Some u) is.2

nothing_done : (s : Stage) (host faults : ℕ) (r : Records) (x : Volumes) (turn : StageTurn) (d : Content) → MeetsAt (IsShown (folder_in (chain_in s)) d) s turn
    → ReadsAlike (image_kept (chain_in s)) (folder_in (chain_in s)) r x d → OpensAlike (image_kept (chain_in s)) (folder_in (chain_in s)) r x d
    → MatchTurn turn (λ next. KnowsStage next host r x d) (λ c. IsSettledImage c host r x d) (λ _ refusal. refusal ≡ DiskFault faults) → Settles s host faults r x turn d d
nothing_done s host faults r x turn d shows alike opens after = record { shows = shows; dirs = λ q. refl; others = λ q _. refl; kept = λ q _. refl; layers = λ b l _. no_step r l (d.file (place_kept l)) (d.file (place_kept l)) refl; alike = alike; opens = opens; right = λ v ok. refl; after = after }

pub list_ends : (c : Chain) (p : Part) (i : ℕ) (turn : StageTurn) → length (records_kept c) ≤ i → IsEndTurn c p turn → (host faults : ℕ) (d : Content) → SettlesIn (Texts c p i) host faults turn d d
list_ends c Parents i turn past is host faults d r x k =
    subst (λ (t : StageTurn). Settles (Texts c Parents i) host faults r x t d d) (sym is) (nothing_done (Texts c Parents i) host faults r x (More (Texts c Types 0)) d tt k.image.alike k.image.opens (parents_end c i host r x d past k))
list_ends c Types i turn past is host faults d r x k =
    subst (λ (t : StageTurn). Settles (Texts c Types i) host faults r x t d d) (sym is) (nothing_done (Texts c Types i) host faults r x (Done c) d tt k.image.alike k.image.opens (types_end c i host r x d past k))

-- a volume of the list has a record
pub record_of : (c : Chain) (i : ℕ) (v : Id) → IsIdAt c i v → (y : VolumeRecord) × (records_in (records_kept c) v ≡ Some y)
record_of c i v is =
    let at = id_at c i v is in
    some_record (records_kept c) v (i, slice_get_within (ids_of (records_kept c)) i v at, get_or_from_slice_get (ids_of (records_kept c)) i v v at)

pub volume_stays : (c : Chain) (p : Part) (i : ℕ) (v : Id) → IsIdAt c i v → IsChange p (records_in (records_kept c)) v None → (host faults : ℕ) (d : Content)
    → SettlesIn (Texts c p i) host faults (More (Texts c p (i + 1))) d d
volume_stays c p i v at none host faults d r x k =
    let there = record_of c i v at in
    nothing_done (Texts c p i) host faults r x (More (Texts c p (i + 1))) d tt k.image.alike k.image.opens (text_stays c p i host v r x d k (id_at c i v at) none there.0 there.1)

pub volume_changes : (c : Chain) (p : Part) (i : ℕ) (v : Id) (change : Change) (s : Stage) → IsIdAt c i v → IsChange p (records_in (records_kept c)) v (Some change) → IsFit s → IsBegunText c p i v change s
    → (host faults : ℕ) (d : Content) → SettlesIn (Texts c p i) host faults (More s) d d
volume_changes c p i v change s at is fit begun host faults d r x k =
    let valid : AreValid (with_records c begun.kept) = subst (λ (z : Stage). AreValid (chain_in z)) begun.stage fit.valid in
    nothing_done (Texts c p i) host faults r x (More s) d tt k.image.alike k.image.opens
    (subst (λ (z : Stage). KnowsStage z host r x d) (sym begun.stage)
    (text_begins c p i host v change begun.kept begun.write r x d k (id_at c i v at) is valid begun.ids begun.files begun.records begun.says begun.is begun.file begun.volatile begun.version begun.begun))
