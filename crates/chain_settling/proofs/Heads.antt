-- What is known while the header of a layer of the path is rewritten.
use Rattle.std.proofs.Common.{◌≡◌, ◌≢◌, ◌⊎◌, ℕ, zero, suc, ◌+◌, ◌*◌, ◌%◌, ◌^◌, ◌<◌, List, [], ◌∷◌, length, Option, Some, None, Ok, refl, sym, ap, ◌∙◌, subst, inl, inr, arith}
use Rattle.std.specs.Prelude.{slice_get, slice_set}
use Rattle.std.proofs.lemmas.Option.{same_Some, slice_get_within}
use Rattle.sd_names.specs.Turn.{MatchTurn}
use Rattle.sd_names.specs.declared.id.Id.{Id}
use Rattle.sd_names.specs.declared.place.Dir.{Dir}
use Rattle.sd_names.specs.declared.place.Place.{Place}
use Rattle.sd_names.specs.declared.turn.Turn.TheVariants.{More, Done, Ended}
use Rattle.shared_disk.specs.Content.{Content, File}
use Rattle.shared_disk.specs.Crash.{IsAlso, IsSettled, OnEach}
use Rattle.shared_disk.specs.WellFormed.{IsWellFormed, IsWellFormedFile}
use Rattle.shared_disk.proofs.AtPlace.{one_file}
use Rattle.shared_disk.proofs.Outcomes.{settled_file}
use Rattle.shared_disk.proofs.WellFormed.{outcome_file_keeps}
use Rattle.qcow_format.specs.declared.header.Header.{Header}
use Rattle.image_model.specs.File as numbers
use Rattle.image_model.specs.File.{file_of}
use Rattle.image_model.specs.Layer.{entry_at, own_byte}
use Rattle.image_model.specs.Soundness.{layer_header}
use Rattle.layer_creating.specs.declared.backing.Backing.{Backing}
use Rattle.layer_laws.specs.Laws.{layer}
use Rattle.layer_heading.specs.Rebased.{IsOldOrOver, rebased}
use Rattle.layer_heading.specs.Rebasing as heading
use Rattle.layer_heading.specs.Rebasing.{IsSameRebasing, KeepsLayer, backing_of, stage_of}
use Rattle.layer_heading.specs.Writing.{IsQuiet, Leaves, Turned}
use Rattle.layer_heading.specs.declared.rebasing.Rebasing.{Rebasing}
use Rattle.layer_heading.specs.declared.rebasing.Stage.{Stage as RebasingStage}
use Rattle.layer_heading.specs.declared.rebasing.Stage.TheVariants.{Begun}
use Rattle.layer_writing.proofs.Known.{settled_knows}
use Rattle.layer_writing.specs.Holding.{on_medium}
use Rattle.layer_writing.specs.Writer.{KnowsWriter}
use Rattle.qcow_layer.proofs.Knowing.{settled_seen}
use Rattle.qcow_layer.specs.Opening.{capacity_kept, header_kept, parent_kept, place_kept, target_kept, volume_kept}
use Rattle.qcow_layer.specs.declared.stages.Target.{Target}
use Rattle.qcow_layer.specs.declared.layer.Layer.{Layer}
use Rattle.settling_steps.specs.Leftovers.{IsTidy, temporary_in}
use Rattle.settling_steps.specs.Lengthening.{IsWhole}
use Rattle.volume_meta.specs.declared.record.VolumeRecord.{VolumeRecord}
use Rattle.chain_model.specs.Folder.{Volumes}
use Rattle.chain_model.specs.Own.{own_by}
use Rattle.chain_model.specs.Records.{Records}
use Rattle.chain_records.specs.Records.{records_in}
use Rattle.chain_records.specs.Settling.{IsOver, IsRewritten}
use Rattle.volume_chain.specs.Chain.{IsOpenAs, open_in, path_in, records_kept, target_of}
use Rattle.volume_chain.specs.Parts.{with_open, with_volumes}
use Rattle.volume_chain.specs.declared.chain.Chain.{Chain}
use Rattle.volume_chain.specs.declared.chain.Target as chains
use Rattle.volume_chain.specs.declared.volumes.OpenVolume.{OpenVolume}
use Rattle.volume_chain.specs.declared.volumes.OpenVolume.TheVariants.{Cow, Raw}
use Rattle.chain_settling.specs.Alike.{HasTypeOf, HoldsAlike, IsCow, IsCowOf, IsSaid, KnowsImage, ReadsAlike}
use Rattle.chain_settling.specs.Reopening.{OpensAlike}
use Rattle.chain_settling.specs.Was.{IsLeftAlone, IsOffLayers, WasLong, file_in, folder_in, image_kept, text_in}
use Rattle.chain_settling.specs.Fit.{StageTurn}
use Rattle.chain_settling.specs.Knowing.{IsAsNamed, IsHeadOf, KnowsHeaders, KnowsHeading, KnowsSettled, TellsUp}
use Rattle.chain_settling.specs.Steps.{IsLayerStep, IsOther, KnowsStage, RebasesAt, Settles}
use Rattle.chain_settling.specs.Work.{IsBackingFor, IsLayerAt}
use Rattle.chain_settling.specs.declared.stages.Stage.TheVariants as stages
use Rattle.chain_settling.proofs.Alike.{no_step, said_same, same_or_not}
use Rattle.chain_settling.proofs.Grows.{file_not_text, files_apart, nat_cases, temporary_not_file}
use Rattle.chain_settling.proofs.HeadNames.{IsHead}
use Rattle.chain_settling.proofs.HeadOpens.{heading_opens, heads_after, named_before}
use Rattle.chain_settling.proofs.Kept.{whole_kept}
use Rattle.chain_settling.proofs.Plans.{backing_before, over_one}
use Rattle.chain_settling.proofs.Held.{held_alike}

-- ---- a list of which an element is changed

set_same : {A : Type 0} (xs : List A) (i : ℕ) (v : A) → i < length xs → slice_get (slice_set xs i v) i ≡ Some v
set_same [] i v low = absurd (omega (arith, low))
set_same (y ∷ ys) zero v low = refl
set_same (y ∷ ys) (suc i) v low = set_same ys i v (omega (arith, low))

set_other : {A : Type 0} (xs : List A) (i b : ℕ) (v : A) → b ≢ i → slice_get (slice_set xs i v) b ≡ slice_get xs b
set_other [] i b v other = refl
set_other (y ∷ ys) zero zero v other = absurd (other refl)
set_other (y ∷ ys) zero (suc b) v other = refl
set_other (y ∷ ys) (suc i) zero v other = refl
set_other (y ∷ ys) (suc i) (suc b) v other = set_other ys i b v (λ same. other (ap suc same))

set_length : {A : Type 0} (xs : List A) (i : ℕ) (v : A) → length (slice_set xs i v) ≡ length xs
set_length [] i v = refl
set_length (y ∷ ys) zero v = refl
set_length (y ∷ ys) (suc i) v = ap suc (set_length ys i v)

-- a layer that is open for the same volume is open as that one
same_target : (t : chains.Target) (u : Id) (o : Option VolumeRecord) (m after : Layer) → target_kept after ≡ target_kept m → IsOpenAs t u o (Cow m) → IsOpenAs t u o (Cow after)
same_target t u None m after same is = is
same_target t u (Some y) m after same is = (is.0, same ∙ is.1)

-- ---- what a layer holds over another backing file

same_bytes : (h : Header) (b : Backing) (f : numbers.File) (i : ℕ) → own_byte (layer (rebased h b) f) i ≡ own_byte (layer h f) i
unfolding own_byte entry_at
same_bytes h b f i = refl

-- the header of a file, which holds what the layer's own header says
record Head (m : Layer) (f : File) : Type 0 where
  head : Header
  is : layer_header (on_medium f) (capacity_kept m) ≡ Ok head
  same : (i : ℕ) → own_byte (layer head (on_medium f)) i ≡ own_byte (layer (header_kept m) (on_medium f)) i

head_of : (m : Layer) (b : Backing) (f : File) → IsHeadOf m b f → Head m f
head_of m b f (inl old) = record { head = header_kept m; is = old; same = λ i. refl }
head_of m b f (inr new) = record { head = rebased (header_kept m) b; is = new; same = λ i. same_bytes (header_kept m) b (on_medium f) i }

next_head : (m : Layer) (b : Backing) (f g : File) → IsHeadOf m b f → IsOldOrOver (header_kept m) b (capacity_kept m) (on_medium f) (on_medium g) → IsHeadOf m b g
next_head m b f g (inl old) (inl same) = inl (ap (λ (z : numbers.File). layer_header z (capacity_kept m)) same ∙ old)
next_head m b f g (inr new) (inl same) = inr (ap (λ (z : numbers.File). layer_header z (capacity_kept m)) same ∙ new)
next_head m b f g was (inr (inl still)) = inl still.header
next_head m b f g was (inr (inr over)) = inr over.header

bytes_kept : (m : Layer) (b : Backing) (f g : File) → IsOldOrOver (header_kept m) b (capacity_kept m) (on_medium f) (on_medium g) → (i : ℕ)
    → own_byte (layer (header_kept m) (on_medium g)) i ≡ own_byte (layer (header_kept m) (on_medium f)) i
bytes_kept m b f g (inl same) i = ap (λ (z : numbers.File). own_byte (layer (header_kept m) z) i) same
bytes_kept m b f g (inr (inl still)) i = still.rest.bytes i
bytes_kept m b f g (inr (inr over)) i = sym (same_bytes (header_kept m) b (on_medium g) i) ∙ over.rest.bytes i

next_holds : (m : Layer) (b : Backing) (o : Option VolumeRecord) (f g : File) → IsCow m o → IsWellFormedFile f → IsWellFormedFile g → IsHeadOf m b f → IsOldOrOver (header_kept m) b (capacity_kept m) (on_medium f) (on_medium g)
    → (k : ℕ) → own_by o (Some g) k ≡ own_by o (Some f) k
next_holds m b None f g cow formed also was step k = refl
next_holds m b (Some y) f g cow formed also was step k =
    let old = head_of m b f was in
    let new = head_of m b g (next_head m b f g was step) in
    held_alike y f g old.head new.head cow.0 (ap (λ (n : ℕ). layer_header (on_medium f) n) cow.1 ∙ old.is) (ap (λ (n : ℕ). layer_header (on_medium g) n) cow.1 ∙ new.is) formed also
    (λ i. new.same i ∙ bytes_kept m b f g step i ∙ sym (old.same i)) k

module _ (c : Chain) (at : ℕ) (h : Rebasing) (after : Layer) (host faults : ℕ) (r : Records) (x : Volumes) (turn : Turned Rebasing) (d e : Content) (formed : IsWellFormed e) (k : KnowsHeading c at h host r x d) (target : target_kept after ≡ target_kept k.layer)
    (steps : heading.Steps h k.layer after host faults turn d e) (new : OnEach (steps.here k.file k.there k.knows).0 (IsHead k.layer (backing_of h))) where
  abbrev dir : Dir
  dir = folder_in c

  pub here : (f : File) × (e.file (place_kept k.layer) ≡ Some f) × Leaves (IsOldOrOver (header_kept k.layer) (backing_of h) (capacity_kept k.layer)) (λ next. heading.KnowsFile next k.layer host) k.layer after host faults turn k.file f
  here = steps.here k.file k.there k.knows

  elsewhere : (q : Place) → q ≢ place_kept k.layer → e.file q ≡ d.file q
  elsewhere = steps.others

  texts_same : (u : Id) → e.file (text_in dir u) ≡ d.file (text_in dir u)
  texts_same u = elsewhere (text_in dir u) (λ same. file_not_text dir u (volume_kept k.layer) (same ∙ k.place))

  file_same : (u : Id) → u ≢ volume_kept k.layer → e.file (file_in dir u) ≡ d.file (file_in dir u)
  file_same u other = elsewhere (file_in dir u) (λ same. files_apart dir u (volume_kept k.layer) other (same ∙ k.place))

  formed_before : IsWellFormedFile k.file
  formed_before = k.formed.files (place_kept k.layer) k.file k.there

  formed_after : IsWellFormedFile here.0
  formed_after = formed.files (place_kept k.layer) here.0 here.1

  heads : OnEach here.0 (IsHeadOf k.layer (backing_of h))
  heads g out = let from = here.2.comes g out in next_head k.layer (backing_of h) from.0 g (k.heads from.0 from.1) from.2

  holds : (t : File) → OnEach k.file (HoldsAlike (r (volume_kept k.layer)) t) → OnEach here.0 (HoldsAlike (r (volume_kept k.layer)) t)
  holds t each g out n =
      let from = here.2.comes g out in
      next_holds k.layer (backing_of h) (r (volume_kept k.layer)) from.0 g k.cow (outcome_file_keeps k.file from.0 formed_before from.1) (outcome_file_keeps here.0 g formed_after out) (k.heads from.0 from.1) from.2 n ∙ each from.0 from.1 n

  file_here : IsAlso (λ f g. OnEach g (HoldsAlike (r (volume_kept k.layer)) f)) (x.file (volume_kept k.layer)) (e.file (file_in dir (volume_kept k.layer)))
  file_here = go (x.file (volume_kept k.layer)) (subst (λ (o : Option File). IsAlso (λ f g. OnEach g (HoldsAlike (r (volume_kept k.layer)) f)) (x.file (volume_kept k.layer)) o) (ap (λ (p : Place). d.file p) (sym k.place) ∙ k.there) (k.image.alike.files (volume_kept k.layer)))
    where
      go : (t : Option File) → IsAlso (λ f g. OnEach g (HoldsAlike (r (volume_kept k.layer)) f)) t (Some k.file) → IsAlso (λ f g. OnEach g (HoldsAlike (r (volume_kept k.layer)) f)) t (e.file (file_in dir (volume_kept k.layer)))
      go None also = absurd also
      go (Some t) also = subst (λ (o : Option File). IsAlso (λ f g. OnEach g (HoldsAlike (r (volume_kept k.layer)) f)) (Some t) o) (sym (ap (λ (p : Place). e.file p) (sym k.place) ∙ here.1)) (holds t also)

  pub alike : ReadsAlike (image_kept c) dir r x e
  alike = record {
    texts = λ u. subst (λ (o : Option File). IsAlso (λ f g. IsSettled g) (x.text u) o) (sym (texts_same u)) (k.image.alike.texts u);
    partly = λ u. subst (λ (o : Option VolumeRecord). (o ≡ r u) ⊎ IsRewritten r u (r u) o) (sym (said_same (image_kept c) dir u d e (texts_same u))) (k.image.alike.partly u);
    types = λ u. subst (HasTypeOf r u) (sym (said_same (image_kept c) dir u d e (texts_same u))) (k.image.alike.types u);
    files = λ u. file u (same_or_not u (volume_kept k.layer));
  }
    where
      file : (u : Id) → (u ≡ volume_kept k.layer) ⊎ (u ≢ volume_kept k.layer) → IsAlso (λ f g. OnEach g (HoldsAlike (r u) f)) (x.file u) (e.file (file_in dir u))
      file u (inl same) = subst (λ (w : Id). IsAlso (λ f g. OnEach g (HoldsAlike (r w) f)) (x.file w) (e.file (file_in dir w))) (sym same) file_here
      file u (inr other) = subst (λ (o : Option File). IsAlso (λ f g. OnEach g (HoldsAlike (r u) f)) (x.file u) o) (sym (file_same u other)) (k.image.alike.files u)

  pub opens : OpensAlike (image_kept c) dir r x e
  unfolding here
  opens = heading_opens c at h host r x d e k here.0 here.1 new texts_same file_same

  pub outside : (q : Place) → q.dir ≢ dir → e.file q ≡ d.file q
  outside q other = elsewhere q (λ same. other (ap (λ (z : Place). z.dir) (same ∙ k.place)))

  -- ---- the chain with the layer as it is then

  abbrev next : Chain
  next = with_open c at (Cow after)

  within : at < length (open_in c)
  within = slice_get_within (open_in c) at (Cow k.layer) k.is

  at_here : IsLayerAt next at after
  at_here = set_same (open_in c) at (Cow after) within

  one_layer : (l : Layer) → IsLayerAt next at l → l ≡ after
  one_layer l is = let e : Some (Cow l) ≡ Some (Cow after) = sym is ∙ at_here in cc

  at_other : (b : ℕ) (l : Layer) → b ≢ at → IsLayerAt next b l → IsLayerAt c b l
  at_other b l other is = sym (set_other (open_in c) at b (Cow after) other) ∙ is

  volume : volume_kept after ≡ volume_kept k.layer
  volume = ap (λ (t : Target). t.volume) target

  place : place_kept after ≡ place_kept k.layer
  place = ap (λ (t : Target). t.place) target

  -- a layer of the next chain has its file where one of this chain has it
  was_at : (b : ℕ) (l : Layer) → IsLayerAt next b l → (z : Layer) × IsLayerAt c b z × (place_kept l ≡ place_kept z)
  was_at b l is = go (nat_cases b at)
    where
      go : (b ≡ at) ⊎ (b ≢ at) → (z : Layer) × IsLayerAt c b z × (place_kept l ≡ place_kept z)
      go (inl same) = (
        k.layer,
        ap (λ (i : ℕ). slice_get (open_in c) i) same ∙ k.is,
        ap (λ (z : Layer). place_kept z) (one_layer l (subst (λ (i : ℕ). IsLayerAt next i l) same is)) ∙ place,
      )
      go (inr other) = (l, at_other b l other is, refl)

  apart : (a b : ℕ) (l n : Layer) → IsLayerAt next a l → IsLayerAt next b n → place_kept l ≡ place_kept n → a ≡ b
  apart a b l n at_a at_b same =
      let p = was_at a l at_a in
      let q = was_at b n at_b in
      k.apart a b p.0 q.0 p.1 q.1 (sym p.2 ∙ same ∙ q.2)

  cow_here : (l : Layer) → l ≡ after → IsCow l (r (volume_kept l))
  cow_here l same =
      subst (λ (z : Layer). IsCow z (r (volume_kept z))) (sym same)
      (subst (λ (t : Target). IsCowOf t (r t.volume)) (sym target) k.cow)

  image : KnowsImage next r x e
  image = record {
    folder = steps.dirs dir ∙ k.image.folder;
    chains = k.image.chains;
    alike = alike;
    opens = opens;
    partly = k.image.partly;
    types = k.image.types;
    kept = k.image.kept;
    legible = k.image.legible;
    cows = λ b l is. cow b l is (nat_cases b at);
    was = record {
      first = k.image.was.first;
      shown = k.image.was.shown;
      records = k.image.was.records;
      ids = k.image.was.ids;
      files = k.image.was.files;
      checked = k.image.was.checked;
      reading = k.image.was.reading;
      all = set_length (open_in c) at (Cow after) ∙ k.image.was.all;
      each = λ b u o path is. open_as b u o path is (nat_cases b at);
    };
    alone = λ u off. subst (λ (o : Option File). IsAlso IsLeftAlone (x.file u) o) (sym (file_same u (λ same. off_before u off at k.layer k.is (sym same)))) (k.image.alone u (off_before u off));
  }
    where
      open_as : (b : ℕ) (u : Id) (o : OpenVolume) → slice_get (path_in c) b ≡ Some u → slice_get (open_in next) b ≡ Some o → (b ≡ at) ⊎ (b ≢ at) → IsOpenAs (target_of c) u (r u) o × WasLong x u o
      open_as b u o path is (inl same) =
          let one : o ≡ Cow after = same_Some o (Cow after) (sym is ∙ ap (λ (i : ℕ). slice_get (open_in next) i) same ∙ at_here) in
          subst (λ (z : OpenVolume). IsOpenAs (target_of c) u (r u) z × WasLong x u z) (sym one) (
            same_target (target_of c) u (r u) k.layer after target (k.image.was.each at u (Cow k.layer) (ap (λ (i : ℕ). slice_get (path_in c) i) (sym same) ∙ path) k.is).0,
            tt,
          )
      open_as b u o path is (inr other) = k.image.was.each b u o path (sym (set_other (open_in c) at b (Cow after) other) ∙ is)

      off_before : (u : Id) → IsOffLayers next u → IsOffLayers c u
      off_before u off b l is same = go (nat_cases b at)
        where
          go : (b ≡ at) ⊎ (b ≢ at) → ⊥
          go (inl here) =
              let one : l ≡ k.layer = let h : Some (Cow l) ≡ Some (Cow k.layer) = sym is ∙ ap (λ (i : ℕ). slice_get (open_in c) i) here ∙ k.is in cc in
              off at after at_here (volume ∙ ap (λ (z : Layer). volume_kept z) (sym one) ∙ same)
          go (inr other) = off b l (set_other (open_in c) at b (Cow after) other ∙ is) same

      cow : (b : ℕ) (l : Layer) → IsLayerAt next b l → (b ≡ at) ⊎ (b ≢ at) → IsCow l (r (volume_kept l))
      cow b l is (inl same) = cow_here l (one_layer l (subst (λ (i : ℕ). IsLayerAt next i l) same is))
      cow b l is (inr other) = k.image.cows b l (at_other b l other is)

  other_place : (b : ℕ) (l : Layer) → IsLayerAt c b l → b ≢ at → e.file (place_kept l) ≡ d.file (place_kept l)
  other_place b l is other = elsewhere (place_kept l) (λ same. other (k.apart b at l k.layer is k.is same))

  pub kept_others : (q : Place) → IsOther c q → e.file q ≡ d.file q
  kept_others q other = elsewhere q (other.layer at k.layer k.is)

  pub each_step : (b : ℕ) (l : Layer) → IsLayerAt c b l → IsAlso (IsLayerStep r l) (d.file (place_kept l)) (e.file (place_kept l))
  each_step b l is = go (nat_cases b at)
    where
      own : IsAlso (IsLayerStep r k.layer) (d.file (place_kept k.layer)) (e.file (place_kept k.layer))
      own =
          subst (λ (o : Option File). IsAlso (IsLayerStep r k.layer) o (e.file (place_kept k.layer))) (sym k.there)
          (subst (λ (o : Option File). IsAlso (IsLayerStep r k.layer) (Some k.file) o) (sym here.1) (inr (here.2.size, backing_of h, k.backs, here.2.comes)))

      go : (b ≡ at) ⊎ (b ≢ at) → IsAlso (IsLayerStep r l) (d.file (place_kept l)) (e.file (place_kept l))
      go (inl same) =
          let one : k.layer ≡ l = let w : Some (Cow k.layer) ≡ Some (Cow l) = sym k.is ∙ ap (λ (i : ℕ). slice_get (open_in c) i) (sym same) ∙ is in cc in
          subst (λ (z : Layer). IsAlso (IsLayerStep r z) (d.file (place_kept z)) (e.file (place_kept z))) one own
      go (inr other) = no_step r l (d.file (place_kept l)) (e.file (place_kept l)) (other_place b l is other)

  others : (b : ℕ) (l : Layer) → b ≢ at → IsLayerAt next b l → KnowsSettled next l host e
  others b l other is =
      let was = k.others b l other (at_other b l other is) in
      record { place = was.place; file = was.file; there = other_place b l (at_other b l other is) other ∙ was.there; knows = was.knows; settled = was.settled }

  wholes : (b : ℕ) (l : Layer) → b ≢ at → IsLayerAt next b l → IsWhole l host e
  wholes b l other is = whole_kept host l d e (other_place b l (at_other b l other is) other) (k.wholes b l other (at_other b l other is))

  tidy : IsTidy dir e
  tidy o = elsewhere (temporary_in dir o) (λ same. temporary_not_file dir o (volume_kept k.layer) (same ∙ k.place)) ∙ k.tidy o

  said : (u : Id) → IsSaid next e u
  said u = said_same (image_kept c) dir u d e (texts_same u) ∙ k.said u

  pub goes_on : (more : Rebasing) → backing_of more ≡ backing_of h → after ≡ k.layer → heading.KnowsFile more k.layer host here.0 → KnowsHeading next at more host r x e
  goes_on more same stays knows = record {
    image = image;
    said = said;
    tidy = tidy;
    formed = formed;
    layer = after;
    is = at_here;
    place = place ∙ k.place ∙ ap (λ (u : Id). file_in dir u) (sym volume);
    file = here.0;
    there = ap (λ (p : Place). e.file p) place ∙ here.1;
    knows = subst (λ (z : Layer). heading.KnowsFile more z host here.0) (sym stays) knows;
    heads = subst (λ (b : Backing). OnEach here.0 (IsHeadOf after b)) (sym same) (subst (λ (z : Layer). OnEach here.0 (IsHeadOf z (backing_of h))) (sym stays) heads);
    cow = cow_here after refl;
    backs = subst (λ (b : Backing). IsBackingFor r after (Some b)) (sym same) (subst (λ (z : Layer). IsBackingFor r z (Some (backing_of h))) (sym stays) k.backs);
    named = subst (λ (z : Layer). IsAsNamed next r x z) (sym stays) (record { text = k.named.text; header = k.named.header });
    told = λ b l low is. k.told b l low (at_other b l (λ one. omega (arith, low, one)) is);
    others = others;
    wholes = wholes;
    apart = apart;
  }

  pub ends : KnowsWriter after host here.0 → IsSettled here.0 → parent_kept after ≡ Some (backing_of h).parent → KnowsHeaders next (at + 1) host r x e
  ends knows settled parent = record { image = image; said = said; tidy = tidy; formed = formed; rest = record { layers = record { each = λ b l is. each b l is (nat_cases b at); apart = apart }; whole = λ b l is. whole b l is (nat_cases b at) }; told = λ b l low is. told b l low is (nat_cases b at) }
    where
      over : IsOver r (volume_kept after) (backing_of h).parent
      over = subst (λ (u : Id). IsOver r u (backing_of h).parent) (sym volume) k.backs.0

      told : (b : ℕ) (l : Layer) → b < at + 1 → IsLayerAt next b l → (b ≡ at) ⊎ (b ≢ at) → TellsUp r l
      told b l low is (inl same) up y above there =
          let one = one_layer l (subst (λ (i : ℕ). IsLayerAt next i l) same is) in
          let its : IsOver r (volume_kept after) up = subst (λ (z : Layer). IsOver r (volume_kept z) up) one above in
          ap (λ (z : Layer). parent_kept z) one ∙ parent ∙ ap (λ (u : Id). Some u) (over_one r (volume_kept after) (backing_of h).parent up over its)
      told b l low is (inr other) up y above there = k.told b l (omega (arith, low, other)) (at_other b l other is) up y above there

      there : e.file (place_kept after) ≡ Some here.0
      there = ap (λ (p : Place). e.file p) place ∙ here.1

      own : KnowsSettled next after host e
      own = record { place = place ∙ k.place ∙ ap (λ (u : Id). file_in dir u) (sym volume); file = here.0; there = there; knows = knows.knows; settled = settled }

      own_whole : IsWhole after host e
      own_whole = record { file = here.0; there = there; knows = knows.knows; whole = knows.whole }

      each : (b : ℕ) (l : Layer) → IsLayerAt next b l → (b ≡ at) ⊎ (b ≢ at) → KnowsSettled next l host e
      each b l is (inl same) = subst (λ (z : Layer). KnowsSettled next z host e) (sym (one_layer l (subst (λ (i : ℕ). IsLayerAt next i l) same is))) own
      each b l is (inr other) = others b l other is

      whole : (b : ℕ) (l : Layer) → IsLayerAt next b l → (b ≡ at) ⊎ (b ≢ at) → IsWhole l host e
      whole b l is (inl same) = subst (λ (z : Layer). IsWhole z host e) (sym (one_layer l (subst (λ (i : ℕ). IsLayerAt next i l) same is))) own_whole
      whole b l is (inr other) = wholes b l other is

-- ---- the turn of a step

abbrev pub headed_turn : Chain → ℕ → Turned Rebasing → StageTurn
headed_turn c at (More h) = More (stages.Heading c at h)
headed_turn c at (Done u) = More (stages.Headers c (at + 1))
headed_turn c at (Ended u refusal) = Ended tt refusal

-- the layer has the same file, whichever header
target_after : (h : Rebasing) (m after : Layer) (turn : Turned Rebasing) → KeepsLayer h m after turn → target_kept after ≡ target_kept m
target_after h m after (More more) keeps = ap (λ (z : Layer). target_kept z) keeps
target_after h m after (Done u) keeps = keeps.target
target_after h m after (Ended u refusal) keeps = ap (λ (z : Layer). target_kept z) keeps

pub heading_settles : (c next : Chain) (at : ℕ) (h : Rebasing) (host faults : ℕ) (turn : Turned Rebasing) (d e : Content) → IsWellFormed e → MatchTurn turn (IsSameRebasing h) (λ _. Unit {0}) (λ _ _. Unit {0})
    → RebasesAt c next at h host faults turn d e → (r : Records) (x : Volumes) → KnowsStage (stages.Heading c at h) host r x d → Settles (stages.Heading c at h) host faults r x (headed_turn next at turn) d e
heading_settles c next at h host faults turn d e formed same rebases r x k = go turn same (rebases k.layer k.is)
  where
    go : (turn : Turned Rebasing) → MatchTurn turn (IsSameRebasing h) (λ _. Unit {0}) (λ _ _. Unit {0})
        → (after : Layer) × (next ≡ with_open c at (Cow after)) × KeepsLayer h k.layer after turn × heading.Steps h k.layer after host faults turn d e × heading.CallOf h k.layer host faults turn d e
        → Settles (stages.Heading c at h) host faults r x (headed_turn next at turn) d e
    go (More more) same is =
        let target = target_after h k.layer is.0 (More more) is.2 in
        let left = is.3.here k.file k.there k.knows in
        let new = heads_after h k.layer is.0 host faults (More more) d e k.file left.0 k.there left.1 k.knows same is.2 is.4 left.2 in
        let found = here c at h is.0 host faults r x (More more) d e formed k target is.3 new in
        record {
          shows = tt;
          dirs = is.3.dirs;
          others = outside c at h is.0 host faults r x (More more) d e formed k target is.3 new;
          kept = kept_others c at h is.0 host faults r x (More more) d e formed k target is.3 new;
          layers = each_step c at h is.0 host faults r x (More more) d e formed k target is.3 new;
          alike = alike c at h is.0 host faults r x (More more) d e formed k target is.3 new;
          opens = opens c at h is.0 host faults r x (More more) d e formed k target is.3 new;
          right = λ v ok. texts_same c at h is.0 host faults r x (More more) d e formed k target is.3 new v;
          after = subst (λ (z : Chain). KnowsHeading z at more host r x e) (sym is.1) (goes_on c at h is.0 host faults r x (More more) d e formed k target is.3 new more same is.2 found.2.next);
        }
    go (Done u) same is =
        let target = target_after h k.layer is.0 (Done u) is.2 in
        let left = is.3.here k.file k.there k.knows in
        let new = heads_after h k.layer is.0 host faults (Done u) d e k.file left.0 k.there left.1 k.knows same is.2 is.4 left.2 in
        let found = here c at h is.0 host faults r x (Done u) d e formed k target is.3 new in
        record {
          shows = tt;
          dirs = is.3.dirs;
          others = outside c at h is.0 host faults r x (Done u) d e formed k target is.3 new;
          kept = kept_others c at h is.0 host faults r x (Done u) d e formed k target is.3 new;
          layers = each_step c at h is.0 host faults r x (Done u) d e formed k target is.3 new;
          alike = alike c at h is.0 host faults r x (Done u) d e formed k target is.3 new;
          opens = opens c at h is.0 host faults r x (Done u) d e formed k target is.3 new;
          right = λ v ok. texts_same c at h is.0 host faults r x (Done u) d e formed k target is.3 new v;
          after = subst (λ (z : Chain). KnowsHeaders z (at + 1) host r x e) (sym is.1) (ends c at h is.0 host faults r x (Done u) d e formed k target is.3 new found.2.next.0 found.2.next.1 is.2.parent_is);
        }
    go (Ended u refusal) same is =
        let target = target_after h k.layer is.0 (Ended u refusal) is.2 in
        let left = is.3.here k.file k.there k.knows in
        let new = heads_after h k.layer is.0 host faults (Ended u refusal) d e k.file left.0 k.there left.1 k.knows same is.2 is.4 left.2 in
        let found = here c at h is.0 host faults r x (Ended u refusal) d e formed k target is.3 new in
        record {
          shows = tt;
          dirs = is.3.dirs;
          others = outside c at h is.0 host faults r x (Ended u refusal) d e formed k target is.3 new;
          kept = kept_others c at h is.0 host faults r x (Ended u refusal) d e formed k target is.3 new;
          layers = each_step c at h is.0 host faults r x (Ended u refusal) d e formed k target is.3 new;
          alike = alike c at h is.0 host faults r x (Ended u refusal) d e formed k target is.3 new;
          opens = opens c at h is.0 host faults r x (Ended u refusal) d e formed k target is.3 new;
          right = λ v ok. texts_same c at h is.0 host faults r x (Ended u refusal) d e formed k target is.3 new v;
          after = found.2.next.0;
        }

-- ---- a rewriting begins

pub heading_begins : (c : Chain) (at : ℕ) (h : Rebasing) (host : ℕ) (r : Records) (x : Volumes) (d : Content) (m : Layer) (b : Backing) → IsLayerAt c at m → IsBackingFor (records_in (records_kept c)) m (Some b) → stage_of h ≡ Begun → backing_of h ≡ b → KnowsHeaders c at host r x d → KnowsHeading c at h host r x d
heading_begins c at h host r x d m b is names begun by k = record {
  image = k.image;
  said = k.said;
  tidy = k.tidy;
  formed = k.formed;
  layer = m;
  is = is;
  place = known.place;
  file = known.file;
  there = known.there;
  knows = subst (λ (s : RebasingStage). heading.KnowsIn s (backing_of h) m host known.file) (sym begun) quiet;
  heads = λ g out. inl (ap (λ (z : File). layer_header (on_medium z) (capacity_kept m)) (settled_file known.file g known.settled out) ∙ head);
  cow = k.image.cows at m is;
  backs = subst (λ (z : Backing). IsBackingFor r m (Some z)) (sym by) (backing_before r (records_in (records_kept c)) m b k.image.chains k.image.partly names);
  named = named_before c at host r x d m b is names k;
  told = k.told;
  others = λ b l other at_b. k.rest.layers.each b l at_b;
  wholes = λ b l other at_b. k.rest.whole b l at_b;
  apart = k.rest.layers.apart;
}
  where
    known : KnowsSettled c m host d
    known = k.rest.layers.each at m is

    whole : 512 * known.file.size % 2 ^ (header_kept m).cluster_bits ≡ 0
    whole = let w = k.rest.whole at m is in ap (λ (f : File). 512 * f.size % 2 ^ (header_kept m).cluster_bits) (one_file known.file w.file (d.file (place_kept m)) known.there w.there) ∙ w.whole

    quiet : IsQuiet m host known.file
    quiet = record { writer = settled_knows m host known.file known.knows known.settled whole; settled = known.settled; formed = k.formed.files (place_kept m) known.file known.there }

    head : layer_header (on_medium known.file) (capacity_kept m) ≡ Ok (header_kept m)
    head = ap (λ (sectors : ℕ → List ℕ). layer_header (file_of known.file.size sectors) (capacity_kept m)) (sym (settled_seen host known.file known.settled)) ∙ known.knows.numbers.header

set_twice : {A : Type 0} (xs : List A) (i : ℕ) (v w : A) → slice_set (slice_set xs i v) i w ≡ slice_set xs i w
set_twice [] i v w = refl
set_twice (y ∷ ys) zero v w = refl
set_twice {A = A} (y ∷ ys) (suc i) v w = ap (λ (zs : List A). y ∷ zs) (set_twice ys i v w)

-- a layer that was taken out, changed and put back
pub rebased_at : (c taken next : Chain) (at : ℕ) (h : Rebasing) (l m after : Layer) (host faults : ℕ) (turn : Turned Rebasing) (d e : Content) → IsLayerAt c at l → IsLayerAt c at m
    → taken ≡ with_open c at (Raw 0) → next ≡ with_open taken at (Cow after) → KeepsLayer h l after turn → heading.Steps h l after host faults turn d e
    → (then : Content) → then ≡ e → heading.CallOf h l host faults turn d then
    → (z : Layer) × (next ≡ with_open c at (Cow z)) × KeepsLayer h m z turn × heading.Steps h m z host faults turn d e × heading.CallOf h m host faults turn d e
rebased_at c taken next at h l m after host faults turn d e is_l is_m took put keeps steps then one call =
    let same : l ≡ m = let e : Some (Cow l) ≡ Some (Cow m) = sym is_l ∙ is_m in cc in (
      after,
      put ∙ ap (λ (z : Chain). with_open z at (Cow after)) took ∙ ap (λ (os : List OpenVolume). with_volumes c os) (set_twice (open_in c) at (Raw 0) (Cow after)),
      subst (λ (z : Layer). KeepsLayer h z after turn) same keeps,
      subst (λ (z : Layer). heading.Steps h z after host faults turn d e) same steps,
      subst (λ (z : Layer). heading.CallOf h z host faults turn d e) same (subst (λ (f : Content). heading.CallOf h l host faults turn d f) one call),
    )
