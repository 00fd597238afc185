-- What is known while temporary names are removed and files of layers are grown.
use Rattle.std.proofs.Common.{◌≡◌, ◌≢◌, ◌⊎◌, ℕ, zero, suc, ◌+◌, ◌<◌, ◌≤◌, List, [], ◌∷◌, length, Option, Some, None, refl, sym, ap, ◌∙◌, subst, inl, inr, arith}
use Rattle.std.specs.Prelude.{slice_get}
use Rattle.std.proofs.lemmas.Bool.{cases_lt}
use Rattle.std.proofs.lemmas.Option.{none-some, slice_get_within}
use Rattle.sd_names.specs.Turn.{MatchTurn}
use Rattle.sd_names.specs.declared.id.Id.{Id}
use Rattle.sd_names.specs.declared.place.Dir.{Dir}
use Rattle.sd_names.specs.declared.place.Name.TheVariants as name
use Rattle.sd_names.specs.declared.place.Place.{Place}
use Rattle.sd_names.specs.declared.refusal.Refusal.TheVariants.{DiskFault}
use Rattle.sd_names.specs.declared.turn.Turn.TheVariants.{More, Done, Ended}
use Rattle.shared_disk.specs.Content.{Content, File}
use Rattle.shared_disk.specs.Crash.{IsAlso, IsFileOutcome, IsSettled, OnEach}
use Rattle.shared_disk.specs.WellFormed.{IsWellFormed, IsWellFormedFile}
use Rattle.shared_disk.proofs.AtPlace.{one_file}
use Rattle.shared_disk.proofs.Toolkit.{grown_settled}
use Rattle.qcow_layer.specs.Knowing.{KnowsLayer}
use Rattle.qcow_layer.specs.Opening.{parent_kept, place_kept, volume_kept}
use Rattle.qcow_layer.specs.declared.layer.Layer.{Layer}
use Rattle.settling_steps.specs.Leftovers.{After, IsTidy, Meets, TidyLeaves, TidyTurn, folder_of, temporary_in}
use Rattle.settling_steps.specs.Lengthening.{IsGrownFile, IsWhole, KnowsLong, LengthTurn, Lengthens}
use Rattle.settling_steps.specs.Lengthening as lengthening
use Rattle.settling_steps.specs.declared.lengthening.Lengthening.{Lengthening}
use Rattle.settling_steps.specs.declared.lengthening.Lengthening.TheVariants.{Asking, Growing}
use Rattle.settling_steps.specs.declared.leftovers.Tidying.{Tidying}
use Rattle.settling_steps.specs.declared.names.Temporary.{Temporary}
use Rattle.settling_steps.specs.declared.names.Temporary.TheVariants.{New, Volatile}
use Rattle.chain_model.specs.Folder.{Volumes}
use Rattle.chain_model.specs.Growth.{IsLonger, MayGrow}
use Rattle.chain_model.specs.Records.{Records}
use Rattle.chain_records.specs.Records.{records_in}
use Rattle.chain_records.specs.Settling.{IsRewritten}
use Rattle.volume_meta.specs.declared.record.VolumeRecord.{VolumeRecord}
use Rattle.chain_model.proofs.LongerFiles.{own_grown}
use Rattle.chain_model.proofs.LongerOutcomes.{outcome_before}
use Rattle.chain_gathering.specs.Steps.{IsShown}
use Rattle.volume_chain.specs.Chain.{open_in, records_kept}
use Rattle.volume_chain.specs.declared.chain.Chain.{Chain}
use Rattle.volume_chain.specs.declared.volumes.OpenVolume.{OpenVolume}
use Rattle.volume_chain.specs.declared.volumes.OpenVolume.TheVariants.{Cow, Raw}
use Rattle.chain_settling.specs.Alike.{HasTypeOf, HoldsAlike, KnowsImage, ReadsAlike}
use Rattle.chain_settling.specs.Reopening.{OpensAlike}
use Rattle.chain_settling.specs.Was.{file_in, folder_in, image_kept, text_in}
use Rattle.chain_settling.specs.Fit.{StageTurn}
use Rattle.chain_settling.specs.Knowing.{AreLongFrom, AreWholeTo, IsSettledImage, KnowsFiles, KnowsHeaders, KnowsLayers, KnowsLengthening, KnowsLengths, KnowsSettled, KnowsTexts, TellsUp}
use Rattle.chain_settling.specs.Left.{MeetsAt}
use Rattle.chain_settling.specs.Steps.{IsLayerStep, IsOther, KnowsStage, Settles}
use Rattle.chain_settling.specs.Work.{IsBackingFor, IsLayerAt, kind_at, kind_of}
use Rattle.chain_settling.specs.declared.lengths.Kind.{Kind}
use Rattle.chain_settling.specs.declared.lengths.Kind.TheVariants as kind
use Rattle.chain_settling.specs.declared.stages.Part.TheVariants.{Parents}
use Rattle.chain_settling.specs.declared.stages.Stage.TheVariants as stages
use Rattle.chain_settling.proofs.Plans.{over_after}
use Rattle.chain_settling.proofs.Alike.{AreKept, alike_kept, alone_kept, no_step, said_same, same_or_not}
use Rattle.chain_settling.proofs.Kept.{at_place, files_kept, long_kept, settled_kept, whole_kept}
use Rattle.chain_settling.proofs.OpensAlike.{names_longer, opens_but_one, opens_kept, sound_longer, text_names}

-- ---- temporary names

text_not_temporary : (dir : Dir) (v : Id) (o : Temporary) → text_in dir v ≡ temporary_in dir o → ⊥
text_not_temporary dir v (New u) same = let h : name.Meta v ≡ name.MetaNew u = ap (λ (p : Place). p.name) same in absurd cc
text_not_temporary dir v (Volatile u) same = let h : name.Meta v ≡ name.MetaVolatile u = ap (λ (p : Place). p.name) same in absurd cc

file_not_temporary : (dir : Dir) (v : Id) (o : Temporary) → file_in dir v ≡ temporary_in dir o → ⊥
file_not_temporary dir v (New u) same = let h : name.Volume v ≡ name.MetaNew u = ap (λ (p : Place). p.name) same in absurd cc
file_not_temporary dir v (Volatile u) same = let h : name.Volume v ≡ name.MetaVolatile u = ap (λ (p : Place). p.name) same in absurd cc

abbrev pub tidied_turn : Chain → TidyTurn → StageTurn
tidied_turn c (More t) = More (stages.Tidying c t)
tidied_turn c (Done u) = More (stages.Lengths c 0)
tidied_turn c (Ended u refusal) = Ended tt refusal

pub tidying_settles : (c : Chain) (t : Tidying) (host faults : ℕ) (turn : TidyTurn) (d e : Content) → IsWellFormed e → TidyLeaves t faults turn d e → Meets (IsShown (folder_of t) d) t turn
    → (same : MatchTurn turn (λ next. folder_of next ≡ folder_of t) (λ _. Unit {0}) (λ _ _. Unit {0})) → (r : Records) (x : Volumes)
    → KnowsStage (stages.Tidying c t) host r x d → Settles (stages.Tidying c t) host faults r x (tidied_turn c turn) d e
tidying_settles c t host faults turn d e formed leaves shows same r x k = record {
  shows = shown turn (subst (λ (dir : Dir). Meets (IsShown dir d) t turn) k.folder shows);
  dirs = leaves.dirs;
  others = λ q other. leaves.others q (λ o e. other (ap (λ (z : Place). z.dir) e ∙ k.folder));
  kept = λ q other. leaves.others q (λ o e. other.temporary o (e ∙ ap (λ (dir : Dir). temporary_in dir o) k.folder));
  layers = λ b l is. no_step r l (d.file (place_kept l)) (e.file (place_kept l)) (at_place c host d e k.files.layers kept b l is);
  alike = alike_kept (image_kept c) (folder_in c) r x d e kept k.files.image.alike;
  opens = opens_kept (image_kept c) (folder_in c) r x d e kept k.files.image.opens;
  right = λ v ok. kept.texts v;
  after = go turn same (leaves.after k.names);
}
  where
    kept : AreKept (folder_in c) d e
    kept = record {
      texts = λ v. leaves.others (text_in (folder_in c) v) (λ o is. text_not_temporary (folder_in c) v o (is ∙ ap (λ (dir : Dir). temporary_in dir o) k.folder));
      files = λ v. leaves.others (file_in (folder_in c) v) (λ o is. file_not_temporary (folder_in c) v o (is ∙ ap (λ (dir : Dir). temporary_in dir o) k.folder));
    }

    shown : (turn : TidyTurn) → Meets (IsShown (folder_in c) d) t turn → MeetsAt (IsShown (folder_in c) d) (stages.Tidying c t) (tidied_turn c turn)
    shown (More next) is = is
    shown (Done u) is = tt
    shown (Ended u refusal) is = tt

    files : KnowsFiles c host r x e
    files = files_kept c host r x d e (leaves.dirs (folder_in c)) kept k.files

    long : AreLongFrom c 0 host e
    long b l low is = long_kept host l d e (at_place c host d e k.files.layers kept b l is) (k.long b l low is)

    go : (turn : TidyTurn) → MatchTurn turn (λ next. folder_of next ≡ folder_of t) (λ _. Unit {0}) (λ _ _. Unit {0}) → After t faults turn e
        → MatchTurn (tidied_turn c turn) (λ next. KnowsStage next host r x e) (λ z. IsSettledImage z host r x e) (λ _ refusal. refusal ≡ DiskFault faults)
    go (More next) same after = record { files = files; folder = same ∙ k.folder; long = long; names = after }
    go (Done u) same after = record { files = files; tidy = subst (λ (dir : Dir). IsTidy dir e) k.folder after; formed = formed; long = long; whole = λ b l low is. absurd (omega (arith, low)) }
    go (Ended u refusal) same after = after

-- ---- one file gets longer

pub nat_cases : (a b : ℕ) → (a ≡ b) ⊎ (a ≢ b)
nat_cases a b = go (cases_lt a b)
  where
    up : (b < a) ⊎ (a ≤ b) → b ≤ a → (a ≡ b) ⊎ (a ≢ b)
    up (inl less) low = inr (λ same. omega (arith, less, same))
    up (inr le) low = inl (omega (arith, le, low))

    go : (a < b) ⊎ (b ≤ a) → (a ≡ b) ⊎ (a ≢ b)
    go (inl less) = inr (λ same. omega (arith, less, same))
    go (inr low) = up (cases_lt b a) low

-- what a lengthening knows of the layer
from_long : (next : Lengthening) (m : Layer) (host : ℕ) (e : Content) → lengthening.Knows next m host e → (f : File) × (e.file (place_kept m) ≡ Some f) × KnowsLayer m host f
from_long Asking m host e k = (k.file, k.there, k.knows)
from_long (Growing length) m host e k = (k.long.file, k.long.there, k.long.knows)

may_grow : (f g : File) → IsSettled f → IsWellFormedFile f → IsGrownFile f g → MayGrow f g
may_grow f g settled formed (inl same) = inl same
may_grow f g settled formed (inr is) = inr (is.0, settled.fresh, formed, is.1)

-- it holds what it held
holds_longer : (o : Option VolumeRecord) (t f g : File) → IsSettled f → IsWellFormedFile f → IsGrownFile f g → OnEach f (HoldsAlike o t) → OnEach g (HoldsAlike o t)
holds_longer o t f g settled formed is each h out k =
    let before = outcome_before f g h (may_grow f g settled formed is) out in
    own_grown o (Some before.0) (Some h) k before.2 ∙ each before.0 before.1 k

grown_is_settled : (f g : File) → IsSettled f → IsGrownFile f g → IsSettled g
grown_is_settled f g settled (inl same) = subst IsSettled (sym same) settled
grown_is_settled f g settled (inr is) = subst IsSettled (sym is.1) (grown_settled is.0 f settled)

pub file_not_text : (dir : Dir) (u v : Id) → text_in dir u ≡ file_in dir v → ⊥
file_not_text dir u v same = let h : name.Meta u ≡ name.Volume v = ap (λ (p : Place). p.name) same in absurd cc

pub temporary_not_file : (dir : Dir) (o : Temporary) (v : Id) → temporary_in dir o ≡ file_in dir v → ⊥
temporary_not_file dir o v same = file_not_temporary dir v o (sym same)

pub files_apart : (dir : Dir) (u v : Id) → u ≢ v → file_in dir u ≡ file_in dir v → ⊥
files_apart dir u v other same = let h : name.Volume u ≡ name.Volume v = ap (λ (p : Place). p.name) same in other cc

module _ (c : Chain) (at : ℕ) (m : Layer) (l : Lengthening) (host faults : ℕ) (r : Records) (x : Volumes) (turn : LengthTurn) (d e : Content) (is : IsLayerAt c at m) (formed : IsWellFormed d)
    (k : KnowsLengthening c at l host r x d) (leaves : Lengthens l m host faults turn d e) where
  abbrev dir : Dir
  dir = folder_in c

  known : KnowsSettled c m host d
  known = k.files.layers.each at m is

  here : (g : File) × (e.file (place_kept m) ≡ Some g) × IsGrownFile known.file g
  here = leaves.here known.file known.there

  elsewhere : (q : Place) → q ≢ place_kept m → e.file q ≡ d.file q
  elsewhere = leaves.others

  texts_same : (v : Id) → e.file (text_in dir v) ≡ d.file (text_in dir v)
  texts_same v = elsewhere (text_in dir v) (λ same. file_not_text dir v (volume_kept m) (same ∙ known.place))

  file_same : (v : Id) → v ≢ volume_kept m → e.file (file_in dir v) ≡ d.file (file_in dir v)
  file_same v other = elsewhere (file_in dir v) (λ same. files_apart dir v (volume_kept m) other (same ∙ known.place))

  file_here : IsAlso (λ f g. OnEach g (HoldsAlike (r (volume_kept m)) f)) (x.file (volume_kept m)) (e.file (file_in dir (volume_kept m)))
  file_here = go (x.file (volume_kept m)) (subst (λ (o : Option File). IsAlso (λ f g. OnEach g (HoldsAlike (r (volume_kept m)) f)) (x.file (volume_kept m)) o) (ap (λ (p : Place). d.file p) (sym known.place) ∙ known.there) (k.files.image.alike.files (volume_kept m)))
    where
      go : (t : Option File) → IsAlso (λ f g. OnEach g (HoldsAlike (r (volume_kept m)) f)) t (Some known.file) → IsAlso (λ f g. OnEach g (HoldsAlike (r (volume_kept m)) f)) t (e.file (file_in dir (volume_kept m)))
      go None also = absurd also
      go (Some t) also = subst (λ (o : Option File). IsAlso (λ f g. OnEach g (HoldsAlike (r (volume_kept m)) f)) (Some t) o) (sym (ap (λ (p : Place). e.file p) (sym known.place) ∙ here.1))
          (holds_longer (r (volume_kept m)) t known.file here.0 known.settled (formed.files (place_kept m) known.file known.there) here.2 also)

  pub alike : ReadsAlike (image_kept c) dir r x e
  alike = record {
    texts = λ v. subst (λ (o : Option File). IsAlso (λ f g. IsSettled g) (x.text v) o) (sym (texts_same v)) (k.files.image.alike.texts v);
    partly = λ v. subst (λ (o : Option VolumeRecord). (o ≡ r v) ⊎ IsRewritten r v (r v) o) (sym (said_same (image_kept c) dir v d e (texts_same v))) (k.files.image.alike.partly v);
    types = λ v. subst (HasTypeOf r v) (sym (said_same (image_kept c) dir v d e (texts_same v))) (k.files.image.alike.types v);
    files = λ v. file v (same_or_not v (volume_kept m));
  }
    where
      file : (v : Id) → (v ≡ volume_kept m) ⊎ (v ≢ volume_kept m) → IsAlso (λ f g. OnEach g (HoldsAlike (r v) f)) (x.file v) (e.file (file_in dir v))
      file v (inl same) = subst (λ (w : Id). IsAlso (λ f g. OnEach g (HoldsAlike (r w) f)) (x.file w) (e.file (file_in dir w))) (sym same) file_here
      file v (inr other) = subst (λ (o : Option File). IsAlso (λ f g. OnEach g (HoldsAlike (r v) f)) (x.file v) o) (sym (file_same v other)) (k.files.image.alike.files v)

  pub opens : OpensAlike (image_kept c) dir r x e
  opens =
      opens_but_one (image_kept c) dir r x d e (volume_kept m) known.file here.0 (ap (λ (p : Place). d.file p) (sym known.place) ∙ known.there) (ap (λ (p : Place). e.file p) (sym known.place) ∙ here.1) texts_same file_same
      (λ t is each g out. let before = earlier g out in sound_longer (r (volume_kept m)) t before.0 g before.2 (each before.0 before.1))
      (λ t is each g out. let before = earlier g out in names_longer r (volume_kept m) (text_names (image_kept c) dir d (volume_kept m)) t before.0 g before.2 (each before.0 before.1)) k.files.image.opens
    where
      earlier : (g : File) → IsFileOutcome here.0 g → (f : File) × IsFileOutcome known.file f × IsLonger f g
      earlier g out = outcome_before known.file here.0 g (may_grow known.file here.0 known.settled (formed.files (place_kept m) known.file known.there) here.2) out

  image : KnowsImage c r x e
  image = record {
    folder = leaves.dirs dir ∙ k.files.image.folder;
    chains = k.files.image.chains;
    alike = alike;
    opens = opens;
    partly = k.files.image.partly;
    types = k.files.image.types;
    kept = k.files.image.kept;
    legible = k.files.image.legible;
    cows = k.files.image.cows;
    was = k.files.image.was;
    alone = alone_kept c x d e (λ v off. file_same v (λ same. off at m is (sym same))) k.files.image.alone;
  }

  pub outside : (q : Place) → q.dir ≢ dir → e.file q ≡ d.file q
  outside q other = elsewhere q (λ same. other (ap (λ (z : Place). z.dir) (same ∙ known.place)))

  -- another layer's file is as it was
  other_place : (b : ℕ) (n : Layer) → IsLayerAt c b n → b ≢ at → e.file (place_kept n) ≡ d.file (place_kept n)
  other_place b n at_b other = elsewhere (place_kept n) (λ same. other (k.files.layers.apart b at n m at_b is same))

  one_layer : (n : Layer) → IsLayerAt c at n → n ≡ m
  one_layer n at_n = let h : Some (Cow n) ≡ Some (Cow m) = sym at_n ∙ is in cc

  pub kept_others : (q : Place) → IsOther c q → e.file q ≡ d.file q
  kept_others q other = elsewhere q (other.layer at m is)

  pub each_step : (b : ℕ) (n : Layer) → IsLayerAt c b n → IsAlso (IsLayerStep r n) (d.file (place_kept n)) (e.file (place_kept n))
  each_step b n at_b = go (nat_cases b at)
    where
      own : IsAlso (IsLayerStep r m) (d.file (place_kept m)) (e.file (place_kept m))
      own =
          subst (λ (o : Option File). IsAlso (IsLayerStep r m) o (e.file (place_kept m))) (sym known.there)
          (subst (λ (o : Option File). IsAlso (IsLayerStep r m) (Some known.file) o) (sym here.1) (inl here.2))

      go : (b ≡ at) ⊎ (b ≢ at) → IsAlso (IsLayerStep r n) (d.file (place_kept n)) (e.file (place_kept n))
      go (inl same) = subst (λ (z : Layer). IsAlso (IsLayerStep r z) (d.file (place_kept z)) (e.file (place_kept z))) (sym (one_layer n (subst (λ (i : ℕ). IsLayerAt c i n) same at_b))) own
      go (inr other) = no_step r n (d.file (place_kept n)) (e.file (place_kept n)) (other_place b n at_b other)

  -- the layer knows its file still
  layers : ((f : File) × (e.file (place_kept m) ≡ Some f) × KnowsLayer m host f) → KnowsLayers c host e
  layers now = record { each = λ b n at_b. each b n at_b (nat_cases b at); apart = k.files.layers.apart }
    where
      own : KnowsSettled c m host e
      own = record {
        place = known.place;
        file = now.0;
        there = now.1;
        knows = now.2;
        settled = subst IsSettled (one_file here.0 now.0 (e.file (place_kept m)) here.1 now.1) (grown_is_settled known.file here.0 known.settled here.2);
      }

      each : (b : ℕ) (n : Layer) → IsLayerAt c b n → (b ≡ at) ⊎ (b ≢ at) → KnowsSettled c n host e
      each b n at_b (inl same) = subst (λ (z : Layer). KnowsSettled c z host e) (sym (one_layer n (subst (λ (i : ℕ). IsLayerAt c i n) same at_b))) own
      each b n at_b (inr other) = settled_kept c host n d e (other_place b n at_b other) (k.files.layers.each b n at_b)

  files : ((f : File) × (e.file (place_kept m) ≡ Some f) × KnowsLayer m host f) → KnowsFiles c host r x e
  files now = record { image = image; said = λ v. said_same (image_kept c) dir v d e (texts_same v) ∙ k.files.said v; layers = layers now }

  tidy : IsTidy dir e
  tidy o = elsewhere (temporary_in dir o) (λ same. temporary_not_file dir o (volume_kept m) (same ∙ known.place)) ∙ k.tidy o

  long : AreLongFrom c (at + 1) host e
  long b n low at_b = long_kept host n d e (other_place b n at_b (λ same. omega (arith, low, same))) (k.long b n low at_b)

  whole : AreWholeTo c at host e
  whole b n low at_b = whole_kept host n d e (other_place b n at_b (λ same. omega (arith, low, same))) (k.whole b n low at_b)

  whole_now : IsWhole m host e → AreWholeTo c (at + 1) host e
  whole_now now b n low at_b = go (nat_cases b at)
    where
      go : (b ≡ at) ⊎ (b ≢ at) → IsWhole n host e
      go (inl same) = subst (λ (z : Layer). IsWhole z host e) (sym (one_layer n (subst (λ (i : ℕ). IsLayerAt c i n) same at_b))) now
      go (inr other) = whole b n (omega (arith, low, other)) at_b

  pub goes_on : (next : Lengthening) → lengthening.Knows next m host e → KnowsLengthening c at next host r x e
  goes_on next now = record {
    files = files (from_long next m host e now);
    tidy = tidy;
    long = long;
    whole = whole;
    layer = m;
    is = is;
    here = now;
  }

  pub ends : IsWellFormed e → IsWhole m host e → KnowsLengths c (at + 1) host r x e
  ends formed_then now = record { files = files (now.file, now.there, now.knows); tidy = tidy; formed = formed_then; long = long; whole = whole_now now }

abbrev pub grown_turn : Chain → ℕ → LengthTurn → StageTurn
grown_turn c at (More l) = More (stages.Lengthening c at l)
grown_turn c at (Done u) = More (stages.Lengths c (at + 1))
grown_turn c at (Ended u refusal) = Ended tt refusal

pub lengthening_settles : (c : Chain) (at : ℕ) (l : Lengthening) (host faults : ℕ) (turn : LengthTurn) (d e : Content) → IsWellFormed d → IsWellFormed e → ((m : Layer) → IsLayerAt c at m → Lengthens l m host faults turn d e)
    → (r : Records) (x : Volumes) → KnowsStage (stages.Lengthening c at l) host r x d → Settles (stages.Lengthening c at l) host faults r x (grown_turn c at turn) d e
lengthening_settles c at l host faults turn d e formed formed_then each r x k = go turn (each k.layer k.is)
  where
    go : (turn : LengthTurn) → Lengthens l k.layer host faults turn d e → Settles (stages.Lengthening c at l) host faults r x (grown_turn c at turn) d e
    go (More next) leaves = record {
      shows = tt;
      dirs = leaves.dirs;
      others = outside c at k.layer l host faults r x (More next) d e k.is formed k leaves;
      kept = kept_others c at k.layer l host faults r x (More next) d e k.is formed k leaves;
      layers = each_step c at k.layer l host faults r x (More next) d e k.is formed k leaves;
      alike = alike c at k.layer l host faults r x (More next) d e k.is formed k leaves;
      opens = opens c at k.layer l host faults r x (More next) d e k.is formed k leaves;
      right = λ v ok. texts_same c at k.layer l host faults r x (More next) d e k.is formed k leaves v;
      after = goes_on c at k.layer l host faults r x (More next) d e k.is formed k leaves next (leaves.after k.here);
    }
    go (Done u) leaves = record {
      shows = tt;
      dirs = leaves.dirs;
      others = outside c at k.layer l host faults r x (Done u) d e k.is formed k leaves;
      kept = kept_others c at k.layer l host faults r x (Done u) d e k.is formed k leaves;
      layers = each_step c at k.layer l host faults r x (Done u) d e k.is formed k leaves;
      alike = alike c at k.layer l host faults r x (Done u) d e k.is formed k leaves;
      opens = opens c at k.layer l host faults r x (Done u) d e k.is formed k leaves;
      right = λ v ok. texts_same c at k.layer l host faults r x (Done u) d e k.is formed k leaves v;
      after = ends c at k.layer l host faults r x (Done u) d e k.is formed k leaves formed_then (leaves.after k.here);
    }
    go (Ended u refusal) leaves = record {
      shows = tt;
      dirs = leaves.dirs;
      others = outside c at k.layer l host faults r x (Ended u refusal) d e k.is formed k leaves;
      kept = kept_others c at k.layer l host faults r x (Ended u refusal) d e k.is formed k leaves;
      layers = each_step c at k.layer l host faults r x (Ended u refusal) d e k.is formed k leaves;
      alike = alike c at k.layer l host faults r x (Ended u refusal) d e k.is formed k leaves;
      opens = opens c at k.layer l host faults r x (Ended u refusal) d e k.is formed k leaves;
      right = λ v ok. texts_same c at k.layer l host faults r x (Ended u refusal) d e k.is formed k leaves v;
      after = leaves.after k.here;
    }

-- ---- the next layer of the path

-- a list has an element at each place within it
pub there : {A : Type 0} (xs : List A) (i : ℕ) → i < length xs → slice_get xs i ≡ None → ⊥
there [] i low e = omega (arith, low)
there (y ∷ ys) zero low e = none-some y (sym e)
there (y ∷ ys) (suc i) low e = there ys i (omega (arith, low)) e

abbrev pub next_length : Chain → ℕ → OpenVolume → StageTurn
next_length c at (Raw length) = More (stages.Lengths c (at + 1))
next_length c at (Cow m) = More (stages.Lengthening c at Asking)

pub lengths_go_on : (c : Chain) (at : ℕ) (host faults : ℕ) (d : Content) (o : OpenVolume) → slice_get (open_in c) at ≡ Some o → (r : Records) (x : Volumes) → KnowsStage (stages.Lengths c at) host r x d
    → Settles (stages.Lengths c at) host faults r x (next_length c at o) d d
lengths_go_on c at host faults d (Raw length) is r x k = record {
  shows = tt;
  dirs = λ q. refl;
  others = λ q _. refl;
  kept = λ q _. refl;
  layers = λ b l _. no_step r l (d.file (place_kept l)) (d.file (place_kept l)) refl;
  alike = k.files.image.alike;
  opens = k.files.image.opens;
  right = λ v ok. refl;
  after = record {
    files = k.files;
    tidy = k.tidy;
    formed = k.formed;
    long = λ b n low at_b. k.long b n (omega (arith, low)) at_b;
    whole = λ b n low at_b. go b n low at_b (nat_cases b at);
  };
}
  where
    go : (b : ℕ) (n : Layer) → b < at + 1 → IsLayerAt c b n → (b ≡ at) ⊎ (b ≢ at) → IsWhole n host d
    go b n low at_b (inl same) = let h : Some (Cow n) ≡ Some (Raw length) = sym at_b ∙ ap (λ (i : ℕ). slice_get (open_in c) i) same ∙ is in absurd cc
    go b n low at_b (inr other) = k.whole b n (omega (arith, low, other)) at_b
lengths_go_on c at host faults d (Cow m) is r x k = record {
  shows = tt;
  dirs = λ q. refl;
  others = λ q _. refl;
  kept = λ q _. refl;
  layers = λ b l _. no_step r l (d.file (place_kept l)) (d.file (place_kept l)) refl;
  alike = k.files.image.alike;
  opens = k.files.image.opens;
  right = λ v ok. refl;
  after = record {
    files = k.files;
    tidy = k.tidy;
    long = λ b n low at_b. k.long b n (omega (arith, low)) at_b;
    whole = k.whole;
    layer = m;
    is = is;
    here = k.long at m (omega arith) is;
  };
}

pub lengths_end : (c : Chain) (at : ℕ) (host faults : ℕ) (d : Content) → slice_get (open_in c) at ≡ None → (r : Records) (x : Volumes) → KnowsStage (stages.Lengths c at) host r x d
    → Settles (stages.Lengths c at) host faults r x (More (stages.Headers c 0)) d d
lengths_end c at host faults d none r x k = record {
  shows = tt;
  dirs = λ q. refl;
  others = λ q _. refl;
  kept = λ q _. refl;
  layers = λ b l _. no_step r l (d.file (place_kept l)) (d.file (place_kept l)) refl;
  alike = k.files.image.alike;
  opens = k.files.image.opens;
  right = λ v ok. refl;
  after = record { image = k.files.image; said = k.files.said; tidy = k.tidy; formed = k.formed; told = λ b l low is. absurd (omega (arith, low)); rest = record { layers = k.files.layers; whole = λ b n at_b. go b n at_b (cases_lt b at) } };
}
  where
    past : (o : Option OpenVolume) → slice_get (open_in c) at ≡ o → length (open_in c) ≤ at
    past o e = go2 (cases_lt at (length (open_in c)))
      where
        go2 : (at < length (open_in c)) ⊎ (length (open_in c) ≤ at) → length (open_in c) ≤ at
        go2 (inl inside) = absurd (there (open_in c) at inside none)
        go2 (inr le) = le

    go : (b : ℕ) (n : Layer) → IsLayerAt c b n → (b < at) ⊎ (at ≤ b) → IsWhole n host d
    go b n at_b (inl less) = k.whole b n less at_b
    go b n at_b (inr le) = let within = slice_get_within (open_in c) b (Cow n) at_b in absurd (omega (arith, within, le, past None none))

-- the turn at a place of the path, by what stands there
abbrev pub kind_turn : Chain → ℕ → Kind → StageTurn
kind_turn c at kind.End = More (stages.Headers c 0)
kind_turn c at kind.Raw = More (stages.Lengths c (at + 1))
kind_turn c at kind.Layer = More (stages.Lengthening c at Asking)

pub lengths_at : (c : Chain) (at : ℕ) (host faults : ℕ) (d : Content) (what : Kind) → kind_at c at ≡ what → (r : Records) (x : Volumes) → KnowsStage (stages.Lengths c at) host r x d
    → Settles (stages.Lengths c at) host faults r x (kind_turn c at what) d d
lengths_at c at host faults d what is r x k = subst (λ (w : Kind). Settles (stages.Lengths c at) host faults r x (kind_turn c at w) d d) is (go (slice_get (open_in c) at) refl)
  where
    go : (o : Option OpenVolume) → slice_get (open_in c) at ≡ o → Settles (stages.Lengths c at) host faults r x (kind_turn c at (kind_of (slice_get (open_in c) at))) d d
    go None e = rw e (lengths_end c at host faults d e r x k)
    go (Some (Raw length)) e = rw e (lengths_go_on c at host faults d (Raw length) e r x k)
    go (Some (Cow m)) e = rw e (lengths_go_on c at host faults d (Cow m) e r x k)

-- ---- headers

-- behind the last volume of the path there is none
past_end : (c : Chain) (at : ℕ) → slice_get (open_in c) at ≡ None → length (open_in c) ≤ at
past_end c at none = go (cases_lt at (length (open_in c)))
  where
    go : (at < length (open_in c)) ⊎ (length (open_in c) ≤ at) → length (open_in c) ≤ at
    go (inl inside) = absurd (there (open_in c) at inside none)
    go (inr le) = le

none_at : (c : Chain) (at : ℕ) → kind_at c at ≡ kind.End → slice_get (open_in c) at ≡ None
none_at c at is = go (slice_get (open_in c) at) refl is
  where
    go : (o : Option OpenVolume) → slice_get (open_in c) at ≡ o → kind_of (slice_get (open_in c) at) ≡ kind.End → slice_get (open_in c) at ≡ None
    go None e end = e
    go (Some (Raw length)) e end = let h : kind.Raw ≡ kind.End = ap (λ (o : Option OpenVolume). kind_of o) (sym e) ∙ end in absurd cc
    go (Some (Cow m)) e end = let h : kind.Layer ≡ kind.End = ap (λ (o : Option OpenVolume). kind_of o) (sym e) ∙ end in absurd cc

pub headers_turn : (c : Chain) (at : ℕ) (host faults : ℕ) (d : Content) (turn : StageTurn) → ((r : Records) (x : Volumes) → KnowsHeaders c at host r x d → MatchTurn turn (λ next. KnowsStage next host r x d) (λ z. IsSettledImage z host r x d) (λ _ refusal. refusal ≡ DiskFault faults))
    → (r : Records) (x : Volumes) → KnowsStage (stages.Headers c at) host r x d → Settles (stages.Headers c at) host faults r x turn d d
headers_turn c at host faults d turn after r x k = record { shows = tt; dirs = λ q. refl; others = λ q _. refl; kept = λ q _. refl; layers = λ b l _. no_step r l (d.file (place_kept l)) (d.file (place_kept l)) refl; alike = k.image.alike; opens = k.image.opens; right = λ v ok. refl; after = after r x k }

pub headers_end : (c : Chain) (at host : ℕ) (r : Records) (x : Volumes) (d : Content) → kind_at c at ≡ kind.End → KnowsHeaders c at host r x d → KnowsTexts c Parents 0 host r x d
headers_end c at host r x d end k = record {
  image = k.image;
  said = k.said;
  tidy = k.tidy;
  rest = k.rest;
  told = λ b l is. let within = slice_get_within (open_in c) b (Cow l) is in k.told b l (omega (arith, within, past_end c at (none_at c at end))) is;
  done = λ j v low here. absurd (omega (arith, low));
}

-- a volume that had a record has one
still_some : (r s : Records) (v : Id) (y : VolumeRecord) → (s v ≡ r v) ⊎ IsRewritten r v (r v) (s v) → r v ≡ Some y → s v ≡ None → ⊥
still_some r s v y (inl same) e none = none-some y (sym none ∙ same ∙ e)
still_some r s v y (inr is) e none = go (r v) is e
  where
    go : (o : Option VolumeRecord) → IsRewritten r v o (s v) → o ≡ Some y → ⊥
    go None w h = none-some y h
    go (Some z) w h = none-some _ (sym none ∙ w.2)

pub headers_stay : (c : Chain) (at host : ℕ) (r : Records) (x : Volumes) (d : Content) → ((l : Layer) → IsLayerAt c at l → IsBackingFor (records_in (records_kept c)) l None) → KnowsHeaders c at host r x d → KnowsHeaders c (at + 1) host r x d
headers_stay c at host r x d stays k = record {
  image = k.image;
  said = k.said;
  tidy = k.tidy;
  formed = k.formed;
  rest = k.rest;
  told = λ b l low is. go b l low is (nat_cases b at);
}
  where
    s : Records
    s = records_in (records_kept c)

    go : (b : ℕ) (l : Layer) → b < at + 1 → IsLayerAt c b l → (b ≡ at) ⊎ (b ≢ at) → TellsUp r l
    go b l low is (inl same) up y over there = by (stays l (subst (λ (i : ℕ). IsLayerAt c i l) same is) up (over_after r s (volume_kept l) up k.image.partly over))
      where
        by : (parent_kept l ≡ Some up) ⊎ (s up ≡ None) → parent_kept l ≡ Some up
        by (inl e) = e
        by (inr none) = absurd (still_some r s up y (k.image.partly up) there none)
    go b l low is (inr other) up y over there = k.told b l (omega (arith, low, other)) is up y over there
