-- An image opens alike while the header of a layer of the path is rewritten.
use Rattle.std.proofs.Common.{◌≡◌, ◌≢◌, ◌⊎◌, ℕ, Option, Some, None, refl, sym, ap, ◌∙◌, subst, inl, inr}
use Rattle.sd_names.specs.Turn.{MatchTurn}
use Rattle.sd_names.specs.declared.id.Id.{Id}
use Rattle.sd_names.specs.declared.place.Place.{Place}
use Rattle.sd_names.specs.declared.turn.Turn.TheVariants.{More, Done, Ended}
use Rattle.shared_disk.specs.Content.{Content, File}
use Rattle.shared_disk.specs.Crash.{IsAlso, OnEach}
use Rattle.shared_disk.proofs.AtPlace.{one_file}
use Rattle.shared_disk.proofs.Outcomes.{settled_itself}
use Rattle.image_model.specs.Soundness.{IsSound}
use Rattle.layer_creating.specs.declared.backing.Backing.{Backing}
use Rattle.layer_heading.specs.Rebased.{IsOldOrOver}
use Rattle.layer_heading.specs.Rebasing.{CallOf, IsSameRebasing, KeepsLayer, KnowsFile, backing_of, stage_of}
use Rattle.layer_heading.specs.Writing.{Leaves, Turned}
use Rattle.layer_heading.specs.declared.rebasing.Rebasing.{Rebasing}
use Rattle.layer_writing.specs.Holding.{on_medium}
use Rattle.qcow_layer.specs.Opening.{capacity_kept, header_kept, parent_kept, place_kept, volume_kept}
use Rattle.qcow_layer.specs.declared.layer.Layer.{Layer}
use Rattle.volume_meta.specs.declared.record.VolumeRecord.{VolumeRecord}
use Rattle.chain_model.specs.Folder.{Volumes}
use Rattle.chain_model.specs.Records.{Records, parent}
use Rattle.chain_records.specs.Records.{records_in}
use Rattle.chain_records.specs.Settling.{IsOver}
use Rattle.volume_chain.specs.Chain.{path_in, records_kept}
use Rattle.volume_chain.specs.declared.chain.Chain.{Chain}
use Rattle.chain_settling.specs.Alike.{IsCow}
use Rattle.chain_settling.specs.Knowing.{IsAsNamed, KnowsHeaders, KnowsHeading, KnowsSettled}
use Rattle.chain_settling.specs.Reopening.{NamesAlike, OpensAlike, StaysSound, named_in}
use Rattle.chain_settling.specs.Was.{file_in, folder_in, image_kept, text_in}
use Rattle.chain_settling.specs.Work.{IsBackingFor, IsLayerAt}
use Rattle.chain_settling.proofs.HeadNames.{IsHead, IsNext, IsOwn, done_heads, failed_heads, head_names, known_heads, settled_names}
use Rattle.chain_settling.proofs.Plans.{over_before, over_one, parent_by}
use Rattle.chain_settling.proofs.OpensAlike.{opens_but_one, text_names}
use Rattle.chain_settling.proofs.UpNames.{OfPath, layer_on}

-- ---- what the header names after a step

pub heads_after : (h : Rebasing) (m after : Layer) (host faults : ℕ) (turn : Turned Rebasing) (d e : Content) (f g : File) → d.file (place_kept m) ≡ Some f → e.file (place_kept m) ≡ Some g → KnowsFile h m host f
    → MatchTurn turn (IsSameRebasing h) (λ _. Unit {0}) (λ _ _. Unit {0}) → KeepsLayer h m after turn → CallOf h m host faults turn d e
    → Leaves (IsOldOrOver (header_kept m) (backing_of h) (capacity_kept m)) (λ next. KnowsFile next m host) m after host faults turn f g → OnEach g (IsHead m (backing_of h))
heads_after h m after host faults (More next) d e f g was is knows same keeps call leaves =
    subst (λ (b : Backing). OnEach g (IsHead m b)) same (known_heads (stage_of next) (backing_of next) m host g next.bytes leaves.next)
heads_after h m after host faults (Done u) d e f g was is knows same keeps call leaves = done_heads m after (backing_of h) host g keeps leaves.next.0 leaves.next.1
heads_after h m after host faults (Ended u refusal) d e f g was is knows same keeps call leaves = failed_heads h m host faults u refusal d e f g was is knows call leaves.comes

-- ---- the image opens alike

-- a layer with its own header, or with the next one, is sound
sound_head : (m : Layer) (b : Backing) (o : Option VolumeRecord) (t g : File) → IsCow m o → IsHead m b g → StaysSound o t g
sound_head m b None t g cow head = tt
sound_head m b (Some y) t g cow head = λ is sound. subst (λ (n : ℕ). IsSound (on_medium g) n) (sym cow.1) head.1

-- and names what it named, or the parent that counts
names_head : (c : Chain) (r : Records) (x : Volumes) (m : Layer) (b : Backing) (text : Option Id) (t g : File) (y : VolumeRecord) → r (volume_kept m) ≡ Some y → IsCow m (Some y) → IsAsNamed c r x m
    → x.file (volume_kept m) ≡ Some t → text ≡ parent r (volume_kept m) → IsOver r (volume_kept m) b.parent → IsHead m b g → NamesAlike r (volume_kept m) text t g
names_head c r x m b text t g y is cow named there old over head = go head.0
  where
    by_record : (o : Option Id) → named_in (Some y) g ≡ o → named_in (r (volume_kept m)) g ≡ o
    by_record o e = ap (λ (z : Option VolumeRecord). named_in z g) is ∙ e

    go : IsOwn m g ⊎ IsNext m b g → NamesAlike r (volume_kept m) text t g
    go (inl own) = inl (old, by_record (parent_kept m) (head_names m y g _ (parent_kept m) cow own) ∙ sym (named.header t there))
    go (inr next) = inr (b.parent, over, by_record (Some b.parent) (head_names m y g _ (Some b.parent) cow next))

pub heading_opens : (c : Chain) (at : ℕ) (h : Rebasing) (host : ℕ) (r : Records) (x : Volumes) (d e : Content) → (k : KnowsHeading c at h host r x d) → (g : File) → e.file (place_kept k.layer) ≡ Some g
    → OnEach g (IsHead k.layer (backing_of h)) → ((v : Id) → e.file (text_in (folder_in c) v) ≡ d.file (text_in (folder_in c) v))
    → ((v : Id) → v ≢ volume_kept k.layer → e.file (file_in (folder_in c) v) ≡ d.file (file_in (folder_in c) v)) → OpensAlike (image_kept c) (folder_in c) r x e
heading_opens c at h host r x d e k g is heads texts files =
    opens_but_one (image_kept c) (folder_in c) r x d e (volume_kept k.layer) k.file g (ap (λ (p : Place). d.file p) (sym k.place) ∙ k.there) (ap (λ (p : Place). e.file p) (sym k.place) ∙ is) texts files
    (λ t there was z out. sound_head k.layer (backing_of h) (r (volume_kept k.layer)) t z k.cow (heads z out))
    (λ t there was z out. names_head c r x k.layer (backing_of h) (text_names (image_kept c) (folder_in c) d (volume_kept k.layer)) t z own.says own.is own.cow k.named there old k.backs.0 (heads z out)) k.image.opens
  where
    own : OfPath c r k.layer
    own = layer_on c r x at k.layer k.image.was k.is

    old : text_names (image_kept c) (folder_in c) d (volume_kept k.layer) ≡ parent r (volume_kept k.layer)
    old = ap (λ (o : Option VolumeRecord). parent_by o) (k.said (volume_kept k.layer)) ∙ k.named.text

-- ---- a rewriting begins

-- where the header names another volume than the parent that counts, neither the header nor the text was rewritten
pub named_before : (c : Chain) (at host : ℕ) (r : Records) (x : Volumes) (d : Content) (m : Layer) (b : Backing) → IsLayerAt c at m → IsBackingFor (records_in (records_kept c)) m (Some b) → KnowsHeaders c at host r x d → IsAsNamed c r x m
named_before c at host r x d m b is names k = go (x.file (volume_kept m)) refl also
  where
    known : KnowsSettled c m host d
    known = k.rest.layers.each at m is

    own : OfPath c r m
    own = layer_on c r x at m k.image.was is

    text : Option Id
    text = text_names (image_kept c) (folder_in c) d (volume_kept m)

    said : parent (records_in (records_kept c)) (volume_kept m) ≡ text
    said = ap (λ (o : Option VolumeRecord). parent_by o) (sym (k.said (volume_kept m)))

    also : IsAlso (λ f g. OnEach g (NamesAlike r (volume_kept m) text f)) (x.file (volume_kept m)) (Some known.file)
    also = subst (λ (o : Option File). IsAlso (λ f g. OnEach g (NamesAlike r (volume_kept m) text f)) (x.file (volume_kept m)) o) (ap (λ (p : Place). d.file p) (sym known.place) ∙ known.there)
        (k.image.opens.names (path_in c) (volume_kept m) k.image.was.reading own.on)

    name : named_in (r (volume_kept m)) known.file ≡ parent_kept m
    name = ap (λ (o : Option VolumeRecord). named_in o known.file) own.is ∙ settled_names m own.says host known.file own.cow known.knows known.settled

    by : (t : File) → NamesAlike r (volume_kept m) text t known.file → (text ≡ parent r (volume_kept m)) × (named_in (r (volume_kept m)) t ≡ parent_kept m)
    by t (inl same) = (same.0, sym same.1 ∙ name)
    by t (inr up) =
        let over = over_before r (records_in (records_kept c)) (volume_kept m) b.parent (k.image.chains (volume_kept m)) k.image.partly names.0 in
        absurd (names.1 (sym name ∙ up.2 ∙ ap (λ (u : Id). Some u) (over_one r (volume_kept m) up.0 b.parent up.1 over)))

    go : (o : Option File) → x.file (volume_kept m) ≡ o → IsAlso (λ f g. OnEach g (NamesAlike r (volume_kept m) text f)) o (Some known.file) → IsAsNamed c r x m
    go None e a = absurd a
    go (Some t) e a =
        let found = by t (a known.file (settled_itself known.file known.settled)) in
        record {
          text = said ∙ found.0;
          header = λ f there. ap (λ (z : File). named_in (r (volume_kept m)) z) (one_file f t (x.file (volume_kept m)) there e) ∙ found.1;
        }
