-- What the header of a layer's file names on each outcome, while it is rewritten.
use Rattle.std.proofs.Common.{◌≡◌, ◌⊎◌, ℕ, List, Option, Some, Ok, Result, Err, refl, sym, ap, ◌∙◌, subst, inl, inr}
use Rattle.sd_names.specs.Id.{IsIdBytes}
use Rattle.sd_names.specs.declared.fault.LayerFault.{LayerFault}
use Rattle.sd_names.specs.declared.id.Id.{Id}
use Rattle.sd_names.specs.declared.kinds.Format.{Format}
use Rattle.sd_names.specs.declared.turn.Turn.TheVariants.{Done, Ended}
use Rattle.sd_names.specs.declared.refusal.Refusal.{Refusal}
use Rattle.shared_disk.specs.Content.{Content, File}
use Rattle.shared_disk.specs.Crash.{IsSettled, OnEach}
use Rattle.shared_disk.specs.declared.disk.DiskAnswer.TheVariants.{Exists, Failed, NoFile, NotEmpty, OutOfFile}
use Rattle.shared_disk.proofs.AtPlace.{one_file}
use Rattle.shared_disk.proofs.Outcomes.{settled_file}
use Rattle.qcow_format.specs.Name.{backing_id}
use Rattle.qcow_format.specs.declared.header.Header.{Header}
use Rattle.image_model.specs.File as numbers
use Rattle.image_model.specs.File.{file_of}
use Rattle.image_model.specs.Soundness.{IsSound, layer_header}
use Rattle.layer_creating.specs.New.{name_sector}
use Rattle.layer_creating.specs.declared.backing.Backing.{Backing}
use Rattle.layer_heading.specs.Rebased.{IsOldOrOver, IsOver, rebased}
use Rattle.layer_heading.specs.Rebasing.{CallIn, CallOf, HasName, KnowsFile, KnowsIn, backing_of, header_sector, name_at, stage_of}
use Rattle.layer_heading.specs.Writing.{IsQuiet, IsWriting, SyncsThen}
use Rattle.layer_heading.specs.declared.rebasing.Rebasing.{Rebasing}
use Rattle.layer_heading.specs.declared.rebasing.Stage.{Stage}
use Rattle.layer_heading.specs.declared.rebasing.Stage.TheVariants.{Begun, Headed, Laid, Named, Synced}
use Rattle.layer_heading.proofs.Layers as layers
use Rattle.layer_heading.proofs.Quiet as quiet
use Rattle.layer_writing.specs.Holding.{ComesBy, IsEither, on_medium, with_sector}
use Rattle.layer_writing.specs.Writer.{KnowsWriter}
use Rattle.layer_writing.proofs.Known.{settled_medium}
use Rattle.qcow_layer.specs.Knowing.{KnowsLayer, KnowsNumbers}
use Rattle.qcow_layer.specs.Mapping.{IsWithHeader}
use Rattle.qcow_layer.specs.Opening.{capacity_kept, header_kept, parent_kept, place_kept}
use Rattle.qcow_layer.specs.declared.layer.Layer.{Layer}
use Rattle.qcow_layer.specs.declared.stages.Target.{Target}
use Rattle.volume_meta.specs.declared.record.VolumeRecord.{VolumeRecord}
use Rattle.chain_model.specs.Headers.{backing_by, backing_in}
use Rattle.chain_settling.specs.Alike.{IsCow}
use Rattle.chain_settling.specs.Reopening.{named_in}

-- the header of a file is this one, and names this parent
pub record HasHead (capacity : ℕ) (h : Header) (named : Option Id) (f : File) : Type 0 where
  pub header : layer_header (on_medium f) capacity ≡ Ok h
  pub parent : backing_id h (on_medium f).head ≡ named

-- the layer's own, or the one over the backing file; and the layer is sound
abbrev pub IsOwn : Layer → File → Type 0
IsOwn m f = HasHead (capacity_kept m) (header_kept m) (parent_kept m) f

abbrev pub IsNext : Layer → Backing → File → Type 0
IsNext m b f = HasHead (capacity_kept m) (rebased (header_kept m) b) (Some b.parent) f

abbrev pub IsHead : Layer → Backing → File → Type 0
IsHead m b f = (IsOwn m f ⊎ IsNext m b f) × IsSound (on_medium f) (capacity_kept m)

-- ---- by what a rebasing knows

own_by : (m : Layer) (n : ℕ) (s : ℕ → List ℕ) (g : File) → g.size ≡ n → g.stable ≡ s → KnowsNumbers m (file_of n s) → IsOwn m g × IsSound (on_medium g) (capacity_kept m)
own_by m n s g long is knows =
    let same : file_of n s ≡ on_medium g = λ i. file_of (sym long i) (sym is i) in
    let own = subst (λ (z : numbers.File). KnowsNumbers m z) same knows in
    (record { header = own.header; parent = sym own.parent }, own.sound)

next_by : (m : Layer) (b : Backing) (q : File) (s : ℕ → List ℕ) (g : File) → g.size ≡ q.size → g.stable ≡ s → IsOver (header_kept m) b (capacity_kept m) (on_medium q) (file_of q.size s)
    → IsNext m b g × IsSound (on_medium g) (capacity_kept m)
next_by m b q s g long is over =
    let same : file_of q.size s ≡ on_medium g = λ i. file_of (sym long i) (sym is i) in
    let next = subst (λ (z : numbers.File). IsOver (header_kept m) b (capacity_kept m) (on_medium q) z) same over in
    (record { header = next.header; parent = next.parent }, next.rest.sound)

quiet_own : (m : Layer) (host : ℕ) (f : File) → IsQuiet m host f → OnEach f (λ g. IsOwn m g × IsSound (on_medium g) (capacity_kept m))
quiet_own m host f q g out =
    let same = settled_file f g q.settled out in
    own_by m f.size f.stable g (ap (λ (z : File). z.size) same) (ap (λ (z : File). z.stable) same) (quiet.numbers m host f q)

named_own : (m : Layer) (host p : ℕ) (sector : List ℕ) (q f : File) → (k : IsQuiet m host q) → IsWriting host p sector q f → KnowsNumbers m (file_of q.size (with_sector p sector q.stable))
    → OnEach f (λ g. IsOwn m g × IsSound (on_medium g) (capacity_kept m))
named_own m host p sector q f k w numbers g out = go (w.between.each g out)
  where
    go : IsEither q.stable (with_sector p sector q.stable) g → IsOwn m g × IsSound (on_medium g) (capacity_kept m)
    go (inl is) = own_by m q.size q.stable g (out.size ∙ w.size) is (quiet.numbers m host q k)
    go (inr is) = own_by m q.size (with_sector p sector q.stable) g (out.size ∙ w.size) is numbers

-- before the header is written each outcome has the layer's own
own_heads : (s : Stage) (b : Backing) (m : Layer) (host : ℕ) (f : File) → KnowsIn s b m host f → OnEach f (λ g. IsOwn m g × IsSound (on_medium g) (capacity_kept m)) ⊎ (s ≡ Headed)
own_heads Begun b m host f k = inl (quiet_own m host f k)
own_heads Named b m host f k = inl (named_own m host (name_at m) (name_sector (Some b)) k.0 f k.1 k.2 (quiet.named_numbers m host k.0 k.1 b))
own_heads Synced b m host f k = inl (quiet_own m host f k.quiet)
own_heads (Laid sector) b m host f k = inl (quiet_own m host f k.0.quiet)
own_heads Headed b m host f k = inr refl

over_quiet : (b : Backing) (m : Layer) (host : ℕ) (q : File) → IsIdBytes b.parent.0 → HasName b m host q
    → IsOver (header_kept m) b (capacity_kept m) (on_medium q) (file_of q.size (with_sector 0 (header_sector b m q) q.stable))
over_quiet b m host q bytes k =
    layers.is_over q.size (capacity_kept m) q.stable (header_kept m) b bytes (quiet.long m host q k.quiet) (quiet.fits m host q k.quiet) (quiet.numbers m host q k.quiet).header
    (quiet.numbers m host q k.quiet).sound (quiet.inside m host q k.quiet) k.name

own_is_head : (m : Layer) (b : Backing) (f : File) → OnEach f (λ g. IsOwn m g × IsSound (on_medium g) (capacity_kept m)) → OnEach f (IsHead m b)
own_is_head m b f own g out = let at = own g out in (inl at.0, at.1)

headed_heads : (b : Backing) (m : Layer) (host : ℕ) (q f : File) → IsIdBytes b.parent.0 → HasName b m host q → IsWriting host 0 (header_sector b m q) q f → OnEach f (IsHead m b)
headed_heads b m host q f bytes k w g out = go (w.between.each g out)
  where
    go : IsEither q.stable (with_sector 0 (header_sector b m q) q.stable) g → IsHead m b g
    go (inl is) = let at = own_by m q.size q.stable g (out.size ∙ w.size) is (quiet.numbers m host q k.quiet) in (inl at.0, at.1)
    go (inr is) = let at = next_by m b q (with_sector 0 (header_sector b m q) q.stable) g (out.size ∙ w.size) is (over_quiet b m host q bytes k) in (inr at.0, at.1)

pub known_heads : (s : Stage) (b : Backing) (m : Layer) (host : ℕ) (f : File) → IsIdBytes b.parent.0 → KnowsIn s b m host f → OnEach f (IsHead m b)
known_heads Begun b m host f bytes k = own_is_head m b f (quiet_own m host f k)
known_heads Named b m host f bytes k = own_is_head m b f (named_own m host (name_at m) (name_sector (Some b)) k.0 f k.1 k.2 (quiet.named_numbers m host k.0 k.1 b))
known_heads Synced b m host f bytes k = own_is_head m b f (quiet_own m host f k.quiet)
known_heads (Laid sector) b m host f bytes k = own_is_head m b f (quiet_own m host f k.0.quiet)
known_heads Headed b m host f bytes k = headed_heads b m host k.0 f bytes k.1 k.2

-- ---- by what a step leaves

-- one outcome from another that has the layer's own header
from_own : (m : Layer) (b : Backing) (f g : File) → IsOwn m f × IsSound (on_medium f) (capacity_kept m) → IsOldOrOver (header_kept m) b (capacity_kept m) (on_medium f) (on_medium g) → IsHead m b g
from_own m b f g own (inl same) = (
  inl (record {
    header = ap (λ (z : numbers.File). layer_header z (capacity_kept m)) same ∙ own.0.header;
    parent = ap (λ (z : numbers.File). backing_id (header_kept m) z.head) same ∙ own.0.parent;
  }),
  subst (λ (z : numbers.File). IsSound z (capacity_kept m)) (sym same) own.1,
)
from_own m b f g own (inr (inl still)) = (inl (record { header = still.header; parent = still.parent ∙ own.0.parent }), still.rest.sound)
from_own m b f g own (inr (inr over)) = (inr (record { header = over.header; parent = over.parent }), over.rest.sound)

-- a sync that failed has changed nothing
failed_sync : (m : Layer) (host faults : ℕ) (u : Unit {0}) (refusal : Refusal) (d e : Content) → SyncsThen {S = Rebasing} m host faults (Done tt) (Ended u refusal) d e → e ≡ d
failed_sync m host faults u refusal d e (Ok done, is, by) = absurd cc
failed_sync m host faults u refusal d e (Err Failed, is, by) = is
failed_sync m host faults u refusal d e (Err NoFile, is, by) = is.0
failed_sync m host faults u refusal d e (Err Exists, is, by) = absurd is
failed_sync m host faults u refusal d e (Err OutOfFile, is, by) = absurd is
failed_sync m host faults u refusal d e (Err NotEmpty, is, by) = absurd is

-- where a step fails
pub failed_heads : (h : Rebasing) (m : Layer) (host faults : ℕ) (u : Unit {0}) (refusal : Refusal) (d e : Content) (f g : File) → d.file (place_kept m) ≡ Some f → e.file (place_kept m) ≡ Some g
    → KnowsFile h m host f → CallOf h m host faults (Ended u refusal) d e → ComesBy (IsOldOrOver (header_kept m) (backing_of h) (capacity_kept m)) f g → OnEach g (IsHead m (backing_of h))
failed_heads h m host faults u refusal d e f g was is knows call comes = go (own_heads (stage_of h) (backing_of h) m host f knows)
  where
    go : OnEach f (λ z. IsOwn m z × IsSound (on_medium z) (capacity_kept m)) ⊎ (stage_of h ≡ Headed) → OnEach g (IsHead m (backing_of h))
    go (inl own) = λ z out. let from = comes z out in from_own m (backing_of h) from.0 z (own from.0 from.1) from.2
    go (inr headed) =
        let kept = failed_sync m host faults u refusal d e (subst (λ (s : Stage). CallIn s h m host faults (Ended u refusal) d e) headed call) in
        let same : f ≡ g = one_file f g (e.file (place_kept m)) (ap (λ (c : Content). c.file (place_kept m)) kept ∙ was) is in
        subst (λ (z : File). OnEach z (IsHead m (backing_of h))) same (known_heads (stage_of h) (backing_of h) m host f h.bytes knows)

-- where it is done
pub done_heads : (m after : Layer) (b : Backing) (host : ℕ) (f : File) → IsWithHeader m (rebased (header_kept m) b) (Some b.parent) after → KnowsWriter after host f → IsSettled f → OnEach f (IsHead m b)
done_heads m after b host f w knows settled g out = subst (λ (z : File). IsHead m b z) (sym (settled_file f g settled out)) (inr (record { header = header; parent = parent }), sound)
  where
    numbers_are : KnowsNumbers after (on_medium f)
    numbers_are = subst (λ (z : numbers.File). KnowsNumbers after z) (settled_medium host f settled) knows.knows.numbers

    capacity : capacity_kept after ≡ capacity_kept m
    capacity = ap (λ (t : Target). t.capacity) w.target

    header : layer_header (on_medium f) (capacity_kept m) ≡ Ok (rebased (header_kept m) b)
    header = ap (λ (n : ℕ). layer_header (on_medium f) n) (sym capacity) ∙ numbers_are.header ∙ ap (λ (h : Header). Ok h) w.header_is

    parent : backing_id (rebased (header_kept m) b) (on_medium f).head ≡ Some b.parent
    parent = ap (λ (h : Header). backing_id h (on_medium f).head) (sym w.header_is) ∙ sym numbers_are.parent ∙ w.parent_is

    sound : IsSound (on_medium f) (capacity_kept m)
    sound = subst (λ (n : ℕ). IsSound (on_medium f) n) capacity numbers_are.sound

-- ---- in the words of the image

-- what the header of a layer's file names, by the record of its volume
pub head_names : (m : Layer) (y : VolumeRecord) (f : File) (h : Header) (parent : Option Id) → IsCow m (Some y) → HasHead (capacity_kept m) h parent f → named_in (Some y) f ≡ parent
head_names m y f h parent cow head =
    ap (λ (format : Format). backing_in format y f) cow.0
    ∙ ap (λ (o : Result Header LayerFault). backing_by f o) (ap (λ (n : ℕ). layer_header (on_medium f) n) cow.1 ∙ head.header) ∙ head.parent

-- the layer's own header is that of a file that it knows, in which nothing is unsynced
pub settled_names : (m : Layer) (y : VolumeRecord) (host : ℕ) (f : File) → IsCow m (Some y) → KnowsLayer m host f → IsSettled f → named_in (Some y) f ≡ parent_kept m
settled_names m y host f cow knows settled =
    let own = own_by m f.size f.stable f refl refl (subst (λ (z : numbers.File). KnowsNumbers m z) (settled_medium host f settled) knows.numbers) in
    head_names m y f (header_kept m) (parent_kept m) cow own.0
