-- What a writer knows where it begins, after a sync, and after one sector.
use Rattle.std.proofs.Common.{◌≡◌, ℕ, ◌+◌, ◌*◌, ◌/◌, ◌%◌, ◌^◌, ◌<◌, ◌≤◌, max, List, Ok, sym, ap, ◌∙◌, subst}
use Rattle.shared_disk.specs.Calls.{synced}
use Rattle.shared_disk.specs.Content.{File}
use Rattle.shared_disk.specs.Crash.{IsAlone, IsSettled, OnEach}
use Rattle.shared_disk.proofs.Outcomes.{settled_file, synced_file}
use Rattle.qcow_format.specs.declared.header.Header.{Header}
use Rattle.image_model.specs.File as image
use Rattle.image_model.specs.File.{file_of}
use Rattle.image_model.specs.Soundness.{IsSound, layer_header}
use Rattle.qcow_format.specs.Name.{backing_id}
use Rattle.layer_laws.specs.Laws.{IsUnnamed, SameContent, layer}
use Rattle.qcow_layer.specs.Knowing.{KnowsLayer, KnowsNumbers}
use Rattle.qcow_layer.specs.Stages.{roof}
use Rattle.layer_walk.specs.Marks.{map_size}
use Rattle.qcow_layer.specs.declared.layer.Layer.{Layer}
use Rattle.qcow_layer.proofs.Knowing.{settled_alone, settled_seen}
use Rattle.layer_writing.specs.Holding.{ComesBy, HoldSame, IsBetween, IsLike, IsSpare, as_seen, on_medium}
use Rattle.layer_writing.specs.Writer.{IsSameFile, KnowsWriter, MapTells}
use Rattle.layer_writing.proofs.Likes.{holds_itself, holds_through, like_itself}
use Rattle.layer_writing.proofs.Sectors.{alone_synced}
use Rattle.layer_writing.proofs.Writes.{FactsOf, facts_of, knows_of}

-- ---- a file with nothing unsynced

pub settled_medium : (host : ℕ) (f : File) → IsSettled f → as_seen host f ≡ on_medium f
settled_medium host f settled = ap (file_of f.size) (settled_seen host f settled)

-- its only outcome is as the host sees it
pub settled_outcome : (host : ℕ) (f : File) → IsSettled f → OnEach f (λ g. on_medium g ≡ as_seen host f)
settled_outcome host f settled g out = ap on_medium (settled_file f g settled out) ∙ sym (settled_medium host f settled)

pub settled_knows : (l : Layer) (host : ℕ) (f : File) → KnowsLayer l host f → IsSettled f → 512 * f.size % 2 ^ l.work.header.cluster_bits ≡ 0 → KnowsWriter l host f
settled_knows l host f knows settled whole = record {
  knows = knows;
  whole = whole;
  each = λ g out. subst (λ (x : image.File). IsLike l.work.header l.target.capacity (as_seen host f) x) (sym (settled_outcome host f settled g out))
      (like_itself l.work.header l.target.capacity (as_seen host f) knows.numbers.header knows.numbers.sound);
}

-- a layer of which the numbers are known in a file with nothing unsynced, as long as one that was known
pub anew : (l m : Layer) (host : ℕ) (f g : File) → KnowsWriter l host f → IsSameFile l m → g.size ≡ f.size → IsSettled g → KnowsNumbers m (on_medium g) → KnowsWriter m host g
anew l m host f g knows same size settled numbers = settled_knows m host g (record {
  alone = settled_alone host g settled;
  made = settled.fresh;
  numbers = seen;
  each = λ o out. subst (λ (x : image.File). IsSound x m.target.capacity) (sym (settled_outcome host g settled o out)) seen.sound;
  long = subst (λ n. n ≤ 512 * g.size) (sym same.length) (subst (λ n. l.work.marks.size ≤ 512 * n) (sym size) knows.knows.long);
  fits = subst (λ n. 512 * n < 2 ^ 64) (sym size) knows.knows.fits;
  map = same.mapped ∙ knows.knows.map ∙ sym (ap (λ n. map_size (max n (roof m.target.greatest)) (2 ^ m.work.header.cluster_bits)) same.length
      ∙ ap (λ n. map_size (max l.work.marks.size (roof n)) (2 ^ m.work.header.cluster_bits)) same.greatest
      ∙ ap (λ n. map_size (max l.work.marks.size (roof l.target.greatest)) (2 ^ n)) same.bits);
}) settled (subst (λ n. 512 * g.size % 2 ^ n ≡ 0) (sym same.bits) (subst (λ n. 512 * n % 2 ^ l.work.header.cluster_bits ≡ 0) (sym size) knows.whole))
  where
    seen : KnowsNumbers m (as_seen host g)
    seen = subst (λ (x : image.File). KnowsNumbers m x) (sym (settled_medium host g settled)) numbers

-- ---- a sync

pub synced_seen : (host : ℕ) (f : File) → IsAlone host f → as_seen host (synced host f) ≡ as_seen host f
synced_seen host f alone = settled_medium host (synced host f) (alone_synced host f alone)

pub synced_outcome : (host : ℕ) (f : File) → IsAlone host f → OnEach (synced host f) (λ g. on_medium g ≡ as_seen host f)
synced_outcome host f alone g out = settled_outcome host (synced host f) (alone_synced host f alone) g out ∙ synced_seen host f alone

pub synced_facts : (l : Layer) (host : ℕ) (f : File) → FactsOf l host f → FactsOf l host (synced host f)
synced_facts l host f facts =
    let settled = alone_synced host f facts.alone in
    record {
      alone = settled_alone host (synced host f) settled;
      made = settled.fresh;
      header = subst (λ (x : image.File). layer_header_is x) (sym (synced_seen host f facts.alone)) facts.header;
      parent_is = facts.parent_is ∙ ap (λ (x : image.File). backing_id l.work.header x.head) (sym (synced_seen host f facts.alone));
      sound = subst (λ (x : image.File). IsSound x l.target.capacity) (sym (synced_seen host f facts.alone)) facts.sound;
      long = facts.long;
      fits = facts.fits;
      map = facts.map;
      whole = facts.whole;
      each = λ g out.
          subst (λ (x : image.File). IsLike l.work.header l.target.capacity x (on_medium g)) (sym (synced_seen host f facts.alone))
          (subst (λ (x : image.File). IsLike l.work.header l.target.capacity (as_seen host f) x) (sym (synced_outcome host f facts.alone g out))
          (like_itself l.work.header l.target.capacity (as_seen host f) facts.header facts.sound));
    }
  where
    layer_header_is : image.File → Type 0
    layer_header_is x = layer_header x l.target.capacity ≡ Ok l.work.header

pub synced_knows : (l : Layer) (host : ℕ) (f : File) → KnowsWriter l host f → KnowsWriter l host (synced host f)
synced_knows l host f knows =
    knows_of l host (synced host f) (synced_facts l host f (facts_of l host f knows))
    (subst (λ (x : image.File). MapTells l (layer l.work.header x)) (sym (synced_seen host f knows.knows.alone)) knows.knows.numbers.used)

-- no outcome is new
pub synced_comes : (h : Header) (capacity host : ℕ) (f : File) → ComesBy (HoldSame h capacity) f (synced host f)
synced_comes h capacity host f g out = (g, synced_file host f g out, holds_itself h capacity (on_medium g))

pub synced_spare : (h : Header) (capacity place host : ℕ) (f : File) → IsAlone host f → IsSpare (layer h (as_seen host f)) capacity place → OnEach (synced host f) (λ g. IsSpare (layer h (on_medium g)) capacity place)
synced_spare h capacity place host f alone spare g out = subst (λ (x : image.File). IsSpare (layer h x) capacity place) (sym (synced_outcome host f alone g out)) spare

-- ---- one sector

pub between_synced : (host : ℕ) (old new : ℕ → List ℕ) (f : File) → IsBetween host old new f → IsSettled (synced host f) × ((synced host f).stable ≡ new)
between_synced host old new f between = (alone_synced host f between.alone, between.sees)

-- ---- outcomes

pub comes_itself : (h : Header) (capacity : ℕ) (f : File) → ComesBy (HoldSame h capacity) f f
comes_itself h capacity f g out = (g, out, holds_itself h capacity (on_medium g))

pub comes_through : (h : Header) (capacity : ℕ) (f g k : File) → ComesBy (HoldSame h capacity) f g → ComesBy (HoldSame h capacity) g k → ComesBy (HoldSame h capacity) f k
comes_through h capacity f g k a b o out =
    let second = b o out in
    let first = a second.0 second.1 in
    (first.0, first.1, holds_through h capacity (on_medium first.0) (on_medium second.0) (on_medium o) first.2 second.2)

-- what nothing names as the host sees it, nothing names on an outcome
pub unnamed_on_each : (l : Layer) (host place : ℕ) (f : File) → KnowsWriter l host f → IsUnnamed (layer l.work.header (as_seen host f)) l.target.capacity place
    → OnEach f (λ g. IsUnnamed (layer l.work.header (on_medium g)) l.target.capacity place)
unnamed_on_each l host place f knows unnamed g out m e = unnamed m (sym ((knows.each g out).same.named m) ∙ e)

pub spare_stays : (h : Header) (capacity place : ℕ) (f g : image.File) → SameContent h capacity f g → g.size ≡ f.size → IsSpare (layer h f) capacity place → IsSpare (layer h g) capacity place
spare_stays h capacity place f g content size spare = record {
  begins = spare.begins;
  inside = subst (λ n. place + 2 ^ h.cluster_bits ≤ n) (sym size) spare.inside;
  counted = subst (λ n. 0 < n) (sym (content.counts (place / 2 ^ h.cluster_bits))) spare.counted;
  unnamed = λ m e. spare.unnamed m (sym (content.same.named m) ∙ e);
}
