-- The laws of writes, of a layer.
use Rattle.std.proofs.Common.{◌≡◌, ◌≢◌, ℕ, ◌+◌, ◌^◌, ◌≤◌, Bool, List, sym, ap, ◌∙◌}
use Rattle.std.specs.Prelude.{not}
use Rattle.shared_disk.specs.Calls.{sectors_in, wrote}
use Rattle.shared_disk.specs.Content.{File, seen}
use Rattle.shared_disk.specs.Crash.{OnEach}
use Rattle.shared_disk.specs.WellFormed.{IsWellFormedFile}
use Rattle.qcow_format.specs.declared.entry.Entry.TheVariants.{Data, Zero}
use Rattle.image_model.specs.File as image
use Rattle.image_model.specs.Layer.{block_place, entry_at}
use Rattle.layer_laws.specs.Laws.{BlockRecounted, IsUnnamed, Overwritten, SameContent, layer}
use Rattle.qcow_layer.specs.Knowing.{mapped}
use Rattle.qcow_layer.specs.Mapping.{IsSameButMap}
use Rattle.qcow_layer.specs.declared.layer.Layer.{Layer}
use Rattle.layer_writing.specs.Holding.{ComesBy, HoldSame, IsInCluster, IsRewritten, RaisesCounts, as_seen}
use Rattle.layer_writing.specs.Writer.{IsLeft, KnowsWriter, MapTells, seen_tables}
use Rattle.layer_writing.proofs.Counts.{counts_keep, counts_seen}
use Rattle.layer_writing.proofs.Writes.{FactsOf, Keeps, KeepsBy, comes, data_keeps, facts_after, facts_by, facts_left, facts_moved, facts_of, from, knows_of, seen_by, unnamed_keeps, unnamed_seen, used_same, zero_keeps, zero_seen}

module _ (l : Layer) (did : ℕ → Bool) (host at place : ℕ) (bytes : List ℕ) (f : File) (formed : IsWellFormedFile f) (knows : KnowsWriter l host f)
    (inside : IsInCluster (2 ^ l.work.header.cluster_bits) place at bytes) (unnamed : IsUnnamed (layer l.work.header (as_seen host f)) l.target.capacity place) where
  abbrev facts : FactsOf l host f
  facts = facts_of l host f knows

  keeps : Keeps l.work.header l.target.capacity l.target.greatest l.work.marks.size (mapped l) l.work.parent host at bytes f formed facts
  keeps = unnamed_keeps l.work.header l.target.capacity l.target.greatest l.work.marks.size (mapped l) l.work.parent host at bytes f formed facts place inside.begins inside.low inside.high unnamed

  pub unnamed_same : SameContent l.work.header l.target.capacity (as_seen host f) (as_seen host (wrote did host at bytes f))
  unnamed_same = unnamed_seen l.work.header l.target.capacity l.target.greatest l.work.marks.size (mapped l) l.work.parent host at bytes f formed facts place inside.begins inside.low inside.high unnamed did

  pub unnamed_knows : KnowsWriter l host (wrote did host at bytes f)
  unnamed_knows = knows_of l host (wrote did host at bytes f)
      (facts_after l.work.header l.target.capacity l.target.greatest l.work.marks.size (mapped l) l.work.parent host at bytes f formed facts did keeps)
      (λ c lt. knows.knows.numbers.used c lt ∙ ap not (sym (used_same l.work.header l.target.capacity (as_seen host f) (as_seen host (wrote did host at bytes f)) unnamed_same.counts unnamed_same.same.blocks c)))

  pub unnamed_comes : ComesBy (HoldSame l.work.header l.target.capacity) f (wrote did host at bytes f)
  unnamed_comes = comes l.work.header l.target.capacity l.target.greatest l.work.marks.size (mapped l) l.work.parent host at bytes f formed facts did keeps

module _ (l : Layer) (did : ℕ → Bool) (host at k place : ℕ) (bytes : List ℕ) (f : File) (formed : IsWellFormedFile f) (knows : KnowsWriter l host f)
    (inside : IsInCluster (2 ^ l.work.header.cluster_bits) place at bytes) where
  abbrev facts_in : FactsOf l host f
  facts_in = facts_of l host f knows

  module _ (zero : entry_at (layer l.work.header (as_seen host f)) k ≡ Zero place) (some : place ≢ 0) where
    zeros_kept : Keeps l.work.header l.target.capacity l.target.greatest l.work.marks.size (mapped l) l.work.parent host at bytes f formed facts_in
    zeros_kept = zero_keeps l.work.header l.target.capacity l.target.greatest l.work.marks.size (mapped l) l.work.parent host at bytes f formed facts_in place inside.begins inside.low inside.high k zero some

    pub kept_same : SameContent l.work.header l.target.capacity (as_seen host f) (as_seen host (wrote did host at bytes f))
    kept_same = zero_seen l.work.header l.target.capacity l.target.greatest l.work.marks.size (mapped l) l.work.parent host at bytes f formed facts_in place inside.begins inside.low inside.high k zero some did

    pub kept_knows : KnowsWriter l host (wrote did host at bytes f)
    kept_knows = knows_of l host (wrote did host at bytes f)
        (facts_after l.work.header l.target.capacity l.target.greatest l.work.marks.size (mapped l) l.work.parent host at bytes f formed facts_in did zeros_kept)
        (λ c lt. knows.knows.numbers.used c lt ∙ ap not (sym (used_same l.work.header l.target.capacity (as_seen host f) (as_seen host (wrote did host at bytes f)) kept_same.counts kept_same.same.blocks c)))

    pub kept_comes : ComesBy (HoldSame l.work.header l.target.capacity) f (wrote did host at bytes f)
    kept_comes = comes l.work.header l.target.capacity l.target.greatest l.work.marks.size (mapped l) l.work.parent host at bytes f formed facts_in did zeros_kept

  module _ (held : entry_at (layer l.work.header (as_seen host f)) k ≡ Data place) where
    abbrev R : image.File → image.File → Type 0
    R = Overwritten l.work.header l.target.capacity k place

    data_kept : KeepsBy l.work.header l.target.capacity l.target.greatest l.work.marks.size (mapped l) l.work.parent host at bytes f formed facts_in R
    data_kept = data_keeps l.work.header l.target.capacity l.target.greatest l.work.marks.size (mapped l) l.work.parent host at bytes f formed facts_in place inside.begins inside.low inside.high k held

    pub data_same : Overwritten l.work.header l.target.capacity k place (as_seen host f) (as_seen host (wrote did host at bytes f))
    data_same = (seen_by l.work.header l.target.capacity l.target.greatest l.work.marks.size (mapped l) l.work.parent host at bytes f formed facts_in did R data_kept).1

    pub data_knows : KnowsWriter l host (wrote did host at bytes f)
    data_knows = knows_of l host (wrote did host at bytes f)
        (facts_by l.work.header l.target.capacity l.target.greatest l.work.marks.size (mapped l) l.work.parent host at bytes f formed facts_in did R data_kept)
        (λ c lt. knows.knows.numbers.used c lt ∙ ap not (sym (used_same l.work.header l.target.capacity (as_seen host f) (as_seen host (wrote did host at bytes f)) data_same.counts data_same.same.blocks c)))

    pub data_comes : OnEach (wrote did host at bytes f) (IsRewritten l.work.header l.target.capacity k place did at bytes f)
    data_comes g out =
        let w = from l.work.header l.target.capacity l.target.greatest l.work.marks.size (mapped l) l.work.parent host at bytes f formed facts_in did R data_kept g out in
        record { old = w.old; outcome = w.outcome; laid = w.laid; header = w.like.same.header; parent = w.kept.0.parent; over = w.kept.1 }

module _ (l m : Layer) (did : ℕ → Bool) (host at k : ℕ) (bytes : List ℕ) (f : File) (formed : IsWellFormedFile f) (knows : KnowsWriter l host f)
    (there : block_place (layer l.work.header (as_seen host f)) k ≢ 0)
    (inside : IsInCluster (2 ^ l.work.header.cluster_bits) (block_place (layer l.work.header (as_seen host f)) k) at bytes)
    (fits : at + sectors_in bytes ≤ f.size) (raises : RaisesCounts (seen host f) at bytes) where
  abbrev facts' : FactsOf l host f
  facts' = facts_of l host f knows

  keeps' : Keeps l.work.header l.target.capacity l.target.greatest l.work.marks.size (mapped l) l.work.parent host at bytes f formed facts'
  keeps' = counts_keep l.work.header l.target.capacity l.target.greatest l.work.marks.size (mapped l) l.work.parent host at bytes f formed facts' k there inside.low inside.high fits raises

  after : FactsOf l host (wrote did host at bytes f)
  after = facts_after l.work.header l.target.capacity l.target.greatest l.work.marks.size (mapped l) l.work.parent host at bytes f formed facts' did keeps'

  pub counts_know : IsSameButMap l m → MapTells m (seen_tables m host (wrote did host at bytes f)) → KnowsWriter m host (wrote did host at bytes f)
  counts_know same tells = knows_of m host (wrote did host at bytes f) (facts_moved l m host (wrote did host at bytes f) same after) tells

  pub counts_left : IsSameButMap l m → IsLeft m host (wrote did host at bytes f)
  counts_left same = facts_left m host (wrote did host at bytes f) (facts_moved l m host (wrote did host at bytes f) same after)

  pub counts_comes : ComesBy (HoldSame l.work.header l.target.capacity) f (wrote did host at bytes f)
  counts_comes = comes l.work.header l.target.capacity l.target.greatest l.work.marks.size (mapped l) l.work.parent host at bytes f formed facts' did keeps'

  pub counts_same : BlockRecounted l.work.header l.target.capacity k (as_seen host f) (as_seen host (wrote did host at bytes f))
  counts_same = counts_seen l.work.header l.target.capacity l.target.greatest l.work.marks.size (mapped l) l.work.parent host at bytes f formed facts' k there inside.low inside.high fits raises did
