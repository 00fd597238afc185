-- What is known of a layer's file once a piece of the part was written over a cluster of data.
use Rattle.std.proofs.Common.{◌≡◌, ◌⊎◌, ℕ, ◌+◌, ◌-◌, ◌*◌, ◌/◌, ◌%◌, ◌^◌, ◌<◌, ◌≤◌, Bool, true, false, List, Option, Some, Ok, refl, sym, ap, ◌∙◌, subst, inl, inr, arith, nat_lt}
use Rattle.std.specs.Prelude.{◌&&◌, suc, zero}
use Rattle.std.proofs.lemmas.Bool.{cases_lt}
use Rattle.std.proofs.lemmas.Bool.Decides.{nat_tests}
use Rattle.shared_disk.specs.Calls.{sectors_in, synced, wrote}
use Rattle.shared_disk.specs.Content.{File, sector_of, seen}
use Rattle.shared_disk.specs.Crash.{IsLaidOver, IsPieceSector, IsSettled, OnEach}
use Rattle.shared_disk.specs.WellFormed.{IsWellFormedFile}
use Rattle.shared_disk.proofs.Outcomes.{settled_itself, synced_file}
use Rattle.shared_disk.proofs.WellFormed.{outcome_file_keeps}
use Rattle.qcow_format.specs.declared.entry.Entry.{Entry}
use Rattle.qcow_format.specs.declared.entry.Entry.TheVariants.{Absent, Zero, Data}
use Rattle.qcow_format.specs.declared.header.Header.{Header}
use Rattle.qcow_format.specs.Name.{backing_id}
use Rattle.image_model.specs.File as image
use Rattle.image_model.specs.Layer.{entries, entry_at, has_table, names_table}
use Rattle.image_model.specs.Soundness.{IsSound, layer_header}
use Rattle.layer_laws.specs.Laws.{Overwritten, SameLayer, entry_position, layer}
use Rattle.layer_laws.proofs.Sound.{PlacedAt, clean_of, data_at, shape_of}
use Rattle.link_laws.proofs.Many.{inside}
use Rattle.link_laws.proofs.Rows.{lies_whole}
use Rattle.qcow_layer.specs.declared.layer.Layer.{Layer}
use Rattle.qcow_layer.specs.declared.looking.Looked.{Looked}
use Rattle.qcow_layer.proofs.Knowing.{in_file}
use Rattle.layer_writing.specs.Holding.{IsInCluster, IsRewritten, as_seen, on_medium}
use Rattle.layer_writing.specs.Writer.{KnowsWriter, seen_tables}
use Rattle.layer_writing.proofs.OfLayers.{data_comes, data_knows, data_same}
use Rattle.layer_writing.proofs.Sectors.{alone_synced, seen_laid}
use Rattle.raw_writing.proofs.Seen.{written_seen}
use Rattle.volume_meta.specs.declared.record.VolumeRecord.{VolumeRecord}
use Rattle.chain_model.specs.Own.{own_in, sectors_of}
use Rattle.own_laws.specs.Sectors.{IsLayerOf, cluster_of, sector_at, sector_behind}
use Rattle.own_laws.proofs.Changes.{written_held}
use Rattle.chain_laws.specs.Laid.{IsInPart, Laying, sector_in_part}
use Rattle.chain_laws.specs.Written.{FileWritten}
use Rattle.part_laws.specs.Steps.{IsPieceAt}
use Rattle.part_laws.proofs.Files.{known_layers}
use Rattle.part_laws.proofs.Held.{part_held, piece_written}
use Rattle.write_planning.specs.Plan.{found_at, places_below, span_of, tables_of, target_at, target_by, target_found}
use Rattle.write_planning.specs.Span.{count_of, first_of}
use Rattle.write_planning.specs.declared.plan.Target.TheVariants.{InPlace, Kept, New}
use Rattle.write_planning.specs.declared.plan.WritePlan.{WritePlan}
use Rattle.part_survey.specs.Survey.{HasFound}
use Rattle.place_writing.specs.Places.{HoldsPlaces, IsOver}

-- ---- what was found

target_entry : (new place : ℕ) (entry : Entry) → target_by new entry ≡ InPlace place → entry ≡ Data place
target_entry new place Absent is = let h : New new ≡ InPlace place = is in absurd cc
target_entry new place (Zero zero) is = let h : New new ≡ InPlace place = is in absurd cc
target_entry new place (Zero (suc n)) is = let h : Kept (suc n) ≡ InPlace place = is in absurd cc
target_entry new place (Data p) is = let h : InPlace p ≡ InPlace place = is in let same : p ≡ place = cc in ap (λ n. Data n) same

-- a cluster that is written in place is data there
pub data_found : (new place : ℕ) (found : Option Looked) (looked : Looked) → found ≡ Some looked → target_found new found ≡ InPlace place → looked.entry ≡ Data place
data_found new place found looked is target = target_entry new place looked.entry (sym (ap (λ (o : Option Looked). target_found new o) is) ∙ target)

-- ---- a layer that says the same

table_same : (h : Header) (capacity : ℕ) (f g : image.File) (k : ℕ) → SameLayer h capacity f g → has_table (layer h g) k ≡ has_table (layer h f) k
table_same h capacity f g k same = go (cases_lt (k / entries (layer h f)) h.l1_size)
  where
    go : (k / entries (layer h f) < h.l1_size) ⊎ (h.l1_size ≤ k / entries (layer h f)) → has_table (layer h g) k ≡ has_table (layer h f) k
    go (inl lt) = ap (λ r. nat_lt (k / entries (layer h f)) h.l1_size && names_table r) (same.tables (k / entries (layer h f)) lt)
    go (inr le) = let none : nat_lt (k / entries (layer h f)) h.l1_size ≡ false = grind (arith, nat_tests) in rw none refl

pub found_same : (p : WritePlan) (h : Header) (capacity : ℕ) (f g : image.File) → SameLayer h capacity f g → HasFound p (layer h f) → HasFound p (layer h g)
found_same p h capacity f g same has = record {
  width = has.width;
  found = λ j lt.
      let was = has.found j lt in (
        was.0,
        was.1,
        record { entry = was.2.entry ∙ sym (same.entries (first_of (span_of p) + j)); table = was.2.table ∙ sym (table_same h capacity f g (first_of (span_of p) + j) same) },
      );
}

-- the layer as it is
pub same_itself : (h : Header) (capacity : ℕ) (f : image.File) → layer_header f capacity ≡ Ok h → IsSound f capacity → SameLayer h capacity f f
same_itself h capacity f header sound = record { header = header; sound = sound; named = λ m. refl; entries = λ k. refl; tables = λ i lt. refl; blocks = λ k. refl }

-- ---- a piece is written at a cluster's place

module _ (p : WritePlan) (w : Layer) (l : Laying) (x : VolumeRecord) (host : ℕ) (f : File) (well : IsWellFormedFile f) (over : IsOver p w l x host f)
    (index place A : ℕ) (bytes : List ℕ) (in_plan : index < count_of (span_of p)) (target : target_at p index ≡ InPlace place) where
  abbrev h : Header
  h = w.work.header

  abbrev cap : ℕ
  cap = w.target.capacity

  abbrev W : ℕ
  W = 2 ^ h.cluster_bits

  abbrev c : ℕ
  c = first_of (span_of p) + index

  -- the cluster is data at the place
  pub here : entry_at (seen_tables w host f) c ≡ Data place
  here =
      let all = over.all in
      let found = over.found.found index (omega (arith, all, in_plan)) in
      sym found.2.entry ∙ data_found (tables_of p + places_below p index) place (found_at p index) found.0 found.1 target

  header_is : layer_header (as_seen host f) cap ≡ Ok h
  header_is = over.writer.knows.numbers.header

  sound_is : IsSound (as_seen host f) cap
  sound_is = over.writer.knows.numbers.sound

  named : PlacedAt h (as_seen host f) cap (shape_of (as_seen host f) cap h header_is) (clean_of (as_seen host f) cap h header_is sound_is) c place (Data place)
  named = data_at h (as_seen host f) cap (shape_of (as_seen host f) cap h header_is) (clean_of (as_seen host f) cap h header_is sound_is) c place here

  pub begins_cluster : place % W ≡ 0
  begins_cluster = named.whole

  pub lies_in_file : place + W ≤ 512 * f.size
  unfolding image.file_of
  lies_in_file =
      lies_whole place (512 * f.size) W begins_cluster over.writer.whole
      (inside h (as_seen host f) cap (entry_position (seen_tables w host f) c) place (clean_of (as_seen host f) cap h header_is sound_is (entry_position (seen_tables w host f) c)) named.name)

  module _ (in_cluster : IsInCluster W place A bytes) (piece : IsPieceAt l.part (sector_behind h c place A) bytes) where
    pub fits : A + sectors_in bytes ≤ f.size
    fits = let low = in_cluster.high in let high = lies_in_file in omega (arith, low, high)

    module _ (did : ℕ → Bool) where
      abbrev g : File
      g = wrote did host A bytes f

      pub seen_over : Overwritten h cap c place (as_seen host f) (as_seen host g)
      seen_over = data_same w did host A c place bytes f well over.writer in_cluster here

      pub writer_now : KnowsWriter w host g
      writer_now = data_knows w did host A c place bytes f well over.writer in_cluster here

      pub over_now : IsOver p w l x host g
      over_now = record {
        says = over.says;
        cow = over.cow;
        capacity = over.capacity;
        at = over.at;
        length = over.length;
        writer = writer_now;
        all = over.all;
        found = found_same p h cap (as_seen host f) (as_seen host g) seen_over.same over.found;
      }

      pub written_now : IsWellFormedFile g → FileWritten l f g
      written_now well_now =
          piece_written l x h c place A did bytes f g over.says (known_layers x w host f over.writer well over.cow over.capacity) (known_layers x w host g writer_now well_now over.cow over.capacity)
          (subst (λ n. OnEach g (IsRewritten h n c place did A bytes f)) (sym over.capacity) (data_comes w did host A c place bytes f well over.writer in_cluster here))
          (λ o out. (over.writer.each o out).same.entries c ∙ here) in_cluster fits piece

    -- ---- once it is written whole, and synced

    abbrev G : File
    G = wrote (λ _. true) host A bytes f

    settled_f : IsSettled (synced host f)
    settled_f = alone_synced host f over.writer.knows.alone

    settled_g : IsSettled (synced host G)
    settled_g = alone_synced host G (writer_now (λ _. true)).knows.alone

    layer_before : IsLayerOf x h (synced host f)
    layer_before = record {
      cow = over.cow;
      header = ap (λ n. layer_header (as_seen host f) n) over.capacity ∙ header_is;
      well = outcome_file_keeps f (synced host f) well (synced_file host f (synced host f) (settled_itself (synced host f) settled_f));
    }

    layer_after : IsWellFormedFile G → IsLayerOf x h (synced host G)
    layer_after well_now = record {
      cow = over.cow;
      header = ap (λ n. layer_header (as_seen host G) n) over.capacity ∙ (writer_now (λ _. true)).knows.numbers.header;
      well = outcome_file_keeps G (synced host G) well_now (synced_file host G (synced host G) (settled_itself (synced host G) settled_g));
    }

    laid : IsLaidOver (λ _. true) A bytes (synced host f) (synced host G)
    laid = record { size = refl; sectors = λ k. by k ((seen_laid (λ _. true) host A bytes f).sectors k) }
      where
        by : (k : ℕ) → (seen host G k ≡ seen host f k) ⊎ ((A ≤ k) × (k < A + sectors_in bytes) × (seen host G k ≡ sector_of bytes (k - A)))
            → (seen host G k ≡ seen host f k) ⊎ IsPieceSector (λ _. true) A bytes k (seen host G k)
        by k (inl same) = inl same
        by k (inr new) = inr (record { low = new.0; high = new.1; done = refl; piece = new.2 })

    parent_same : backing_id h (on_medium (synced host G)).head ≡ backing_id h (on_medium (synced host f)).head
    parent_same = sym (writer_now (λ _. true)).knows.numbers.parent ∙ over.writer.knows.numbers.parent

    rewritten : IsRewritten h x.capacity c place (λ _. true) A bytes (synced host f) (synced host G)
    rewritten = record {
      old = synced host f;
      outcome = settled_itself (synced host f) settled_f;
      laid = laid;
      header = layer_before.header;
      parent = parent_same;
      over = subst (λ n. Overwritten h n c place (as_seen host f) (as_seen host G)) (sym over.capacity) (seen_over (λ _. true));
    }

    module _ (well_now : IsWellFormedFile G) where
      held_over : (k : ℕ) → (own_in x (synced host G) k ≡ own_in x (synced host f) k)
          ⊎ ((sector_behind h c place A ≤ k) × (k < sector_behind h c place A + sectors_in bytes) × (own_in x (synced host G) k ≡ Some (sector_of bytes (k - sector_behind h c place A))))
      unfolding rewritten
      held_over k = written_held x h c place A (λ _. true) bytes (synced host f) (synced host G) (layer_after well_now) rewritten layer_before here in_cluster fits k

      -- a sector of the part that was held is held still
      still_held : (k : ℕ) → own_in x (synced host f) k ≡ Some (sector_in_part l.part k) → own_in x (synced host G) k ≡ Some (sector_in_part l.part k)
      still_held k was = by (held_over k)
        where
          by : (own_in x (synced host G) k ≡ own_in x (synced host f) k)
              ⊎ ((sector_behind h c place A ≤ k) × (k < sector_behind h c place A + sectors_in bytes) × (own_in x (synced host G) k ≡ Some (sector_of bytes (k - sector_behind h c place A))))
              → own_in x (synced host G) k ≡ Some (sector_in_part l.part k)
          by (inl same) = same ∙ was
          by (inr new) =
              let first : ℕ = sector_behind h c place A in
              let at : first + (k - first) ≡ k = omega (arith, new.0) in
              let lt : k - first < sectors_in bytes = omega (arith, new.0, new.1) in
              new.2 ∙ ap (λ (b : List ℕ). Some b) (piece.same (k - first) lt ∙ ap (sector_in_part l.part) at)

      -- and so is one of this piece
      now_held : (k i : ℕ) → k < sectors_of x → cluster_of h k ≡ c → i < sectors_in bytes → sector_at h place k ≡ A + i → sector_of bytes i ≡ sector_in_part l.part k
          → own_in x (synced host G) k ≡ Some (sector_in_part l.part k)
      now_held k i low in_c lt at is =
          let within = fits in
          let entry : entry_at (layer h (as_seen host G)) (cluster_of h k) ≡ Data place = ap (λ n. entry_at (layer h (as_seen host G)) n) in_c ∙ ((seen_over (λ _. true)).same.entries c ∙ here) in
          let there = (written_seen host A bytes f within).sectors i lt in
          let stands = in_file f.size (A + i) (seen host G) (omega (arith, within, lt)) in
          part_held l x h (synced host G) k place (layer_after well_now) low entry (ap (λ n. image.sector_in f.size (seen host G) n) at ∙ stands ∙ there ∙ is)

      -- the part is held in one cluster of data more
      pub holds_more : ((k : ℕ) → IsInPart l.part k → cluster_of h k ≡ c → (i : ℕ) × (i < sectors_in bytes) × (sector_at h place k ≡ A + i) × (sector_of bytes i ≡ sector_in_part l.part k))
          → HoldsPlaces p w l x index host f → HoldsPlaces p w l x (index + 1) host G
      holds_more met before j other k lt at in_c inside low = by (cases_lt j index)
        where
          by : (j < index) ⊎ (index ≤ j) → own_in x (synced host G) k ≡ Some (sector_in_part l.part k)
          by (inl earlier) = still_held k (before j other k earlier at in_c inside low)
          by (inr le) =
              let same : j ≡ index = omega (arith, le, lt) in
              let cluster : cluster_of h k ≡ c = in_c ∙ ap (λ n. first_of (span_of p) + n) same in
              let m = met k inside cluster in
              now_held k m.0 low cluster m.1 m.2 m.3
