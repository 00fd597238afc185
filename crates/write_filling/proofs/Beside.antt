-- What is known of a layer's file stays known while sectors of a new cluster's place are written, wholly or in part.
use Rattle.std.proofs.Common.{◌≡◌, ◌≢◌, ◌⊎◌, inl, inr, ℕ, ◌+◌, ◌*◌, ◌/◌, ◌%◌, ◌^◌, ◌<◌, ◌≤◌, Bool, nat_lt, replicate, List, Option, refl, sym, ap, ◌∙◌, subst, arith}
use Rattle.std.specs.Prelude.{if◌then◌else◌, slice_index}
use Rattle.std.proofs.lemmas.Nat.{mod_below, pow_pos}
use Rattle.shared_disk.specs.Calls.{sectors_in, synced, wrote}
use Rattle.shared_disk.specs.Content.{File, seen}
use Rattle.shared_disk.specs.WellFormed.{IsWellFormedFile}
use Rattle.shared_disk.proofs.Outcomes.{settled_itself, synced_file}
use Rattle.shared_disk.proofs.WellFormed.{outcome_file_keeps}
use Rattle.qcow_format.specs.declared.header.Header.{Header}
use Rattle.volume_meta.specs.declared.record.VolumeRecord.{VolumeRecord}
use Rattle.image_model.specs.File as image
use Rattle.image_model.specs.File.{sector_in}
use Rattle.image_model.specs.Soundness.{layer_header}
use Rattle.layer_laws.specs.Laws.{SameContent}
use Rattle.link_laws.proofs.Rows.{other_cluster}
use Rattle.qcow_layer.specs.declared.layer.Layer.{Layer}
use Rattle.layer_writing.specs.Holding.{ComesBy, HoldSame, IsInCluster, as_seen}
use Rattle.layer_writing.specs.Writer.{KnowsWriter}
use Rattle.layer_writing.proofs.Known.{spare_stays, unnamed_on_each}
use Rattle.layer_writing.proofs.OfLayers.{kept_comes, kept_knows, kept_same, unnamed_comes, unnamed_knows, unnamed_same}
use Rattle.layer_writing.proofs.Sectors.{alone_synced}
use Rattle.layer_placing.specs.Knows.{ArePlaced}
use Rattle.chain_model.specs.Own.{own_in}
use Rattle.own_laws.specs.Sectors.{IsLayerOf, offset_of, sector_at}
use Rattle.own_laws.proofs.Bytes.{bytes_hold}
use Rattle.chain_laws.specs.Laid.{Laying}
use Rattle.chain_laws.specs.Written.{FileWritten}
use Rattle.part_laws.proofs.Files.{known_layers}
use Rattle.part_laws.proofs.Held.{same_written}
use Rattle.cluster_filling.proofs.Steps.{seen_beside}
use Rattle.write_planning.specs.Plan.{span_of}
use Rattle.write_planning.specs.Span.{count_of}
use Rattle.place_writing.specs.Places.{IsOver}
use Rattle.place_writing.proofs.Written.{found_same}
use Rattle.write_preparing.specs.Filled.{AreFilled, StandsWhole}
use Rattle.write_preparing.specs.Preparing.{IsPrepared}
use Rattle.write_preparing.specs.declared.placed.Placed.{Placed}
use Rattle.write_filling.proofs.Places.{IsGiven, IsKeptAt, IsTaken, given, place_even, places_apart, width_even}

-- the volume's layer, once the host has synced the file
pub layer_synced : (p : Placed) (w : Layer) (l : Laying) (x : VolumeRecord) (host : ℕ) (f : File) → IsOver p.plan w l x host f → IsWellFormedFile f → IsLayerOf x w.work.header (synced host f)
layer_synced p w l x host f over well = record {
  cow = over.cow;
  header = ap (λ n. layer_header (as_seen host f) n) over.capacity ∙ over.writer.knows.numbers.header;
  well = outcome_file_keeps f (synced host f) well (synced_file host f (synced host f) (settled_itself (synced host f) (alone_synced host f over.writer.knows.alone)));
}

-- a sector of the virtual disk stands in the cluster at its cluster's place
inside_cluster : (place off c w : ℕ) → w ≡ 512 * c → place % 512 ≡ 0 → off < w → (place / 512 ≤ (place + off) / 512) × ((place + off) / 512 < (place + w) / 512)
inside_cluster place off c w size even lt = (omega arith, omega (arith, size, even, lt))

module _ (p : Placed) (w : Layer) (l : Laying) (x : VolumeRecord) (host : ℕ) (f : File) (prepared : IsPrepared p w l x host f) (well : IsWellFormedFile f)
    (i place : ℕ) (in_plan : i < count_of (span_of p.plan)) (here : IsGiven p w l x host f prepared i place) (did : ℕ → Bool) (A : ℕ) (bytes : List ℕ) (in_cluster : IsInCluster (2 ^ w.work.header.cluster_bits) place A bytes) where
  abbrev h : Header
  h = w.work.header

  abbrev cap : ℕ
  cap = w.target.capacity

  abbrev W : ℕ
  W = 2 ^ h.cluster_bits

  abbrev xs : List ℕ
  xs = p.clusters.numbers.items

  abbrev g : File
  g = wrote did host A bytes f

  abbrev writer : KnowsWriter w host f
  writer = prepared.over.writer

  pub writer_now : KnowsWriter w host g
  writer_now = go here.by
    where
      go : IsTaken p w l x host f prepared i place ⊎ IsKeptAt p w l x host f prepared i place → KnowsWriter w host g
      go (inl taken) = unnamed_knows w did host A place bytes f well writer in_cluster taken.unnamed
      go (inr kept) = kept_knows w did host A _ place bytes f well writer in_cluster kept.entry kept.some

  pub comes_now : ComesBy (HoldSame h cap) f g
  comes_now = go here.by
    where
      go : IsTaken p w l x host f prepared i place ⊎ IsKeptAt p w l x host f prepared i place → ComesBy (HoldSame h cap) f g
      go (inl taken) = unnamed_comes w did host A place bytes f well writer in_cluster taken.unnamed
      go (inr kept) = kept_comes w did host A _ place bytes f well writer in_cluster kept.entry kept.some

  pub content_same : SameContent h cap (as_seen host f) (as_seen host g)
  content_same = go here.by
    where
      go : IsTaken p w l x host f prepared i place ⊎ IsKeptAt p w l x host f prepared i place → SameContent h cap (as_seen host f) (as_seen host g)
      go (inl taken) = unnamed_same w did host A place bytes f well writer in_cluster taken.unnamed
      go (inr kept) = kept_same w did host A _ place bytes f well writer in_cluster kept.entry kept.some

  over_now : IsOver p.plan w l x host g
  over_now = record {
    says = prepared.over.says;
    cow = prepared.over.cow;
    capacity = prepared.over.capacity;
    at = prepared.over.at;
    length = prepared.over.length;
    writer = writer_now;
    all = prepared.over.all;
    found = found_same p.plan h cap (as_seen host f) (as_seen host g) content_same.same prepared.over.found;
  }

  as_long : (as_seen host g).size ≡ (as_seen host f).size
  unfolding image.file_of
  as_long = refl

  placed_now : ArePlaced w host g xs
  placed_now = record {
    writer = writer_now;
    spare = λ m lt. spare_stays h cap (slice_index xs m * W) (as_seen host f) (as_seen host g) content_same as_long (prepared.placed.spare m lt);
    unnamed = λ m lt. unnamed_on_each w host (slice_index xs m * W) g writer_now (spare_stays h cap (slice_index xs m * W) (as_seen host f) (as_seen host g) content_same as_long (prepared.placed.spare m lt)).unnamed;
    taken = prepared.placed.taken;
    rising = prepared.placed.rising;
    low = prepared.placed.low;
  }

  module _ (well_now : IsWellFormedFile g) where
    -- the volume holds what it held
    held_now : (k : ℕ) → own_in x (synced host g) k ≡ own_in x (synced host f) k
    held_now k = bytes_hold x h h (synced host f) (synced host g) k (layer_synced p w l x host f prepared.over well) (layer_synced p w l x host g over_now well_now) (λ b at. content_same.bytes b)

    pub prepared_now : IsPrepared p w l x host g
    prepared_now = record {
      over = over_now;
      holds = λ j q k lt at in_c inside low. held_now k ∙ prepared.holds j q k lt at in_c inside low;
      placed = placed_now;
    }

    pub written_now : FileWritten l f g
    written_now = same_written l x h f g prepared.over.says
        (known_layers x w host f writer well prepared.over.cow prepared.over.capacity)
        (known_layers x w host g writer_now well_now prepared.over.cow prepared.over.capacity)
        (subst (λ n. ComesBy (HoldSame h n) f g) (sym prepared.over.capacity) comes_now)

    -- what stands at another cluster's place is seen as before
    beside_same : (q k : ℕ) → q % W ≡ 0 → q % 512 ≡ 0 → q ≢ place → seen host g (sector_at h q k) ≡ seen host f (sector_at h q k)
    beside_same q k begins even apart =
        let size = width_even p w l x host f prepared in
        let stands = inside_cluster q (offset_of h k) (W / 512) W size even (mod_below (512 * k) W (pow_pos h.cluster_bits)) in
        seen_beside did host A (sector_at h q k) bytes f
        (side (place_even p w l x host f prepared i place here) (other_cluster q place W (W / 512) (sector_at h q k) size begins here.begins apart stands.0 stands.1))
      where
        side : place % 512 ≡ 0 → (sector_at h q k < place / 512) ⊎ ((place + W) / 512 ≤ sector_at h q k) → (sector_at h q k < A) ⊎ (A + sectors_in bytes ≤ sector_at h q k)
        side even (inl before) = let low = in_cluster.low in inl (omega (arith, before, low))
        side even (inr behind) = let high = in_cluster.high in inr (omega (arith, behind, high))

    -- so clusters that were written whole stay so
    pub filled_now : (count : ℕ) → count ≤ i → AreFilled p count w l x host f → AreFilled p count w l x host g
    filled_now count few filled j q k lt at in_c low =
        let in_plan' : j < count_of (span_of p.plan) = omega (arith, lt, few, in_plan) in
        let other = given p w l x host f prepared j q in_plan' at in
        let apart = places_apart p w l x host f prepared j i q place in_plan' in_plan (λ same. omega (arith, same, lt, few)) other here in
        let sector = ap (λ (b : List ℕ). if nat_lt (sector_at h q k) f.size then b else replicate 512 0) (beside_same q k other.begins (place_even p w l x host f prepared j q other) apart) in
        subst (λ (o : Option (List ℕ)). StandsWhole l k o (sector_in f.size (seen host g) (sector_at h q k))) (sym (held_now k))
        (subst (λ (b : List ℕ). StandsWhole l k (own_in x (synced host f) k) b) (sym sector) (filled j q k lt at in_c low))
