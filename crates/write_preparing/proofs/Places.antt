-- What a step of the writing over data leaves.
use Rattle.std.proofs.Common.{◌≡◌, ℕ, ◌*◌, ◌/◌, ◌^◌, ◌<◌, List, length, sym, ap, ◌∙◌, subst, arith}
use Rattle.std.specs.Prelude.{slice_index}
use Rattle.sd_names.specs.declared.refusal.Refusal.{Refusal}
use Rattle.sd_names.specs.declared.turn.Turn.TheVariants.{More, Done, Ended}
use Rattle.shared_disk.specs.Content.{Content, File}
use Rattle.qcow_format.specs.declared.header.Header.{Header}
use Rattle.image_model.specs.File as image
use Rattle.image_model.specs.Layer.{count_of as count_in}
use Rattle.volume_meta.specs.declared.record.VolumeRecord.{VolumeRecord}
use Rattle.layer_laws.specs.Laws.{SameLayer, layer}
use Rattle.qcow_layer.specs.declared.layer.Layer.{Layer}
use Rattle.layer_writing.specs.Holding.{IsSpare, as_seen}
use Rattle.layer_writing.specs.Writer.{KnowsWriter}
use Rattle.layer_writing.proofs.Known.{unnamed_on_each}
use Rattle.layer_placing.specs.Knows.{ArePlaced}
use Rattle.chain_laws.specs.Laid.{Laying}
use Rattle.write_planning.specs.Plan.{span_of}
use Rattle.write_planning.specs.Span.{count_of}
use Rattle.write_planning.specs.declared.plan.WritePlan.{WritePlan}
use Rattle.place_writing.specs.Places as places
use Rattle.place_writing.specs.Places.{HoldsPlaces, IsOver}
use Rattle.place_writing.specs.declared.places.PlaceWriting.{PlaceWriting}
use Rattle.write_preparing.specs.Placed.{clusters_of}
use Rattle.write_preparing.specs.Preparing.{KnowsPlaces, Prepares}
use Rattle.write_preparing.specs.declared.placed.Placed.{Placed}
use Rattle.write_preparing.specs.declared.stage.Stage.TheVariants.{InPlace}
use Rattle.write_preparing.proofs.Room.{seen_size}

-- a place stays spare where names and counts stay, whatever becomes of the bytes of data
pub spare_beside : (h : Header) (capacity place : ℕ) (f g : image.File) → SameLayer h capacity f g → ((c : ℕ) → count_in (layer h g) c ≡ count_in (layer h f) c) → g.size ≡ f.size → IsSpare (layer h f) capacity place
    → IsSpare (layer h g) capacity place
spare_beside h capacity place f g same counts size spare = record {
  begins = spare.begins;
  inside = let in_f = spare.inside in omega (arith, in_f, size);
  counted = subst (λ n. 0 < n) (sym (counts (place / 2 ^ h.cluster_bits))) spare.counted;
  unnamed = λ m named. spare.unnamed m (sym (same.named m) ∙ named);
}

-- so clusters that were placed stay so
pub still_placed : (w : Layer) (host : ℕ) (f now : File) (xs : List ℕ) → KnowsWriter w host now → SameLayer w.work.header w.target.capacity (as_seen host f) (as_seen host now)
    → ((c : ℕ) → count_in (layer w.work.header (as_seen host now)) c ≡ count_in (layer w.work.header (as_seen host f)) c) → now.size ≡ f.size → ArePlaced w host f xs → ArePlaced w host now xs
still_placed w host f now xs writer same counts size are = record {
  writer = writer;
  spare = spare;
  unnamed = λ i lt. unnamed_on_each w host (slice_index xs i * 2 ^ w.work.header.cluster_bits) now writer (spare i lt).unnamed;
  taken = are.taken;
  rising = are.rising;
  low = are.low;
}
  where
    long : (as_seen host now).size ≡ (as_seen host f).size
    long = seen_size host now ∙ ap (λ n. 512 * n) size ∙ sym (seen_size host f)

    spare : (i : ℕ) → i < length xs → IsSpare (layer w.work.header (as_seen host now)) w.target.capacity (slice_index xs i * 2 ^ w.work.header.cluster_bits)
    spare i lt = spare_beside w.work.header w.target.capacity (slice_index xs i * 2 ^ w.work.header.cluster_bits) (as_seen host f) (as_seen host now) same counts long (are.spare i lt)

module _ (placed : Placed) (s : PlaceWriting) (w : Layer) (l : Laying) (x : VolumeRecord) (host faults : ℕ) (f : File) (d e : Content) (k : KnowsPlaces placed s w l x host f) where
  pub writes_more : (next : PlaceWriting) → places.plan_of next ≡ places.plan_of s → places.Places s w l x host faults (More next) f d e → Prepares (InPlace placed s) w w l x host faults (More (InPlace placed next)) f d e
  writes_more next same call = record {
    now = call.now;
    put = call.put;
    early = λ is. absurd is;
    written = call.written;
    after = record { same = same ∙ k.same; places = call.after; placed = still_placed w host f call.now (clusters_of placed) call.over.writer call.same call.counts call.size k.placed };
  }

  pub writes_done : places.Places s w l x host faults (Done tt) f d e → Prepares (InPlace placed s) w w l x host faults (Done placed) f d e
  writes_done call = record {
    now = call.now;
    put = call.put;
    early = λ is. absurd is;
    written = call.written;
    after = record {
      over = subst (λ (q : WritePlan). IsOver q w l x host call.now) k.same call.over;
      holds = subst (λ (q : WritePlan). HoldsPlaces q w l x (count_of (span_of q)) host call.now) k.same call.after;
      placed = still_placed w host f call.now (clusters_of placed) call.over.writer call.same call.counts call.size k.placed;
    };
  }

  pub writes_ended : (refusal : Refusal) → places.Places s w l x host faults (Ended tt refusal) f d e → Prepares (InPlace placed s) w w l x host faults (Ended tt refusal) f d e
  writes_ended refusal call = record { now = call.now; put = call.put; early = λ is. absurd is; written = call.written; after = call.after }
