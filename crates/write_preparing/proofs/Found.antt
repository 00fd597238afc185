-- What was found of a part's clusters, on the outcomes of the layer's file and as its host sees it.
use Rattle.std.proofs.Common.{◌≡◌, ◌⊎◌, ℕ, ◌+◌, ◌/◌, ◌<◌, ◌≤◌, false, List, refl, sym, ap, ◌∙◌, subst, inl, inr, arith, nat_lt}
use Rattle.std.specs.Prelude.{◌&&◌}
use Rattle.std.proofs.lemmas.Bool.{cases_lt}
use Rattle.std.proofs.lemmas.Bool.Decides.{nat_tests}
use Rattle.shared_disk.specs.Calls.{synced}
use Rattle.shared_disk.specs.Content.{File}
use Rattle.shared_disk.specs.Crash.{IsFileOutcome, IsSettled}
use Rattle.shared_disk.proofs.Outcomes.{settled_file, settled_itself, synced_file}
use Rattle.qcow_format.specs.declared.header.Header.{Header}
use Rattle.image_model.specs.File as image
use Rattle.image_model.specs.Layer.{entries, entry_at, has_table, l1_entry, names_table}
use Rattle.layer_laws.specs.Laws.{layer}
use Rattle.qcow_layer.specs.declared.layer.Layer.{Layer}
use Rattle.layer_writing.specs.Holding.{on_medium}
use Rattle.layer_writing.specs.Writer.{KnowsWriter, seen_tables}
use Rattle.layer_writing.proofs.Known.{settled_medium}
use Rattle.layer_writing.proofs.Sectors.{alone_synced}
use Rattle.layer_placing.specs.Knows.{ArePlaced}
use Rattle.volume_meta.specs.declared.record.VolumeRecord.{VolumeRecord}
use Rattle.chain_laws.specs.Laid.{Laying}
use Rattle.write_planning.specs.Plan.{looked_up, span_of}
use Rattle.write_planning.specs.Span.{count_of, first_of}
use Rattle.write_planning.specs.declared.plan.WritePlan.{WritePlan}
use Rattle.part_survey.specs.Survey.{HasFound}
use Rattle.place_writing.specs.Places.{IsOver}
use Rattle.place_writing.specs.declared.places.PlaceWriting.{PlaceWriting}
use Rattle.write_preparing.specs.Preparing.{IsFirst, IsFound, IsOf, KnowsPlaces, KnowsStage, WritesFirst}
use Rattle.write_preparing.specs.declared.placed.Placed.{Placed}
use Rattle.write_preparing.specs.declared.stage.Stage.{Stage}
use Rattle.write_preparing.specs.declared.stage.Stage.TheVariants.{Surveying, Asking, Clearing, Placing, InPlace}

-- L2 tables are there alike, where the L1 entries are the same
pub tables_alike : (h : Header) (f g : image.File) (k : ℕ) → ((i : ℕ) → i < h.l1_size → l1_entry (layer h g) i ≡ l1_entry (layer h f) i) → has_table (layer h g) k ≡ has_table (layer h f) k
tables_alike h f g k same = go (cases_lt (k / entries (layer h f)) h.l1_size)
  where
    go : (k / entries (layer h f) < h.l1_size) ⊎ (h.l1_size ≤ k / entries (layer h f)) → has_table (layer h g) k ≡ has_table (layer h f) k
    go (inl lt) = ap (λ r. nat_lt (k / entries (layer h f)) h.l1_size && names_table r) (same (k / entries (layer h f)) lt)
    go (inr le) = let none : nat_lt (k / entries (layer h f)) h.l1_size ≡ false = grind (arith, nat_tests) in rw none refl

-- what the layer says on the medium of a file with nothing unsynced
pub found_settled : (p : WritePlan) (w : Layer) (host : ℕ) (f : File) → IsSettled f → looked_up p ≡ count_of (span_of p) → HasFound p (layer w.work.header (on_medium f)) → IsFound p w host f
found_settled p w host f settled all has = record {
  width = has.width;
  all = all;
  each = λ j lt.
      let was = has.found j lt in (
        was.0,
        was.1,
        record {
          entry = λ o out. was.2.entry ∙ ap (λ (g : File). entry_at (layer w.work.header (on_medium g)) (first_of (span_of p) + j)) (sym (settled_file f o settled out));
          table = was.2.table ∙ ap (λ (g : image.File). has_table (layer w.work.header g) (first_of (span_of p) + j)) (sym (settled_medium host f settled));
        },
      );
}

-- what the host's sync makes of the file is an outcome of it
pub synced_outcome : (w : Layer) (host : ℕ) (f : File) → KnowsWriter w host f → IsFileOutcome f (synced host f)
synced_outcome w host f writer = synced_file host f (synced host f) (settled_itself (synced host f) (alone_synced host f writer.knows.alone))

pub found_seen : (p : WritePlan) (w : Layer) (host : ℕ) (f : File) → KnowsWriter w host f → IsFound p w host f → HasFound p (seen_tables w host f)
found_seen p w host f writer is = record {
  width = is.width;
  found = λ j lt. let was = is.each j lt in (was.0, was.1, record { entry = was.2.entry (synced host f) (synced_outcome w host f writer); table = was.2.table });
}

-- the part is written over data next
module _ (p : WritePlan) (clusters : List ℕ) (w : Layer) (l : Laying) (x : VolumeRecord) (host : ℕ) (f : File) (of : IsOf (span_of p) w l x) (found : IsFound p w host f) (are : ArePlaced w host f clusters) where
  over_is : IsOver p w l x host f
  over_is = record {
    says = of.says;
    cow = of.cow;
    capacity = of.capacity;
    at = of.at;
    length = of.length;
    writer = are.writer;
    all = found.all;
    found = found_seen p w host f are.writer found;
  }

  places_first : (placed : Placed) (s : PlaceWriting) → IsFirst p clusters placed s → KnowsPlaces placed s w l x host f
  places_first placed s first = record {
    same = first.begun.plan ∙ sym first.plan;
    places = record {
      over = subst (λ (q : WritePlan). IsOver q w l x host f) (sym first.begun.plan) over_is;
      holds = λ j place k lt. absurd (omega (arith, lt, first.begun.index));
    };
    placed = subst (λ (xs : List ℕ). ArePlaced w host f xs) (sym first.clusters_are) are;
  }

  pub first_known : (stage : Stage) → WritesFirst p clusters stage → KnowsStage stage w l x host f
  first_known (InPlace placed s) first = places_first placed s first
  first_known (Surveying s) first = absurd first
  first_known (Asking a) first = absurd first
  first_known (Clearing q c) first = absurd first
  first_known (Placing t) first = absurd first
