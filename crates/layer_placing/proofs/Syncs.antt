-- Syncs of the layer's file.
use Rattle.std.proofs.Common.{◌≡◌, ℕ, ◌+◌, ◌*◌, ◌/◌, List, Some, Ok, Err, sym, ap, ◌∙◌, subst}
use Rattle.sd_names.specs.declared.turn.Turn.TheVariants.{Ended, More}
use Rattle.shared_disk.specs.Calls.{IsPut, Syncs, synced}
use Rattle.shared_disk.specs.Content.{Content, File, seen}
use Rattle.shared_disk.specs.Crash.{IsAlone}
use Rattle.shared_disk.specs.Refusal.{refusal_of}
use Rattle.shared_disk.specs.declared.disk.DiskAnswer.{DiskAnswer}
use Rattle.image_model.specs.File as image
use Rattle.image_model.specs.Layer.{block_place, l1_entry}
use Rattle.layer_laws.specs.Laws as laws
use Rattle.qcow_layer.specs.declared.layer.Layer.{Layer}
use Rattle.qcow_layer.proofs.Pieces.{same_file}
use Rattle.qcow_layer.proofs.Knowing.{settled_seen}
use Rattle.qcow_format.specs.Bytes.{number}
use Rattle.layer_writing.specs.Holding.{IsSpare, as_seen}
use Rattle.layer_writing.specs.Writer.{KnowsWriter}
use Rattle.layer_writing.proofs.Known.{synced_comes, synced_knows, synced_seen}
use Rattle.layer_writing.proofs.Sectors.{alone_synced}
use Rattle.std.specs.Prelude.{slice_index, ◌^◌}
use Rattle.layer_placing.specs.Chosen.{listed}
use Rattle.layer_placing.specs.Stages.{current_of, entry_place_of}
use Rattle.layer_placing.specs.Knows.{EntersBlock, KnowsIn, IsChoice, LacksBlock, Ready, StepsIn, chosen_in, first_place, range_of, width_of}
use Rattle.layer_placing.specs.declared.stage.Stage.{Stage}
use Rattle.layer_placing.specs.declared.stage.Stage.TheVariants.{Counting, Entered, Settled, Zeroed}
use Rattle.layer_placing.specs.declared.stage.Work.{Work}
use Rattle.layer_placing.proofs.Ends.{failed_sync, stay_known, writer_left}

-- a step that synced, and goes on
pub syncs_on : (l : Layer) (host faults : ℕ) (stage next : Stage) (f : File) (d e : Content) → d.file l.target.place ≡ Some f → Syncs d host l.target.place (Ok tt) e
    → IsAlone host f → KnowsWriter l host (synced host f) → KnowsIn l host (synced host f) next → IsChoice l host f stage (chosen_in next) → StepsIn l l host faults stage (More next) f d e
syncs_on l host faults stage next f d e there call alone writer knows choice =
    let is : call.0 ≡ f = same_file d l.target.place f call.0 there call.1 in
    record {
      now = synced host f;
      put = subst (λ (x : File). IsPut d l.target.place (Some (synced host x)) e) is call.2;
      comes = synced_comes l.work.header l.target.capacity host f;
      after = (knows, choice);
      spare = stay_known l l host f (synced host f) writer (λ place is. subst (λ (x : image.File). IsSpare (laws.layer l.work.header x) l.target.capacity place) (sym (synced_seen host f alone)) is)
          (λ i lt. ap (λ (x : image.File). l1_entry (laws.layer l.work.header x) i) (synced_seen host f alone));
    }

pub ready_synced : (l : Layer) (host : ℕ) (f : File) (w : Work) → Ready l host f w → Ready l host (synced host f) w
ready_synced l host f w ready = record {
  writer = synced_knows l host f ready.writer;
  serves = record {
    inside = ready.serves.inside;
    low = ready.serves.low;
    counted = ready.serves.counted;
    rising = ready.serves.rising;
    spare = λ i low lt. subst (λ (x : image.File). IsSpare (laws.layer l.work.header x) l.target.capacity (slice_index (listed w.chosen) i * 2 ^ l.work.header.cluster_bits)) (sym same) (ready.serves.spare i low lt);
    taken = ready.serves.taken;
    left = ready.serves.left;
  };
}
  where
    same : as_seen host (synced host f) ≡ as_seen host f
    same = synced_seen host f ready.writer.knows.alone

pub lacks_synced : (l : Layer) (host n : ℕ) (f : File) (w : Work) (table : List ℕ) → LacksBlock l host f w table n → LacksBlock l host (synced host f) w table n
lacks_synced l host n f w table lacks = record {
  ready = ready_synced l host f w lacks.ready;
  none = ap (λ (x : image.File). block_place (laws.layer l.work.header x) (range_of l w)) (synced_seen host f lacks.ready.writer.knows.alone) ∙ lacks.none;
  entry = lacks.entry ∙ sym (ap (λ s. s (entry_place_of l (current_of w) / 512)) sees);
  written = λ i m lt low. ap (λ s. number 2 (m * 2) (s (first_place l w / 512 + i))) sees ∙ lacks.written i m lt low;
}
  where
    sees : seen host (synced host f) ≡ seen host f
    sees = settled_seen host (synced host f) (alone_synced host f lacks.ready.writer.knows.alone)

pub block_synced : (l : Layer) (host faults : ℕ) (w : Work) (table : List ℕ) (f : File) (d e : Content) → d.file l.target.place ≡ Some f → KnowsIn l host f (Zeroed w table) → Syncs d host l.target.place (Ok tt) e
    → StepsIn l l host faults (Zeroed w table) (More (Settled w table)) f d e
block_synced l host faults w table f d e there lacks call =
    syncs_on l host faults (Zeroed w table) (Settled w table) f d e there call lacks.ready.writer.knows.alone (synced_knows l host f lacks.ready.writer)
    (lacks_synced l host (width_of l / 512) f w table lacks, alone_synced host f lacks.ready.writer.knows.alone) tt

pub block_sync_fails : (l : Layer) (host faults : ℕ) (w : Work) (table : List ℕ) (f : File) (d e : Content) (a : DiskAnswer) → d.file l.target.place ≡ Some f → KnowsIn l host f (Zeroed w table)
    → Syncs d host l.target.place (Err a) e → StepsIn l l host faults (Zeroed w table) (Ended tt (refusal_of a faults)) f d e
block_sync_fails l host faults w table f d e a there lacks call = failed_sync l host faults (Zeroed w table) f d e there a call (writer_left l host f lacks.ready.writer)

pub entry_synced : (l : Layer) (host faults block : ℕ) (w : Work) (f : File) (d e : Content) → d.file l.target.place ≡ Some f → EntersBlock l host f w block → Syncs d host l.target.place (Ok tt) e
    → StepsIn l l host faults (Entered w block) (More (Counting w block)) f d e
entry_synced l host faults block w f d e there enters call = syncs_on l host faults (Entered w block) (Counting w block) f d e there call enters.alone enters.after.ready.writer enters.after tt

pub entry_sync_fails : (l : Layer) (host faults block : ℕ) (w : Work) (f : File) (d e : Content) (a : DiskAnswer) → d.file l.target.place ≡ Some f → EntersBlock l host f w block
    → Syncs d host l.target.place (Err a) e → StepsIn l l host faults (Entered w block) (Ended tt (refusal_of a faults)) f d e
entry_sync_fails l host faults block w f d e a there enters call =
    failed_sync l host faults (Entered w block) f d e there a call (record { alone = enters.alone; made = enters.made; sound = enters.sound })
