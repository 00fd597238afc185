-- What a step of the look-up leaves, and one that asks for room.
use Rattle.std.proofs.Common.{◌≡◌, ℕ, Some, Ok, Err, refl, sym, ap, ◌∙◌, subst, inl, inr, arith}
use Rattle.sd_names.specs.declared.refusal.Refusal.{Refusal}
use Rattle.sd_names.specs.declared.refusal.Refusal.TheVariants.{DiskFault}
use Rattle.sd_names.specs.declared.turn.Turn.TheVariants.{More, Done, Ended}
use Rattle.shared_disk.specs.Calls.{HasLength, IsSame}
use Rattle.shared_disk.specs.Content.{Content, File, seen}
use Rattle.shared_disk.specs.Refusal.{IsRisen, refusal_of}
use Rattle.shared_disk.specs.declared.disk.DiskAnswer.{DiskAnswer}
use Rattle.shared_disk.specs.declared.disk.DiskAnswer.TheVariants.{NoFile, Exists, OutOfFile, NotEmpty, Failed}
use Rattle.shared_disk.proofs.AtPlace.{no_file}
use Rattle.volume_meta.specs.declared.record.VolumeRecord.{VolumeRecord}
use Rattle.image_model.specs.Room.{room_of}
use Rattle.qcow_layer.specs.Looking.{IsFault}
use Rattle.qcow_layer.specs.Seen.{IsSeen}
use Rattle.qcow_layer.specs.declared.layer.Layer.{Layer}
use Rattle.qcow_layer.proofs.Knowing.{in_file}
use Rattle.layer_writing.specs.Holding.{as_seen, on_medium}
use Rattle.layer_writing.specs.Writer.{seen_tables}
use Rattle.layer_heading.specs.Clearing as heading
use Rattle.layer_heading.specs.Clearing.{KnowsClearing}
use Rattle.layer_heading.specs.declared.clearing.Clearing as headings
use Rattle.layer_heading.specs.declared.clearing_stage.ClearingStage.{ClearingStage}
use Rattle.layer_heading.specs.declared.clearing_stage.ClearingStage.TheVariants.{Begun}
use Rattle.layer_placing.specs.Chosen.{Chooses, IsShort}
use Rattle.layer_placing.specs.declared.clusters.Clusters.{Clusters}
use Rattle.layer_placing.proofs.Ends.{same_put}
use Rattle.layer_placing.proofs.Starts.{same_long}
use Rattle.chain_laws.specs.Laid.{Laying}
use Rattle.part_laws.proofs.Held.{alike_written}
use Rattle.write_planning.specs.Plan.{Tells, looked_up, span_of, wanted_of}
use Rattle.write_planning.specs.Span.{count_of}
use Rattle.write_planning.specs.declared.plan.WritePlan.{WritePlan}
use Rattle.write_planning.specs.declared.span.Span.{Span}
use Rattle.write_planning.proofs.Needs.{wants_need}
use Rattle.part_survey.specs.Survey.{HasFound, Surveys}
use Rattle.part_survey.specs.declared.survey.Survey.{Survey}
use Rattle.clearing_laws.specs.Either.{IsFoundOnEach}
use Rattle.clearing_laws.proofs.Cleared.{begins}
use Rattle.place_writing.proofs.Written.{found_same}
use Rattle.write_preparing.specs.Preparing.{AsksNext, IsOf, KnowsAsking, KnowsClearingOf, KnowsStage, KnowsSurveying, MayEnd, Prepares}
use Rattle.write_preparing.specs.declared.stage.Stage.{Stage}
use Rattle.write_preparing.specs.declared.stage.Stage.TheVariants.{Surveying, Asking, Clearing, Placing, InPlace}
use Rattle.write_preparing.specs.declared.stage.Wanting.{Wanting}
use Rattle.write_preparing.proofs.Room.{seen_size}

-- a fault of the disk has the count after it
pub fault_is : (before after : ℕ) (refusal : Refusal) → IsFault refusal → IsRisen before after refusal → refusal ≡ DiskFault after
fault_is before after (DiskFault n) fault risen = ap (λ m. DiskFault m) risen.1
fault_is before after refusal fault risen = absurd fault

-- the same part of a layer
pub of_span : (s t : Span) (w : Layer) (l : Laying) (x : VolumeRecord) → t ≡ s → IsOf s w l x → IsOf t w l x
of_span s t w l x same of = subst (λ (u : Span). IsOf u w l x) (sym same) of

module _ (stage : Stage) (w : Layer) (l : Laying) (x : VolumeRecord) (host faults : ℕ) (f : File) (d e : Content) (there : d.file w.target.place ≡ Some f) (same : IsSame d e) (says : l.records l.volume ≡ Some x) where
  -- a step that changes nothing, and goes on or is refused
  pub goes_on : (next : Stage) → KnowsStage next w l x host f → Prepares stage w w l x host faults (More next) f d e
  goes_on next knows = record {
    now = f;
    put = same_put d e w.target.place f same there;
    early = λ is. same;
    written = alike_written l x f f says (λ o out. (o, out, λ j. refl));
    after = knows;
  }

  pub refused : (refusal : Refusal) → MayEnd stage w w host faults refusal f d e → Prepares stage w w l x host faults (Ended tt refusal) f d e
  refused refusal may = record {
    now = f;
    put = same_put d e w.target.place f same there;
    early = λ is. same;
    written = alike_written l x f f says (λ o out. (o, out, λ j. refl));
    after = may;
  }

-- ---- a look-up

module _ (s : Survey) (w : Layer) (l : Laying) (x : VolumeRecord) (host faults : ℕ) (f : File) (d e : Content) (there : d.file w.target.place ≡ Some f) (k : KnowsSurveying s w l x host f) where
  seen_is : IsSeen host w.target.place f.size (seen host f) d
  seen_is = record {
    file = f;
    there = there;
    long = omega arith;
    alone = k.quiet.writer.knows.alone.loose;
    same = λ j lt. sym (in_file f.size j (seen host f) lt);
  }

  pub surveys_more : (next : Survey) → span_of next.plan ≡ span_of s.plan → Surveys s w host (More next) d e → Prepares (Surveying s) w w l x host faults (More (Surveying next)) f d e
  surveys_more next span call =
      goes_on (Surveying s) w l x host faults f d e there call.same k.of.says (Surveying next)
      (record {
        of = of_span (span_of s.plan) (span_of next.plan) w l x span k.of;
        quiet = k.quiet;
        looks = call.after f.size (seen host f) seen_is k.quiet.writer.knows.fits k.quiet.writer.knows.numbers k.looks;
      })

  -- what was found is so on each outcome
  found_each : (p : WritePlan) → HasFound p (seen_tables w host f) → IsFoundOnEach p w.work.header f
  found_each p found o out = found_same p w.work.header w.target.capacity (as_seen host f) (on_medium o) (k.quiet.writer.each o out).same found

  begun_knows : (c : headings.Clearing) → c.stage ≡ Begun → KnowsClearing w host c f
  begun_knows c begun = subst (λ (st : ClearingStage). heading.KnowsStage w host st f) (sym begun) k.quiet

  clearing_begun : (p : WritePlan) (c : headings.Clearing) → span_of p ≡ span_of s.plan → looked_up p ≡ count_of (span_of p) → HasFound p (seen_tables w host f) → c.stage ≡ Begun → wanted_of p ≡ 0
      → KnowsClearingOf p c w l x host f
  clearing_begun p c span all found begun none = record {
    of = of_span (span_of s.plan) (span_of p) w l x span k.of;
    all = all;
    room = λ some. absurd (omega (arith, some, none));
    knows = begun_knows c begun;
    well = k.quiet.formed;
    either = begins x w host f k.quiet.writer k.quiet.formed k.of.cow k.of.capacity;
    found = found_each p found;
  }

  done_stage : (p : WritePlan) (stage : Stage) → span_of p ≡ span_of s.plan → looked_up p ≡ count_of (span_of p) → HasFound p (seen_tables w host f) → Tells p (room_of (seen_tables w host f)) → AsksNext p stage
      → KnowsStage stage w l x host f
  done_stage p (Asking a) span all found tells is =
      subst (λ (q : WritePlan). KnowsAsking q w l x host f) (sym is)
      (record { of = of_span (span_of s.plan) (span_of p) w l x span k.of; quiet = k.quiet; all = all; found = found; tells = tells })
  done_stage p (Clearing q c) span all found tells is = subst (λ (r : WritePlan). KnowsClearingOf r c w l x host f) (sym is.0) (clearing_begun p c span all found is.1 is.2)
  done_stage p (Surveying t) span all found tells is = absurd is
  done_stage p (Placing t) span all found tells is = absurd is
  done_stage p (InPlace t u) span all found tells is = absurd is

  pub surveys_done : (p : WritePlan) (stage : Stage) → span_of p ≡ span_of s.plan → looked_up p ≡ count_of (span_of s.plan) → AsksNext p stage → Surveys s w host (Done p) d e
      → Prepares (Surveying s) w w l x host faults (More stage) f d e
  surveys_done p stage span all is call =
      let told = call.after f.size (seen host f) seen_is k.quiet.writer.knows.fits k.quiet.writer.knows.numbers k.looks in
      goes_on (Surveying s) w l x host faults f d e there call.same k.of.says stage (done_stage p stage span (all ∙ ap (λ (t : Span). count_of t) (sym span)) told.0 told.1 is)

  pub surveys_ended : (before : ℕ) (refusal : Refusal) → IsRisen before faults refusal → Surveys s w host (Ended tt refusal) d e → Prepares (Surveying s) w w l x host faults (Ended tt refusal) f d e
  surveys_ended before refusal risen call =
      refused (Surveying s) w l x host faults f d e there call.same k.of.says refusal
      (fault_is before faults refusal (call.after f.size (seen host f) seen_is k.quiet.writer.knows.fits k.quiet.writer.knows.numbers k.looks) risen)

-- ---- the asking

module _ (a : Wanting) (w : Layer) (l : Laying) (x : VolumeRecord) (host faults : ℕ) (f : File) (d e : Content) (there : d.file w.target.place ≡ Some f) (k : KnowsAsking a.plan w l x host f) where
  abbrev p : WritePlan
  p = a.plan

  pub room_found : (bytes : ℕ) (chosen : Clusters) (c : headings.Clearing) → HasLength d w.target.place (Ok bytes) e → Chooses w (wanted_of p) bytes (Ok chosen) → c.stage ≡ Begun
      → Prepares (Asking a) w w l x host faults (More (Clearing p c)) f d e
  room_found bytes chosen c call chooses begun =
      let long = same_long d e w bytes f there call in
      goes_on (Asking a) w l x host faults f d e there call.0 k.of.says (Clearing p c)
      (record {
        of = k.of;
        all = k.all;
        room = λ some. record { chosen = chosen.numbers.items; least = λ file size. chooses.0 file (size ∙ sym long); all = chooses.1 };
        knows = subst (λ (st : ClearingStage). heading.KnowsStage w host st f) (sym begun) k.quiet;
        well = k.quiet.formed;
        either = begins x w host f k.quiet.writer k.quiet.formed k.of.cow k.of.capacity;
        found = λ o out. found_same p w.work.header w.target.capacity (as_seen host f) (on_medium o) (k.quiet.writer.each o out).same k.found;
      })

  pub room_lacks : (bytes : ℕ) (refusal : Refusal) → HasLength d w.target.place (Ok bytes) e → Chooses w (wanted_of p) bytes (Err refusal) → Prepares (Asking a) w w l x host faults (Ended tt refusal) f d e
  room_lacks bytes refusal call chooses =
      let long = same_long d e w bytes f there call in
      let short = chooses.3 (as_seen host f) (seen_size host f ∙ sym long) k.quiet.writer.knows.numbers.used in
      refused (Asking a) w l x host faults f d e there call.0 k.of.says refusal
      (inr (record {
        same = call.0;
        layer = refl;
        room = chooses.0;
        wanted = chooses.1;
        says = chooses.2;
        short = subst (λ n. IsShort w (room_of (seen_tables w host f)) n chooses.0 chooses.1) (wants_need p (room_of (seen_tables w host f)) k.tells) short;
      }))

  pub asking_failed : (answer : DiskAnswer) → HasLength d w.target.place (Err answer) e → Prepares (Asking a) w w l x host faults (Ended tt (refusal_of answer faults)) f d e
  asking_failed Failed call = refused (Asking a) w l x host faults f d e there call k.of.says (DiskFault faults) (inl refl)
  asking_failed NoFile call = absurd (no_file f (d.file w.target.place) call.1 there)
  asking_failed Exists call = absurd call
  asking_failed OutOfFile call = absurd call
  asking_failed NotEmpty call = absurd call
