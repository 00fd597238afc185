-- What a step leaves by which the header loses its features.
use Rattle.std.proofs.Common.{◌≡◌, ℕ, ◌<◌, ◌≤◌, Some, sym, ap, ◌∙◌, subst, arith}
use Rattle.std.specs.Prelude.{[]}
use Rattle.sd_names.specs.declared.refusal.Refusal.{Refusal}
use Rattle.sd_names.specs.declared.turn.Turn.TheVariants.{More, Done, Ended}
use Rattle.shared_disk.specs.Calls.{IsPut}
use Rattle.shared_disk.specs.Content.{Content, File}
use Rattle.shared_disk.specs.Crash.{IsSettled}
use Rattle.shared_disk.specs.WellFormed.{IsWellFormed, IsWellFormedFile}
use Rattle.qcow_format.specs.declared.header.Header.{Header}
use Rattle.volume_meta.specs.declared.record.VolumeRecord.{VolumeRecord}
use Rattle.layer_laws.specs.Laws.{layer}
use Rattle.qcow_layer.specs.Mapping.{IsWithHeader}
use Rattle.qcow_layer.specs.Opening.{parent_kept}
use Rattle.qcow_layer.specs.declared.layer.Layer.{Layer}
use Rattle.qcow_layer.specs.declared.stages.Target.{Target}
use Rattle.layer_writing.specs.Holding.{ComesBy, on_medium}
use Rattle.layer_writing.specs.Writer.{KnowsWriter}
use Rattle.layer_heading.specs.Cleared.{IsOldOrCleared, cleared}
use Rattle.layer_heading.specs.Clearing.{KnowsClearing, KnowsStage as KnowsHeading, StageClears}
use Rattle.layer_heading.specs.Writing.{Leaves, Turned}
use Rattle.layer_heading.specs.declared.clearing.Clearing as headings
use Rattle.layer_heading.specs.declared.clearing_stage.ClearingStage.{ClearingStage}
use Rattle.layer_placing.specs.Knows as knows
use Rattle.layer_placing.specs.Knows.{ArePlaced}
use Rattle.layer_placing.specs.declared.stage.Asked.{Asked}
use Rattle.layer_placing.specs.declared.stage.Stage as placing
use Rattle.layer_placing.specs.declared.stage.Stage.TheVariants.{Begun}
use Rattle.chain_laws.specs.Laid.{Laying}
use Rattle.chain_laws.specs.Written.{FileWritten}
use Rattle.part_laws.proofs.Files.{known_layers}
use Rattle.write_planning.specs.Plan.{span_of, wanted_of}
use Rattle.write_planning.specs.declared.plan.WritePlan.{WritePlan}
use Rattle.part_survey.specs.Survey.{HasFound}
use Rattle.clearing_laws.specs.Either.{AreEither, IsFoundOnEach}
use Rattle.clearing_laws.proofs.Cleared.{find_cleared, found_still, still, written}
use Rattle.shared_disk.proofs.Outcomes.{settled_itself}
use Rattle.write_preparing.specs.Preparing.{HasRoom, IsFound, IsOf, KnowsClearingOf, KnowsStage, KnowsTaking, Prepares, TakesNext}
use Rattle.write_preparing.specs.declared.stage.Stage.{Stage}
use Rattle.write_preparing.specs.declared.stage.Stage.TheVariants.{Surveying, Asking, Clearing, Placing, InPlace}
use Rattle.write_preparing.specs.declared.stage.Taking.{Taking}
use Rattle.write_preparing.proofs.Found.{first_known, found_settled}
use Rattle.write_preparing.proofs.Room.{room_stays}

module _ (p : WritePlan) (c : headings.Clearing) (w next : Layer) (l : Laying) (x : VolumeRecord) (host faults : ℕ) (f : File) (d e : Content) (there : d.file w.target.place ≡ Some f) (k : KnowsClearingOf p c w l x host f)
    (formed : IsWellFormed e) (turn : Turned ClearingStage) (call : StageClears c.stage w next host faults turn d e) where
  abbrev h : Header
  h = w.work.header

  left : (g : File) × (e.file w.target.place ≡ Some g) × Leaves (IsOldOrCleared h w.target.capacity) (KnowsHeading w host) w next host faults turn f g
  left = call.here f there k.knows

  pub g : File
  g = left.0

  pub is_left : Leaves (IsOldOrCleared h w.target.capacity) (KnowsHeading w host) w next host faults turn f g
  unfolding g
  is_left = left.2

  well : IsWellFormedFile g
  unfolding g
  well = formed.files w.target.place g left.1

  comes : ComesBy (IsOldOrCleared h x.capacity) f g
  comes = subst (λ n. ComesBy (IsOldOrCleared h n) f g) (sym k.of.capacity) is_left.comes

  either : AreEither x h g
  either = still x h f g k.either well comes

  found : IsFoundOnEach p h g
  found = found_still p x h f g k.either k.found comes

  pub put : IsPut d w.target.place (Some g) e
  unfolding g
  put = record { dirs = call.dirs; here = left.1; others = call.others }

  pub written_now : FileWritten l f g
  written_now = written l x h f g k.of.says k.either either comes

  -- it goes on with the same layer
  pub still_clearing : (c' : headings.Clearing) → KnowsClearing w host c' g → KnowsClearingOf p c' w l x host g
  still_clearing c' knows = record {
    of = k.of;
    all = k.all;
    room = λ some. subst (λ n. HasRoom w n (wanted_of p)) (sym is_left.size) (k.room some);
    knows = knows;
    well = well;
    either = either;
    found = found;
  }

  -- the layer has the header that has lost its features
  module _ (with : IsWithHeader w (cleared h) (parent_kept w) next) (writer : KnowsWriter next host g) (settled : IsSettled g) where
    of_next : IsOf (span_of p) next l x
    of_next = record {
      says = k.of.says;
      cow = k.of.cow;
      capacity = k.of.capacity ∙ sym (ap (λ (t : Target). t.capacity) with.target);
      at = k.of.at;
      length = k.of.length;
    }

    found_next : IsFound p next host g
    found_next =
        found_settled p next host g settled k.all
        (subst (λ (a : Header). HasFound p (layer a (on_medium g))) (sym with.header_is) (find_cleared p h (on_medium g) (found g (settled_itself g settled))))

    none_placed : ArePlaced next host g []
    none_placed = record {
      writer = writer;
      spare = λ i lt. absurd (omega (arith, lt));
      unnamed = λ i lt. absurd (omega (arith, lt));
      taken = λ i lt. absurd (omega (arith, lt));
      rising = λ i j lt within. absurd (omega (arith, within));
      low = λ i lt. absurd (omega (arith, lt));
    }

    taking : (t : Taking) → t.plan ≡ p → (asked : Asked) → t.work.stage ≡ Begun asked → asked.count ≡ wanted_of p → KnowsTaking t next l x host g
    taking t same asked begun count =
        let some : 0 < wanted_of p = subst (λ (q : WritePlan). 1 ≤ wanted_of q) same t.some in
        let room : HasRoom next g.size (wanted_of p) = room_stays w next with g.size (wanted_of p) (subst (λ n. HasRoom w n (wanted_of p)) (sym is_left.size) (k.room some)) in
        record {
          of = subst (λ (q : WritePlan). IsOf (span_of q) next l x) (sym same) of_next;
          room = λ asked' begun'.
              let again : Begun asked ≡ Begun asked' = sym begun ∙ begun' in
              let one : asked ≡ asked' = cc in
              record {
                count = sym (ap (λ (a : Asked). a.count) one) ∙ count ∙ sym (ap wanted_of same);
                room = subst (λ (q : WritePlan). HasRoom next g.size (wanted_of q)) (sym same) room;
              };
          knows = subst (λ (st : placing.Stage). knows.KnowsIn next host g st) (sym begun) writer;
          layers = known_layers x next host g writer well of_next.cow of_next.capacity;
          found = subst (λ (q : WritePlan). IsFound q next host g) (sym same) found_next;
        }

    pub next_known : (stage : Stage) → TakesNext p stage → KnowsStage stage next l x host g
    next_known (Placing t) is = taking t is.0 is.2.0 is.2.1 is.2.2
    next_known (InPlace placed s) is = first_known p [] next l x host g of_next found_next none_placed (InPlace placed s) is.1
    next_known (Surveying s) is = absurd is.1
    next_known (Asking a) is = absurd is.1
    next_known (Clearing q b) is = absurd is.1

pub clears_more : (p : WritePlan) (c c' : headings.Clearing) (w next : Layer) (l : Laying) (x : VolumeRecord) (host faults : ℕ) (f : File) (d e : Content) → d.file w.target.place ≡ Some f
    → KnowsClearingOf p c w l x host f → IsWellFormed e → next ≡ w → StageClears c.stage w next host faults (More c'.stage) d e → Prepares (Clearing p c) w next l x host faults (More (Clearing p c')) f d e
clears_more p c c' w next l x host faults f d e there k formed same call = record {
  now = g p c w next l x host faults f d e there k formed (More c'.stage) call;
  put = put p c w next l x host faults f d e there k formed (More c'.stage) call;
  early = λ is. absurd is;
  written = written_now p c w next l x host faults f d e there k formed (More c'.stage) call;
  after = subst (λ (m : Layer). KnowsClearingOf p c' m l x host (g p c w next l x host faults f d e there k formed (More c'.stage) call)) (sym same)
      (still_clearing p c w next l x host faults f d e there k formed (More c'.stage) call c' (is_left p c w next l x host faults f d e there k formed (More c'.stage) call).next);
}

pub clears_done : (p : WritePlan) (c : headings.Clearing) (stage : Stage) (w next : Layer) (l : Laying) (x : VolumeRecord) (host faults : ℕ) (f : File) (d e : Content) → d.file w.target.place ≡ Some f → KnowsClearingOf p c w l x host f
    → IsWellFormed e → IsWithHeader w (cleared w.work.header) (parent_kept w) next → TakesNext p stage → StageClears c.stage w next host faults (Done tt) d e → Prepares (Clearing p c) w next l x host faults (More stage) f d e
clears_done p c stage w next l x host faults f d e there k formed with takes call =
    let is = is_left p c w next l x host faults f d e there k formed (Done tt) call in
    record {
      now = g p c w next l x host faults f d e there k formed (Done tt) call;
      put = put p c w next l x host faults f d e there k formed (Done tt) call;
      early = λ is. absurd is;
      written = written_now p c w next l x host faults f d e there k formed (Done tt) call;
      after = next_known p c w next l x host faults f d e there k formed (Done tt) call with is.next.0 is.next.1 stage takes;
    }

pub clears_ended : (p : WritePlan) (c : headings.Clearing) (refusal : Refusal) (w next : Layer) (l : Laying) (x : VolumeRecord) (host faults : ℕ) (f : File) (d e : Content) → d.file w.target.place ≡ Some f
    → KnowsClearingOf p c w l x host f → IsWellFormed e → StageClears c.stage w next host faults (Ended tt refusal) d e → Prepares (Clearing p c) w next l x host faults (Ended tt refusal) f d e
clears_ended p c refusal w next l x host faults f d e there k formed call = record {
  now = g p c w next l x host faults f d e there k formed (Ended tt refusal) call;
  put = put p c w next l x host faults f d e there k formed (Ended tt refusal) call;
  early = λ is. absurd is;
  written = written_now p c w next l x host faults f d e there k formed (Ended tt refusal) call;
  after = (is_left p c w next l x host faults f d e there k formed (Ended tt refusal) call).next.0;
}
