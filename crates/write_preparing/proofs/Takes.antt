-- What a step of the taking of clusters leaves.
use Rattle.std.proofs.Common.{◌≡◌, ℕ, ◌+◌, ◌^◌, ◌<◌, ◌≤◌, List, length, Some, refl, sym, ap, ◌∙◌, subst, inl, inr, arith}
use Rattle.sd_names.specs.declared.refusal.Refusal.{Refusal}
use Rattle.sd_names.specs.declared.refusal.Refusal.TheVariants.{DiskFault}
use Rattle.sd_names.specs.declared.turn.Turn.TheVariants.{More, Done, Ended}
use Rattle.shared_disk.specs.Calls.{IsPut}
use Rattle.shared_disk.specs.Content.{Content, File}
use Rattle.shared_disk.specs.WellFormed.{IsWellFormed}
use Rattle.shared_disk.proofs.WellFormed.{outcome_file_keeps}
use Rattle.qcow_format.specs.declared.header.Header.{Header}
use Rattle.volume_meta.specs.declared.record.VolumeRecord.{VolumeRecord}
use Rattle.image_model.specs.Layer.{entry_at, has_table, l1_entry}
use Rattle.image_model.specs.Room.{room_of}
use Rattle.layer_laws.specs.Laws.{layer}
use Rattle.qcow_layer.specs.declared.layer.Layer.{Layer}
use Rattle.qcow_layer.specs.declared.stages.Target.{Target}
use Rattle.layer_writing.specs.Holding.{ComesBy, HoldSame, as_seen, on_medium}
use Rattle.layer_writing.specs.Writer.{KnowsWriter, seen_tables}
use Rattle.layer_placing.specs.Chosen.{IsShort, listed}
use Rattle.layer_placing.specs.Knows.{EndsBy, KeepsList, KnowsIn, StaySpare, chosen_in}
use Rattle.layer_placing.specs.Placing.{Places}
use Rattle.layer_placing.specs.Stages.{OnlyTakes}
use Rattle.layer_placing.specs.declared.clusters.Clusters.{Clusters}
use Rattle.layer_placing.specs.declared.placing.Placing as placings
use Rattle.layer_placing.specs.declared.stage.Asked.{Asked}
use Rattle.layer_placing.specs.declared.stage.Stage as placing
use Rattle.layer_placing.specs.declared.stage.Stage.TheVariants.{Begun, Finding, Counting, Raising, Zeroing, Zeroed, Settled, Entered}
use Rattle.chain_laws.specs.Laid.{Laying}
use Rattle.chain_laws.specs.Written.{FileWritten}
use Rattle.part_laws.specs.Steps.{AreLayers}
use Rattle.part_laws.proofs.Held.{same_written}
use Rattle.write_planning.specs.Plan.{span_of, wanted_of}
use Rattle.write_planning.specs.Span.{first_of}
use Rattle.write_planning.specs.declared.plan.WritePlan.{WritePlan}
use Rattle.write_preparing.specs.Placed.{clusters_of, plan_of}
use Rattle.write_preparing.specs.Preparing.{IsFound, IsOf, KnowsTaking, Prepares, WritesFirst}
use Rattle.write_preparing.specs.Taking.{TakesWanted}
use Rattle.write_preparing.specs.declared.placed.Placed.{Placed}
use Rattle.write_preparing.specs.declared.stage.Stage.{Stage}
use Rattle.write_preparing.specs.declared.stage.Stage.TheVariants.{Placing}
use Rattle.write_preparing.specs.declared.stage.Taking.{Taking}
use Rattle.write_preparing.proofs.Found.{first_known, tables_alike}
use Rattle.write_preparing.proofs.Room.{not_short, seen_size}

-- ---- on every disk

-- once some are chosen, a placing isn't at its begin
pub not_begun : (work : placings.Placing) (n : ℕ) → length (chosen_in work.stage) ≡ n → 1 ≤ n → (asked : Asked) → work.stage ≡ Begun asked → ⊥
not_begun work n many some asked begun =
    let none : length (chosen_in work.stage) ≡ 0 = ap (λ (st : placing.Stage). length (chosen_in st)) begun in
    omega (arith, none, many, some)

kept_list : (stage : placing.Stage) (xs : List ℕ) → ((asked : Asked) → stage ≡ Begun asked → ⊥) → KeepsList stage xs → xs ≡ chosen_in stage
kept_list (Begun asked) xs not keeps = absurd (not asked refl)
kept_list (Finding w) xs not keeps = keeps
kept_list (Counting w b) xs not keeps = keeps
kept_list (Raising r) xs not keeps = keeps
kept_list (Zeroing w t p) xs not keeps = keeps
kept_list (Zeroed w t) xs not keeps = keeps
kept_list (Settled w t) xs not keeps = keeps
kept_list (Entered w b) xs not keeps = keeps

-- a step that goes on takes as many still
pub takes_still : (p : WritePlan) (work next : placings.Placing) → TakesWanted p work → 1 ≤ wanted_of p → KeepsList work.stage (chosen_in next.stage) → TakesWanted p next
takes_still p work next takes some keeps xs kept =
    let many = takes (chosen_in next.stage) keeps in
    ap length (kept_list next.stage xs (not_begun next (wanted_of p) many some) kept) ∙ many

-- ---- where the content is told

module _ (t : Taking) (w next : Layer) (l : Laying) (x : VolumeRecord) (host faults : ℕ) (f : File) (d e : Content) (there : d.file w.target.place ≡ Some f) (k : KnowsTaking t w l x host f) (formed : IsWellFormed e)
    (only : OnlyTakes w next) where
  abbrev h : Header
  h = w.work.header

  of_next : IsOf (span_of t.plan) next l x
  of_next = record {
    says = k.of.says;
    cow = k.of.cow;
    capacity = k.of.capacity ∙ sym (ap (λ (u : Target). u.capacity) only.same.target);
    at = k.of.at;
    length = k.of.length;
  }

  module _ (now : File) (put : IsPut d w.target.place (Some now) e) (by : ComesBy (HoldSame h w.target.capacity) f now) where
    comes : ComesBy (HoldSame h x.capacity) f now
    comes = subst (λ n. ComesBy (HoldSame h n) f now) (sym k.of.capacity) by

    layers_old : AreLayers x h now
    layers_old o out =
        let from = comes o out in
        record { cow = k.of.cow; header = from.2.header ∙ (k.layers from.0 from.1).header; well = outcome_file_keeps now o (formed.files w.target.place now put.here) out }

    layers_now : AreLayers x next.work.header now
    layers_now = subst (λ (a : Header). AreLayers x a now) (sym only.same.header) layers_old

    written_now : FileWritten l f now
    written_now = same_written l x h f now k.of.says k.layers layers_old comes

    found_now : StaySpare w next host f now → IsFound t.plan next host now
    found_now stay = record {
      width = k.found.width ∙ ap (λ (a : Header). 2 ^ a.cluster_bits) (sym only.same.header);
      all = k.found.all;
      each = λ j lt.
          let was = k.found.each j lt in (
            was.0,
            was.1,
            record {
              entry = λ o out.
                  let from = comes o out in
                  was.2.entry from.0 from.1 ∙ sym (from.2.entries (first_of (span_of t.plan) + j))
                  ∙ ap (λ (a : Header). entry_at (layer a (on_medium o)) (first_of (span_of t.plan) + j)) (sym only.same.header);
              table = was.2.table ∙ sym (tables_alike h (as_seen host f) (as_seen host now) (first_of (span_of t.plan) + j) (λ i low. l1_same stay i low))
                  ∙ ap (λ (a : Header). has_table (layer a (as_seen host now)) (first_of (span_of t.plan) + j)) (sym only.same.header);
            },
          );
    }
      where
        l1_same : StaySpare w next host f now → (i : ℕ) → i < h.l1_size → l1_entry (layer h (as_seen host now)) i ≡ l1_entry (layer h (as_seen host f)) i
        l1_same stay i low = ap (λ (a : Header). l1_entry (layer a (as_seen host now)) i) (sym only.same.header) ∙ stay.tables i low

  pub takes_more : (work : placings.Placing) (u : Taking) → u.plan ≡ t.plan → u.work ≡ work → KeepsList t.work.stage (chosen_in work.stage) → Places t.work w next host faults (More work) f d e
      → Prepares (Placing t) w next l x host faults (More (Placing u)) f d e
  takes_more work u plan is keeps call = record {
    now = call.now;
    put = call.put;
    early = λ is. absurd is;
    written = written_now call.now call.put call.comes;
    after = record {
      of = subst (λ (q : WritePlan). IsOf (span_of q) next l x) (sym plan) of_next;
      room = λ asked begun. absurd (not_begun work (wanted_of t.plan) (t.many (chosen_in work.stage) keeps) t.some asked (ap (λ (a : placings.Placing). a.stage) (sym is) ∙ begun));
      knows = subst (λ (a : placings.Placing). KnowsIn next host call.now a.stage) (sym is) call.after.0;
      layers = layers_now call.now call.put call.comes;
      found = subst (λ (q : WritePlan). IsFound q next host call.now) (sym plan) (found_now call.now call.put call.comes call.spare);
    };
  }

  pub takes_done : (clusters : Clusters) (placed : Placed) (stage : Stage) → plan_of placed ≡ t.plan → clusters_of placed ≡ listed clusters → WritesFirst (plan_of placed) (clusters_of placed) stage
      → Places t.work w next host faults (Done clusters) f d e → Prepares (Placing t) w next l x host faults (More stage) f d e
  takes_done clusters placed stage plan are first call = record {
    now = call.now;
    put = call.put;
    early = λ is. absurd is;
    written = written_now call.now call.put call.comes;
    after = first_known t.plan (listed clusters) next l x host call.now of_next (found_now call.now call.put call.comes call.spare) call.after stage
        (subst (λ (xs : List ℕ). WritesFirst t.plan xs stage) are (subst (λ (q : WritePlan). WritesFirst q (clusters_of placed) stage) plan first));
  }

  pub takes_ended : (refusal : Refusal) → Places t.work w next host faults (Ended tt refusal) f d e → Prepares (Placing t) w next l x host faults (Ended tt refusal) f d e
  takes_ended refusal call = record {
    now = call.now;
    put = call.put;
    early = λ is. absurd is;
    written = written_now call.now call.put call.comes;
    after = go t.work.stage refl call.after;
  }
    where
      go : (stage : placing.Stage) → t.work.stage ≡ stage → EndsBy w next host faults stage f call.now refusal → refusal ≡ DiskFault faults
      go stage is (inl fault) = fault.0
      go (Begun asked) is (inr none) =
          let writer : KnowsWriter w host f = subst (λ (st : placing.Stage). KnowsIn w host f st) is k.knows in
          let finds = k.room asked is in
          absurd
          (not_short w (seen_tables w host f) (wanted_of t.plan) none.2.0 none.2.1 finds.room.chosen writer.knows.numbers.used (finds.room.least (as_seen host f) (seen_size host f)) finds.room.all t.some
          (subst (λ n. IsShort w (room_of (seen_tables w host f)) n none.2.0 none.2.1) finds.count none.2.3))
      go (Finding a) is (inr none) = absurd none
      go (Counting a b) is (inr none) = absurd none
      go (Raising r) is (inr none) = absurd none
      go (Zeroing a b c) is (inr none) = absurd none
      go (Zeroed a b) is (inr none) = absurd none
      go (Settled a b) is (inr none) = absurd none
      go (Entered a b) is (inr none) = absurd none
