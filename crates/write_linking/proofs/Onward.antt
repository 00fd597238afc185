-- Each outcome of a layer's file behind a step of a linking comes from one before the step.
use Rattle.std.proofs.Common.{◌≡◌, ℕ, ◌<◌, List, [], Option, Some, None, Result, Ok, Err, refl, sym, ap, ◌∙◌, subst}
use Rattle.sd_names.specs.declared.turn.Turn.{Turn}
use Rattle.shared_disk.specs.Calls.{Syncs, synced}
use Rattle.shared_disk.specs.Content.{Content, File}
use Rattle.shared_disk.specs.Crash.{IsFileOutcome}
use Rattle.shared_disk.specs.WellFormed.{IsWellFormed}
use Rattle.shared_disk.specs.declared.disk.DiskAnswer.{DiskAnswer}
use Rattle.shared_disk.specs.declared.disk.DiskAnswer.TheVariants.{NoFile, Exists, OutOfFile, NotEmpty, Failed}
use Rattle.shared_disk.proofs.AtPlace.{no_file, one_file}
use Rattle.shared_disk.proofs.Outcomes.{settled_file, settled_itself, stable_outcome, synced_file}
use Rattle.shared_disk.proofs.WellFormed.{outcome_file_keeps}
use Rattle.volume_meta.specs.declared.record.VolumeRecord.{VolumeRecord}
use Rattle.image_model.specs.Soundness.{layer_header}
use Rattle.link_laws.specs.Links.{IsNewTable}
use Rattle.qcow_layer.specs.declared.layer.Layer.{Layer}
use Rattle.layer_writing.specs.Holding.{on_medium}
use Rattle.layer_linking.specs.Calls.{CallOf, group_of, stage_of, table_of, to_of}
use Rattle.layer_linking.specs.Linking.{Fills, HasTable, IsAsBefore, IsLeftSo, KnowsLinking, KnowsStage, tables_on}
use Rattle.layer_linking.specs.declared.linking.Linking.{Linking}
use Rattle.layer_linking.specs.declared.linking.Stage.{Stage}
use Rattle.layer_linking.specs.declared.linking.Stage.TheVariants.{Begun, Found, Filling, Zeroed, Filled, Synced, Laid, Entered}
use Rattle.layer_linking.proofs.Outcomes.{old_medium}
use Rattle.chain_model.specs.Own.{own_in, sectors_of as volume_sectors}
use Rattle.own_laws.specs.Sectors.{IsLayerOf}
use Rattle.own_laws.proofs.Bytes.{bytes_hold}
use Rattle.chain_laws.specs.Laid.{Laying}
use Rattle.chain_laws.specs.Written.{FileWritten, IsHeld}
use Rattle.part_laws.specs.Steps.{AreLayers}
use Rattle.part_laws.proofs.Held.{alike_written, held_by}

module _ (k : Linking) (w : Layer) (l : Laying) (x : VolumeRecord) (host faults : ℕ) (start f : File) (d e : Content) (there : d.file w.target.place ≡ Some f) (formed : IsWellFormed d) (says : l.records l.volume ≡ Some x) (layers : AreLayers x w.work.header start)
    (capacity : x.capacity ≡ w.target.capacity) (knows : KnowsLinking k w host start d) (left : IsLeftSo w k host start e) (written : FileWritten l start left.file) where
  -- from an outcome that is the layer as it was at the start
  from_old : (o : File) → IsFileOutcome f o → IsAsBefore w (on_medium start) (on_medium o) → FileWritten l f left.file
  from_old o out old g is = (o, out, held_by l x o g says (λ n low. subst (λ (b : Option (List ℕ)). IsHeld l n b (own_in x g n)) (alike n) (from.2 x says n low)))
    where
      from : (a : File) × IsFileOutcome start a × ((y : VolumeRecord) → l.records l.volume ≡ Some y → (n : ℕ) → n < volume_sectors y → IsHeld l n (own_in y a n) (own_in y g n))
      from = written g is

      start_layer : IsLayerOf x w.work.header start
      start_layer = layers start (settled_itself start knows.began.settled)

      old_layer : IsLayerOf x w.work.header o
      old_layer = record {
        cow = start_layer.cow;
        header = ap (λ n. layer_header (on_medium o) n) capacity ∙ old.content.same.header;
        well = outcome_file_keeps f o (formed.files w.target.place f there) out;
      }

      alike : (n : ℕ) → own_in x from.0 n ≡ own_in x o n
      alike n = ap (λ (a : File). own_in x a n) (settled_file start from.0 knows.began.settled from.1) ∙ sym (bytes_hold x w.work.header w.work.header start o n start_layer old_layer (λ i at. old.content.bytes i))

  from_start : start ≡ f → FileWritten l f left.file
  from_start same = subst (λ (o : File). FileWritten l o left.file) same written

  new_table : (table : ℕ) → table_of k ≡ Some table → IsNewTable (tables_on w start) w.target.capacity (to_of k) table
  new_table table given = (subst (λ (o : Option ℕ). HasTable (tables_on w start) w.target.capacity (group_of k) (to_of k) o) given knows.began.table).1

  fills : (table : ℕ) (P : File → Type 0) → Fills w k table host start d P → FileWritten l f left.file
  fills table P is =
      let same : is.file ≡ f = one_file is.file f (d.file w.target.place) is.there there in
      let out = stable_outcome is.file in
      from_old (record { size = is.file.size; stable = is.file.stable; loose = []; fresh = None }) (subst (λ (o : File). IsFileOutcome o (record { size = is.file.size; stable = is.file.stable; loose = []; fresh = None })) same out)
      (old_medium w k host start knows.began table (new_table table is.given) (record { size = is.file.size; stable = is.file.stable; loose = []; fresh = None }) is.filling.size
      (is.filling.each (record { size = is.file.size; stable = is.file.stable; loose = []; fresh = None }) out))

  sync_on : (answer : Result (Unit {0}) DiskAnswer) → Syncs d host w.target.place answer e → FileWritten l f left.file
  sync_on (Ok t) (was, at, put) =
      let now : synced host was ≡ left.file = one_file (synced host was) left.file (e.file w.target.place) put.here left.there in
      subst (λ (o : File). FileWritten l f o) now (subst (λ (o : File). FileWritten l o (synced host was)) (one_file was f (d.file w.target.place) at there)
      (alike_written l x was (synced host was) says (λ g out. (g, synced_file host was g out, λ n. refl))))
  sync_on (Err Failed) same =
      let now : f ≡ left.file = one_file f left.file (e.file w.target.place) (ap (λ (c : Content). c.file w.target.place) same ∙ there) left.there in
      subst (λ (o : File). FileWritten l f o) now (alike_written l x f f says (λ g out. (g, out, λ n. refl)))
  sync_on (Err NoFile) call = absurd (no_file f (d.file w.target.place) call.1 there)
  sync_on (Err Exists) call = absurd call
  sync_on (Err OutOfFile) call = absurd call
  sync_on (Err NotEmpty) call = absurd call

  by_stage : (stage : Stage) → KnowsStage stage w k host start d → (turn : Turn Linking (Unit {0}) (Unit {0})) → CallOf stage k w host faults turn d e → FileWritten l f left.file
  by_stage Begun is turn call = from_start (one_file start f (d.file w.target.place) is.1 there)
  by_stage (Found table) is turn call = from_start (one_file start f (d.file w.target.place) is.1 there)
  by_stage (Filling table piece) is turn call = fills table _ is.1
  by_stage (Zeroed table) is turn call = fills table _ is
  by_stage (Filled table) is turn call = fills table _ is
  by_stage (Synced table) is turn call =
      let same : is.file ≡ f = one_file is.file f (d.file w.target.place) is.there there in
      from_old is.file (subst (λ (o : File). IsFileOutcome o is.file) same (settled_itself is.file is.settled))
      (old_medium w k host start knows.began table (new_table table is.given) is.file is.size is.outside)
  by_stage (Laid at sector) is turn call =
      let same : is.file ≡ f = one_file is.file f (d.file w.target.place) is.there there in
      from_old is.file (subst (λ (o : File). IsFileOutcome o is.file) same (settled_itself is.file is.settled)) is.old
  by_stage Entered is turn call = sync_on call.0 call.1

  pub goes_on : (turn : Turn Linking (Unit {0}) (Unit {0})) → CallOf (stage_of k) k w host faults turn d e → FileWritten l f left.file
  goes_on turn call = by_stage (stage_of k) knows.now turn call
