-- What a write of a text leaves, from what its replacement leaves.
use Rattle.std.proofs.Common.{◌≡◌, ◌⊎◌, ℕ, List, sym, subst, inl, inr}
use Rattle.sd_names.specs.declared.place.Place.{Place}
use Rattle.sd_names.specs.declared.turn.Turn.{Turn}
use Rattle.sd_names.specs.declared.turn.Turn.TheVariants.{More, Done, Ended}
use Rattle.shared_disk.specs.Content.{Content}
use Rattle.shared_disk.specs.Crash.{IsOutcome}
use Rattle.volume_meta.specs.Text.{volume_text}
use Rattle.volume_meta.specs.declared.record.VolumeRecord.{VolumeRecord}
use Rattle.volume_texts.proofs.ReadBack.{has_record}
use Rattle.volume_texts.specs.Legible.{HasRecord, IsLegible}
use Rattle.volume_texts.specs.Write.{After, IsOldOrSays, IsOldOrSaysOnEach, Knows, WriteSteps, file_of, replacing}
use Rattle.volume_texts.specs.declared.write.TextWrite.{TextWrite}
use Rattle.whole_file.specs.Replace.{After as AfterReplace, IsOldOrNew, IsOldOrNewOnEach, Knows as KnowsReplace, Steps}
use Rattle.whole_file.specs.Text.{HasText}

old_or_says : (version : ℕ) (place : Place) (r : VolumeRecord) (d e : Content) → IsLegible r → IsOldOrNew place (volume_text version r) d e → IsOldOrSays version place r d e
old_or_says version place r d e legible (inl same) = inl same
old_or_says version place r d e legible (inr has) = inr (has_record version place r e legible has)

says_on_each : (version : ℕ) (place : Place) (r : VolumeRecord) (d e : Content) → IsLegible r → IsOldOrNewOnEach place (volume_text version r) d e → IsOldOrSaysOnEach version place r d e
says_on_each version place r d e legible each o out = go (each o out)
  where
    go : ((p : Content) × IsOutcome d p × (o.file place ≡ p.file place)) ⊎ HasText o place (volume_text version r) → ((p : Content) × IsOutcome d p × (o.file place ≡ p.file place)) ⊎ HasRecord version place r o
    go (inl was) = inl was
    go (inr has) = inr (has_record version place r o legible has)

-- the version by which the next step writes
abbrev pub version_in : ℕ → Turn TextWrite (Unit {0}) (Unit {0}) → ℕ
version_in v (More w) = w.version
version_in v (Done u) = v
version_in v (Ended u refusal) = v

after_step : (w : TextWrite) (host faults : ℕ) (r : VolumeRecord) (turn : Turn TextWrite (Unit {0}) (Unit {0})) (d e : Content)
    → version_in w.version turn ≡ w.version → AfterReplace (replacing turn) w.replace host faults (volume_text w.version r) d e → After turn w host faults r d e
after_step w host faults r (More next) d e same after = subst (λ (v : ℕ). KnowsReplace next.replace host (volume_text v r) e) (sym same) after
after_step w host faults r (Done u) d e same after = (λ legible. has_record w.version (file_of w) r e legible after.0, after.1)
after_step w host faults r (Ended u refusal) d e same after = after

-- a step of the bytes that were written as the record's text
pub write_step : (w : TextWrite) (host faults : ℕ) (r : VolumeRecord) (turn : Turn TextWrite (Unit {0}) (Unit {0})) (text : List ℕ) (d e : Content)
    → text ≡ volume_text w.version r → version_in w.version turn ≡ w.version
    → (KnowsReplace w.replace host text d → Steps w.replace host faults text (replacing turn) d e) → Knows w host r d → WriteSteps w host faults r turn d e
write_step w host faults r turn text d e is same steps knows =
    let now = subst (λ (xs : List ℕ). Steps w.replace host faults xs (replacing turn) d e) is (steps (subst (λ (xs : List ℕ). KnowsReplace w.replace host xs d) (sym is) knows)) in
    record {
      apart = now.apart;
      text = λ legible. old_or_says w.version (file_of w) r d e legible now.target;
      outcomes = λ legible. says_on_each w.version (file_of w) r d e legible now.outcomes;
      after = after_step w host faults r turn d e same now.after;
    }
