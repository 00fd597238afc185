-- What a step of a write leaves, by the way in which it ends.
use Rattle.std.proofs.Common.{◌≡◌, ℕ, ◌+◌, ◌*◌, ◌/◌, ◌%◌, ◌<◌, ◌≤◌, nat_le, List, length, true, Ok, Err, MatchBool, sym, subst, inl, inr, refl, arith}
use Rattle.std.proofs.lemmas.Bool.Decides.{nat_tests}
use Rattle.sd_names.specs.declared.refusal.Refusal.{Refusal}
use Rattle.sd_names.specs.declared.refusal.Refusal.TheVariants.{DiskFault}
use Rattle.sd_names.specs.declared.turn.Turn.{Turn}
use Rattle.sd_names.specs.declared.turn.Turn.TheVariants.{More, Done, Ended}
use Rattle.shared_disk.specs.Content.{Content}
use Rattle.shared_disk.specs.declared.disk.DiskAnswer.TheVariants.{NoFile, Exists, OutOfFile, NotEmpty, Failed}
use Rattle.raw_layer.specs.Raw.{WriteSteps, WritesPart, SyncsFile, AsksLength}
use Rattle.raw_layer.specs.declared.write.RawWrite.{RawWrite}
use Rattle.raw_layer.specs.declared.write.Stage.{Stage}
use Rattle.raw_layer.specs.declared.write.Stage.TheVariants.{Begun, Fits, Written}
use Rattle.pool_session.specs.declared.image.Image.{Image}
use Rattle.pool_session.specs.Image.{HoldsFlat, SeenFlat, Mixed, laid, file_of}
use Rattle.pool_session.proofs.WriteLemmas.{HoldsWrite, Knows, same_file, after_write, after_sync, unchanged_seen, written_seen, partly_seen}

-- what lies within the known length is written at once
chosen : (P Q : Type 0) (a b : ℕ) → a ≤ b → MatchBool (nat_le a b) P Q → P
chosen P Q a b h m =
    let passes : nat_le a b ≡ true = grind (arith, nat_tests) in
    subst (λ t. MatchBool t P Q) passes m

abbrev U : Type 0
U = Unit {0}

-- the write is past the file's end, against what is known
never_out : (f_size at count capacity : ℕ) → 512 * f_size ≡ capacity → at % 512 ≡ 0 → count % 512 ≡ 0 → at + count ≤ capacity → f_size < at / 512 + count / 512 → ⊥
never_out f_size at count capacity size aligned whole within out = omega arith

module _ (image : Image) (flat : ℕ → List ℕ) (w : RawWrite) (at faults : ℕ) (part : List ℕ) (d e : Content) (from : w.at ≡ at) (place : w.place ≡ file_of image)
    (aligned : at % 512 ≡ 0) (whole : length part % 512 ≡ 0) (within : at + length part ≤ image.capacity) where
  part_more : (next : RawWrite) → HoldsFlat image flat d → WritesPart w 1 faults part (More next) d e → (next.stage ≡ Written) × HoldsWrite image (at / 512) part flat e × (next.at ≡ w.at) × (next.place ≡ w.place)
  part_more next holds (Ok t, is, goes) = (goes.now_in, after_write image flat w at faults part d e from place holds is, goes.same.from, goes.same.place)
  part_more next holds (Err a, is, ends) = absurd (cc)

  part_done : WritesPart w 1 faults part (Done tt) d e → ⊥
  part_done (Ok t, is, goes) = goes
  part_done (Err a, is, ends) = cc

  part_ended : (refusal : Refusal) → HoldsFlat image flat d → WritesPart w 1 faults part (Ended tt refusal) d e
      → (refusal ≡ DiskFault faults) × ((mixed : ℕ → List ℕ) × Mixed (at / 512) part flat mixed × SeenFlat image mixed e)
  part_ended refusal holds (Ok t, is, goes) = absurd goes
  part_ended refusal holds (Err Failed, inl same, ends) = (cc, (flat, (λ k. inl refl), unchanged_seen image flat w at faults part d e from place holds same))
  part_ended refusal holds (Err Failed, inr partly, ends) = (cc, partly_seen image flat w at faults part d e from place partly.0 partly.3 holds partly.1 partly.4)
  part_ended refusal holds (Err NoFile, is, ends) = absurd (let there = holds.there in let gone = is.1 in let p = place in cc)
  part_ended refusal holds (Err OutOfFile, is, ends) =
      let same = same_file d w.place (file_of image) is.1 holds.file place is.2 holds.there in
      let out : is.1.size < at / 512 + length part / 512 = rw (sym from) is.3 in
      absurd (never_out is.1.size at (length part) image.capacity (rw same holds.size) aligned whole within out)
  part_ended refusal holds (Err Exists, is, ends) = absurd is
  part_ended refusal holds (Err NotEmpty, is, ends) = absurd is

  sync_more : (next : RawWrite) → SyncsFile w 1 faults (More next) d e → ⊥
  sync_more next (Ok t, is, ends) = cc
  sync_more next (Err a, is, ends) = cc

  sync_done : HoldsWrite image (at / 512) part flat d → SyncsFile w 1 faults (Done tt) d e → HoldsFlat image (laid (at / 512) part flat) e
  sync_done holds (Ok t, is, ends) = after_sync image flat w at faults part d e from place holds is
  sync_done holds (Err a, is, ends) = absurd (cc)

  sync_ended : (refusal : Refusal) → HoldsWrite image (at / 512) part flat d → SyncsFile w 1 faults (Ended tt refusal) d e
      → (refusal ≡ DiskFault faults) × ((mixed : ℕ → List ℕ) × Mixed (at / 512) part flat mixed × SeenFlat image mixed e)
  sync_ended refusal holds (Ok t, is, ends) = absurd (cc)
  sync_ended refusal holds (Err Failed, same, ends) = (cc, (laid (at / 512) part flat, (λ k. inr refl), written_seen image flat w at faults part d e from place holds same))
  sync_ended refusal holds (Err NoFile, is, ends) = absurd (let there = holds.there in let gone = is.1 in let p = place in cc)
  sync_ended refusal holds (Err OutOfFile, is, ends) = absurd is
  sync_ended refusal holds (Err Exists, is, ends) = absurd is
  sync_ended refusal holds (Err NotEmpty, is, ends) = absurd is

  begun : (known : ℕ) (turn : Turn RawWrite U U) → known ≡ image.capacity → WriteSteps (Begun known) w 1 faults part turn d e → WritesPart w 1 faults part turn d e
  begun known turn is steps = chosen (WritesPart w 1 faults part turn d e) (AsksLength w faults (length part) turn d e) (w.at + length part) known (omega arith) steps

  -- what is known next
  pub more_knows : (s : Stage) (next : RawWrite) → Knows s image (at / 512) part flat d → WriteSteps s w 1 faults part (More next) d e → Knows next.stage image (at / 512) part flat e
  more_knows (Begun known) next knows steps =
      let h = part_more next knows.1 (begun known (More next) knows.0 steps) in
      subst (λ (s : Stage). Knows s image (at / 512) part flat e) (sym h.0) h.1
  more_knows Fits next knows steps =
      let h = part_more next knows steps in
      subst (λ (s : Stage). Knows s image (at / 512) part flat e) (sym h.0) h.1
  more_knows Written next knows steps = absurd (sync_more next steps)

  -- a write that is done
  pub done_holds : (s : Stage) → Knows s image (at / 512) part flat d → WriteSteps s w 1 faults part (Done tt) d e → HoldsFlat image (laid (at / 512) part flat) e
  done_holds (Begun known) knows steps = absurd (part_done (begun known (Done tt) knows.0 steps))
  done_holds Fits knows steps = absurd (part_done steps)
  done_holds Written knows steps = sync_done knows steps

  -- a write that a fault has cut
  pub ended_mixed : (s : Stage) (refusal : Refusal) → Knows s image (at / 512) part flat d → WriteSteps s w 1 faults part (Ended tt refusal) d e
      → (refusal ≡ DiskFault faults) × ((mixed : ℕ → List ℕ) × Mixed (at / 512) part flat mixed × SeenFlat image mixed e)
  ended_mixed (Begun known) refusal knows steps = part_ended refusal knows.1 (begun known (Ended tt refusal) knows.0 steps)
  ended_mixed Fits refusal knows steps = part_ended refusal knows steps
  ended_mixed Written refusal knows steps = sync_ended refusal knows steps
