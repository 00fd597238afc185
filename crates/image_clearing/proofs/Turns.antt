-- What a turn tells, from what its work did.
use Rattle.std.proofs.Common.{◌≡◌, ℕ, sym, subst}
use Rattle.sd_names.specs.declared.id.Id.{Id}
use Rattle.sd_names.specs.declared.refusal.Refusal.{Refusal}
use Rattle.sd_names.specs.declared.refusal.Refusal.TheVariants.{DiskFault}
use Rattle.sd_names.specs.declared.turn.Turn.TheVariants.{More, Done, Ended}
use Rattle.shared_disk.specs.Content.{Content}
use Rattle.shared_disk.specs.Step.{GoesOn}
use Rattle.image_clearing.specs.Clearing.{ClearTurn, IsAt, image_of, stage_of}
use Rattle.image_clearing.specs.Knowing.{IsReady, Knows}
use Rattle.image_clearing.specs.Steps.{After, IsClear}
use Rattle.image_clearing.specs.declared.clearing.ImageClearing.{ImageClearing}
use Rattle.image_clearing.specs.declared.clearing.Stage.{Stage}

-- what is known of a clearing in a stage
pub known_at : (sd image : Id) (s : Stage) (c : ImageClearing) (d : Content) → IsAt sd image s c → IsReady s sd image d → Knows c d
known_at sd image s c d at ready =
    subst (λ (a : Id). IsReady (stage_of c) a (image_of c) d) (sym at.domain)
    (subst (λ (i : Id). IsReady (stage_of c) sd i d) (sym at.image_is) (subst (λ (z : Stage). IsReady z sd image d) (sym at.now_in) ready))

pub after_more : (sd image : Id) (s now : Stage) (faults : ℕ) (turn : ClearTurn) (d e : Content) → GoesOn (IsAt sd image now) turn → IsReady now sd image e → After turn s sd image faults d e
after_more sd image s now faults (More next) d e at ready = known_at sd image now next e at ready
after_more sd image s now faults (Done u) d e at ready = absurd at
after_more sd image s now faults (Ended u refusal) d e at ready = absurd at

pub after_done : (sd image : Id) (s : Stage) (faults : ℕ) (turn : ClearTurn) (d e : Content) → turn ≡ Done tt → IsClear s sd image d e → After turn s sd image faults d e
after_done sd image s faults turn d e is clear = subst (λ (z : ClearTurn). After z s sd image faults d e) (sym is) clear

pub after_fault : (sd image : Id) (s : Stage) (faults : ℕ) (turn : ClearTurn) (refusal : Refusal) (d e : Content) → turn ≡ Ended tt refusal → refusal ≡ DiskFault faults → After turn s sd image faults d e
after_fault sd image s faults turn refusal d e is told = subst (λ (z : ClearTurn). After z s sd image faults d e) (sym is) told
