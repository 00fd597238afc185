-- What a turn tells, from what its work did.
use Rattle.std.proofs.Common.{◌≡◌, ℕ, sym, subst}
use Rattle.sd_names.specs.UpSet.{Hosts}
use Rattle.sd_names.specs.declared.refusal.Refusal.{Refusal}
use Rattle.sd_names.specs.declared.turn.Turn.TheVariants.{More, Done, Ended}
use Rattle.shared_disk.specs.Content.{Content}
use Rattle.shared_disk.specs.Step.{GoesOn}
use Rattle.image_deleting.specs.Calls.{IsAt}
use Rattle.image_deleting.specs.Deleting.{DeleteTurn, stage_of, under_of}
use Rattle.image_deleting.specs.Knowing.{IsReady, Knows}
use Rattle.image_deleting.specs.Steps.{After, IsRefused}
use Rattle.image_deleting.specs.declared.deleting.DeleteImage.{DeleteImage}
use Rattle.image_deleting.specs.declared.deleting.Stage.{Stage}
use Rattle.image_deleting.specs.declared.removal_task.RemovalTask.{RemovalTask}

-- what is known in a stage
pub ready_in : (s : Stage) (c : DeleteImage) (host : ℕ) (d : Content) → stage_of c ≡ s → Knows c host d → IsReady s (under_of c) host d
ready_in s c host d is knows = subst (λ (z : Stage). IsReady z (under_of c) host d) is knows

pub after_more : (t : RemovalTask) (was s : Stage) (host : ℕ) (up : Hosts) (faults : ℕ) (turn : DeleteTurn) (d e : Content) → GoesOn (IsAt t s) turn → IsReady s t host e → After turn was t host up faults d e
after_more t was s host up faults (More next) d e at ready =
    subst (λ (z : RemovalTask). IsReady (stage_of next) z host e) (sym at.same) (subst (λ (z : Stage). IsReady z t host e) (sym at.now_in) ready)
after_more t was s host up faults (Done u) d e at ready = absurd at
after_more t was s host up faults (Ended u refusal) d e at ready = absurd at

pub after_ended : (t : RemovalTask) (was : Stage) (host : ℕ) (up : Hosts) (faults : ℕ) (turn : DeleteTurn) (refusal : Refusal) (d e : Content) → turn ≡ Ended tt refusal
    → IsRefused refusal was t host up faults d → After turn was t host up faults d e
after_ended t was host up faults turn refusal d e is told = subst (λ (z : DeleteTurn). After z was t host up faults d e) (sym is) told
