-- What a turn tells, from what its work did.
use Rattle.std.proofs.Common.{◌≡◌, ℕ, sym, ap, ◌∙◌, subst}
use Rattle.sd_names.specs.declared.id.Id.{Id}
use Rattle.sd_names.specs.declared.place.Dir.TheVariants as dir
use Rattle.sd_names.specs.declared.refusal.Refusal.{Refusal}
use Rattle.sd_names.specs.declared.turn.Turn.TheVariants.{More, Done, Ended}
use Rattle.shared_disk.specs.Content.{Content}
use Rattle.shared_disk.specs.Step.{GoesOn}
use Rattle.image_making.specs.NewImage.{folder_of}
use Rattle.image_making.specs.declared.making.NewImage.{NewImage}
use Rattle.image_creating.specs.Calls.{IsAt}
use Rattle.image_creating.specs.Creating.{CreateTurn, stage_of, under_of}
use Rattle.image_creating.specs.ImageTask.{domain_of, image_of}
use Rattle.image_creating.specs.Knowing.{IsFor, IsReady, Knows}
use Rattle.image_creating.specs.Steps.{After, IsRefused}
use Rattle.image_creating.specs.declared.creating.CreateImage.{CreateImage}
use Rattle.image_creating.specs.declared.creating.Stage.{Stage}
use Rattle.image_creating.specs.declared.image_task.ImageTask.{ImageTask}

-- the task's image has this folder
pub folder_is : (t : ImageTask) (x : NewImage) → IsFor t x → folder_of x ≡ dir.Image (domain_of t) (image_of t)
folder_is t x same = ap (λ (sd : Id). dir.Image sd x.says.image) same.domain ∙ ap (λ (i : Id). dir.Image (domain_of t) i) same.image

-- what is known in a stage
pub ready_in : (s : Stage) (c : CreateImage) (x : NewImage) (host : ℕ) (d : Content) → stage_of c ≡ s → Knows c x host d → IsReady s (under_of c) x host d
ready_in s c x host d is knows = subst (λ (z : Stage). IsReady z (under_of c) x host d) is knows

pub after_more : (t : ImageTask) (s : Stage) (x : NewImage) (host faults : ℕ) (turn : CreateTurn) (d e : Content) → GoesOn (IsAt t s) turn → IsReady s t x host e → After turn t x host faults d e
after_more t s x host faults (More next) d e at ready =
    subst (λ (z : ImageTask). IsReady (stage_of next) z x host e) (sym at.same) (subst (λ (z : Stage). IsReady z t x host e) (sym at.now_in) ready)
after_more t s x host faults (Done u) d e at ready = absurd at
after_more t s x host faults (Ended u refusal) d e at ready = absurd at

pub after_ended : (t : ImageTask) (x : NewImage) (host faults : ℕ) (turn : CreateTurn) (refusal : Refusal) (d e : Content) → turn ≡ Ended tt refusal → IsRefused refusal t x faults d → After turn t x host faults d e
after_ended t x host faults turn refusal d e is told = subst (λ (z : CreateTurn). After z t x host faults d e) (sym is) told
