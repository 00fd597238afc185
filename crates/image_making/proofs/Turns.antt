-- What a turn tells, from what its call did.
use Rattle.std.proofs.Common.{◌≡◌, ℕ, None, refl, sym, subst, inl}
use Rattle.sd_names.specs.declared.refusal.Refusal.TheVariants.{DiskFault}
use Rattle.sd_names.specs.declared.turn.Turn.TheVariants.{More, Done, Ended}
use Rattle.shared_disk.specs.Content.{Content}
use Rattle.shared_disk.specs.Step.{GoesOn}
use Rattle.image_making.specs.Making.{IsAt, IsOf, image_of, stage_of}
use Rattle.image_making.specs.NewImage.{text_place}
use Rattle.image_making.specs.Steps.{After, IsApart, IsReady, Knows, MakeSteps, MakeTurn}
use Rattle.image_making.specs.declared.making.ImageMaking.{ImageMaking}
use Rattle.image_making.specs.declared.making.NewImage.{NewImage}
use Rattle.image_making.specs.declared.making.Stage.{Stage}
use Rattle.image_making.proofs.Parts.{on_each}

-- what is known in a stage
pub ready_in : (s : Stage) (m : ImageMaking) (host : ℕ) (d : Content) → stage_of m ≡ s → Knows m host d → IsReady s (image_of m) host d
ready_in s m host d is knows = subst (λ (x : Stage). IsReady x (image_of m) host d) is knows

-- what the next stage knows
pub goes_on : (m next : ImageMaking) (s : Stage) (host : ℕ) (e : Content) → IsOf (image_of m) next → stage_of next ≡ s → IsReady s (image_of m) host e → Knows next host e
goes_on m next s host e same now ready =
    subst (λ (x : NewImage). IsReady (stage_of next) x host e) (sym same) (subst (λ (x : Stage). IsReady x (image_of m) host e) (sym now) ready)

pub after_more : (m : ImageMaking) (s : Stage) (host faults : ℕ) (turn : MakeTurn) (e : Content) → GoesOn (IsAt m s) turn → IsReady s (image_of m) host e → After turn m host faults e
after_more m s host faults (More next) e at ready = goes_on m next s host e at.same at.now_in ready
after_more m s host faults (Done u) e at ready = absurd at
after_more m s host faults (Ended u refusal) e at ready = absurd at

pub after_fault : (m : ImageMaking) (host faults : ℕ) (turn : MakeTurn) (e : Content) → turn ≡ Ended tt (DiskFault faults) → After turn m host faults e
after_fault m host faults turn e is = subst (λ (t : MakeTurn). After t m host faults e) (sym is) refl

-- a step that leaves the volume without a text
pub unread : (m : ImageMaking) (host faults : ℕ) (turn : MakeTurn) (d e : Content) → IsApart (image_of m) d e → e.file (text_place (image_of m)) ≡ None → After turn m host faults e → MakeSteps m host faults turn d e
unread m host faults turn d e apart none after = record { apart = apart; stands = on_each (image_of m) e (inl none); after = after }
