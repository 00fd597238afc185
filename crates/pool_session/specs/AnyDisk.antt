-- How a session runs a line over a disk that holds anything: what it answers, the stage that it reaches, and what it leaves of
-- what the disk tells.
use Rattle.std.specs.Prelude.{◌≡◌, ◌⊎◌, ℕ, ◌/◌, List, length, Option, Result, MatchBool, MatchOption, MatchResult}
use Rattle.sd_names.specs.declared.refusal.Refusal.{Refusal}
use Rattle.sd_names.specs.declared.verb.Payload.TheVariants as payload
use Rattle.script_lines.specs.Reply.{reply_text}
use Rattle.script_lines.specs.Said.{Event}
use Rattle.script_lines.specs.declared.reply.Reply.{Reply}
use Rattle.script_lines.specs.declared.reply.Reply.TheVariants.{Plain, Done, Refused}
use Rattle.script_loop.specs.declared.runner.LineOutcome.{LineOutcome}
use Rattle.shared_disk.specs.Content.{Content}
use Rattle.shared_disk.specs.Calls.{IsSame, Told}
use Rattle.raw_layer.specs.Raw.{ReadsFile}
use Rattle.pool_session.specs.Answer.{Answer, outcome_for}
use Rattle.pool_session.specs.Fault.{SameOrFault}
use Rattle.pool_session.specs.FileCalls.{Written, PartlyWritten, ImageMade, ImagePartlyMade}
use Rattle.pool_session.specs.Folders.{AreMade, MayBeMade, folders_of}
use Rattle.pool_session.specs.Image.{file_of}
use Rattle.pool_session.specs.Machine.{due_of, part_refusal}
use Rattle.pool_session.specs.Request.{Asked, asked_of, is_silent}
use Rattle.pool_session.specs.declared.image.Image.{Image}
use Rattle.pool_session.specs.declared.stage.Act.{Act}
use Rattle.pool_session.specs.declared.stage.Act.TheVariants as act
use Rattle.pool_session.specs.declared.stage.Stage.{Stage}
use Rattle.pool_session.specs.declared.stage.Stage.TheVariants.{Up, Pooled, Managed, Created, Opened, MakePoolStopped, CreateStopped, Stopped}

-- it is done with this reply, and reaches this stage
abbrev pub IsDone : Reply → Stage → Answer → Stage → Type 0
IsDone reply reached answer stage = (answer.0 ≡ reply) × (stage ≡ reached)

-- it is refused, and reaches this stage; where that isn't for a fault of the disk, what the disk tells is as it was
abbrev pub IsStopped : Stage → (Content → Content → Type 0) → Option Content → Answer → Stage → Option Content → Type 0
IsStopped reached R before answer stage after = (refusal : Refusal) × (answer.0 ≡ Refused refusal) × (stage ≡ reached) × Told before after (SameOrFault refusal R)

-- it is refused so, and the disk and the stage are as they were
abbrev pub IsRefused : {D : Type 0} → Refusal → Stage → D → Answer → Stage → D → Type 0
IsRefused refusal stage d answer stage' e = IsDone (Refused refusal) stage answer stage' × (e ≡ d)

-- a read hands out what the file reads as, or is refused; the disk holds what it held
abbrev pub ReadsOn : Image → ℕ → ℕ → Option Content → Answer → Stage → Option Content → Type 0
ReadsOn image at count before answer stage after =
    (IsDone (Done (payload.Read count)) (Opened image) answer stage × (length answer.1 ≡ count)
    × Told before after (λ d e. IsSame d e × ReadsFile d 1 (file_of image) (at / 512) answer.1))
    ⊎ IsStopped (Stopped image) IsSame before answer stage after

-- a write that is done has written its bytes and synced the file; one that a fault cuts has written some of their sectors at the most
abbrev pub WritesOn : Image → ℕ → List ℕ → Option Content → Answer → Stage → Option Content → Type 0
WritesOn image at bytes before answer stage after =
    (IsDone (Done payload.Write) (Opened image) answer stage × Told before after (Written 1 (file_of image) (at / 512) bytes))
    ⊎ IsStopped (Stopped image) (PartlyWritten 1 (file_of image) (at / 512) bytes) before answer stage after

-- what is due is done over a disk that tells this, with the bytes that it writes
abbrev pub ActsOn : {D : Type 0} → (D → Option Content) → Act → List ℕ → D → Answer → Stage → D → Type 0
ActsOn content act.Boot bytes d answer stage e = IsDone Plain Up answer stage × (e ≡ d)
ActsOn content (act.MakePool sd) bytes d answer stage e =
    (IsDone (Done payload.MakePool) (Pooled sd) answer stage × Told (content d) (content e) (AreMade (folders_of sd)))
    ⊎ IsStopped (MakePoolStopped sd) (MayBeMade (folders_of sd)) (content d) answer stage (content e)
ActsOn content (act.SpmStart sd) bytes d answer stage e = IsDone (Done (payload.SpmStart 1)) (Managed sd) answer stage × (e ≡ d)
ActsOn content (act.Create image) bytes d answer stage e =
    (IsDone (Done payload.Create) (Created image) answer stage × Told (content d) (content e) (ImageMade 1 image))
    ⊎ IsStopped (CreateStopped image) (ImagePartlyMade 1 image) (content d) answer stage (content e)
ActsOn content (act.Open image) bytes d answer stage e = IsDone (Done (payload.Open image.volume image.capacity)) (Opened image) answer stage × (e ≡ d)
ActsOn content (act.Write image at) bytes d answer stage e = MatchOption (part_refusal at (length bytes) image.capacity)
    (WritesOn image at bytes (content d) answer stage (content e))
    (λ refusal. IsRefused refusal (Opened image) d answer stage e)
ActsOn content (act.Read image at count) bytes d answer stage e = MatchOption (part_refusal at count image.capacity)
    (ReadsOn image at count (content d) answer stage (content e))
    (λ refusal. IsRefused refusal (Opened image) d answer stage e)

-- a line that isn't silent and asks for this, or is refused, is answered so at a stage
abbrev pub AnswersOn : {D : Type 0} → (D → Option Content) → Stage → Result Asked Refusal → D → Answer → Stage → D → Type 0
AnswersOn content stage asked d answer stage' e =
    MatchResult (due_of stage asked) (λ due. ActsOn content due.0 due.1 d answer stage' e) (λ refusal. IsRefused refusal stage d answer stage' e)

-- The line of a number, which is this event, is run at a stage. A silent one changes nothing.
abbrev pub RunsOn : {D : Type 0} → (D → Option Content) → Stage → D → ℕ → Event → LineOutcome → List ℕ → Stage → D → Type 0
RunsOn content stage d number event came reply stage' e = MatchBool (is_silent event)
    ((stage' ≡ stage) × (e ≡ d))
    ((answer : Answer) × AnswersOn content stage (asked_of event) d answer stage' e × (came ≡ outcome_for answer.0) × (reply ≡ reply_text number answer.0 answer.1))
