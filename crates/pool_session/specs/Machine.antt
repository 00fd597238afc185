-- The flat machine of the first path: how it answers what a line asks for, and what the disk holds for it.
use Rattle.std.specs.Prelude.{◌≡◌, ◌⊎◌, ℕ, ◌+◌, ◌-◌, ◌/◌, ◌%◌, ◌^◌, ◌≤◌, ◌&&◌, ◌||◌, min, Bool, List, length, Option, Some, None, Result, Ok, Err, MatchOption, MatchResult, nat_eq, nat_le, if◌then◌else◌}
use lib.Pointwise.{pointwise}
use Rattle.sd_names.specs.declared.id.Id.{Id}
use Rattle.sd_names.specs.declared.refusal.Refusal.{Refusal}
use Rattle.sd_names.specs.declared.refusal.Refusal.TheVariants.{NotBuilt, OutOfRange, Unaligned, DiskFault}
use Rattle.sd_names.specs.declared.verb.Payload.TheVariants as payload
use Rattle.script_lines.specs.declared.reply.Reply.{Reply}
use Rattle.script_lines.specs.declared.reply.Reply.TheVariants.{Plain, Done, Refused}
use Rattle.shared_disk.specs.Content.{Content, IsEmpty, zero_sector}
use Rattle.shared_disk.specs.Calls.{Rose}
use Rattle.pool_session.specs.Answer.{Answer, is_refusal}
use Rattle.pool_session.specs.Capacity.{IsCapacity}
use Rattle.pool_session.specs.Folders.{HasDomain, HasPartOfDomain}
use Rattle.pool_session.specs.Image.{HasPartOfImage, HoldsFlat, SeenFlat, ReadsFlat, Mixed, laid}
use Rattle.pool_session.specs.Request.{Asked}
use Rattle.pool_session.specs.declared.request.Request.{Request}
use Rattle.pool_session.specs.declared.request.Request.TheVariants as request
use Rattle.pool_session.specs.declared.stage.Act.{Act}
use Rattle.pool_session.specs.declared.stage.Act.TheVariants as act
use Rattle.pool_session.specs.declared.image.Image.{Image}
use Rattle.pool_session.specs.declared.stage.Stage.{Stage}
use Rattle.pool_session.specs.declared.stage.Stage.TheVariants.{Off, Up, Pooled, Managed, Created, Opened, MakePoolStopped, CreateStopped, Stopped}

-- The stage that is reached, the sectors of the image as one flat list, the disk's count of faults, and whether some
-- reply was a refusal.
pub record State : Type 0 where
  pub stage : Stage
  pub flat : ℕ → List ℕ
  pub faults : ℕ
  pub refusals : Bool

-- whether two identifiers are one
abbrev pub same_id : Id → Id → Bool
same_id a b = pointwise nat_eq a.0 b.0

-- What a request comes to at a stage, if the stage waits for it and it names the same domain and image.
abbrev pub act_of : Stage → Request → Option Act
act_of Off (request.Boot) = Some act.Boot
act_of Up (request.MakePool sd) = Some (act.MakePool sd)
act_of (Pooled known) (request.SpmStart sd) = if same_id sd known then Some (act.SpmStart known) else None
act_of (Managed known) (request.Create image) = if same_id image.sd known then Some (act.Create (record image { sd = known })) else None
act_of (Created known) (request.Open sd image) = if same_id sd known.sd && same_id image known.image then Some (act.Open known) else None
act_of (Opened known) (request.Write sd image at) = if same_id sd known.sd && same_id image known.image then Some (act.Write known at) else None
act_of (Opened known) (request.Read sd image at count) = if same_id sd known.sd && same_id image known.image then Some (act.Read known at count) else None
act_of _ _ = None

-- something to do, and the bytes that it writes
abbrev pub Due : Type 0
Due = Act × List ℕ

-- what a request comes to with the bytes that it writes, or a refusal where no stage waits for it
abbrev pub due_by : Option Act → List ℕ → Result Due Refusal
due_by (Some due) bytes = Ok (due, bytes)
due_by None bytes = Err NotBuilt

-- what is due at a stage, by what was asked for
abbrev pub due_of : Stage → Result Asked Refusal → Result Due Refusal
due_of stage (Ok asked) = due_by (act_of stage asked.0) asked.1
due_of stage (Err refusal) = Err refusal

-- Why a part is refused: it isn't on sectors, or its end, kept as 2^64 - 1 where it is above that, is past the capacity.
abbrev pub part_refusal : ℕ → ℕ → ℕ → Option Refusal
part_refusal at count capacity =
    if nat_eq (at % 512) 0 && nat_eq (count % 512) 0
    then (if nat_le (at + count) capacity then None else Some (OutOfRange (min (at + count) (2 ^ 64 - 1)) capacity))
    else Some (Unaligned at count)

-- the state behind an answer
abbrev pub state_after : State → Stage → (ℕ → List ℕ) → ℕ → Answer → State
state_after s stage flat faults answer = record { stage = stage; flat = flat; faults = faults; refusals = s.refusals || is_refusal answer.0 }

-- The machine gives this reply and goes on at a stage with these sectors. The disk's count of faults is as it was.
abbrev pub GoesOn : State → Stage → (ℕ → List ℕ) → Reply → Answer → State → Type 0
GoesOn s stage flat wanted answer t = (answer.0 ≡ wanted) × (t.faults ≡ s.faults) × (t ≡ state_after s stage flat t.faults answer)

-- The disk has failed: its count rose, is told, and nothing more is built.
abbrev pub Stops : State → Stage → (ℕ → List ℕ) → Answer → State → Type 0
Stops s stage flat answer t =
    Rose s.faults t.faults × (answer.0 ≡ Refused (DiskFault t.faults)) × (s.faults ≤ t.faults) × (t ≡ state_after s stage flat t.faults answer)

-- a line is refused and changes nothing
abbrev pub Refuses : State → Refusal → Answer → State → Type 0
Refuses s refusal answer t = GoesOn s s.stage s.flat (Refused refusal) answer t

-- a read of the image gives its bytes, or the disk fails
abbrev pub ReadsImage : State → Image → ℕ → ℕ → Answer → State → Type 0
ReadsImage s image at count answer t =
    ((length answer.1 ≡ count) × ReadsFlat (at / 512) s.flat answer.1 × GoesOn s (Opened image) s.flat (Done (payload.Read count)) answer t)
    ⊎ Stops s (Stopped image) s.flat answer t

-- a write lays its bytes over the image, or the disk fails, and each sector of it is old or new
abbrev pub WritesImage : State → Image → ℕ → List ℕ → Answer → State → Type 0
WritesImage s image at bytes answer t =
    GoesOn s (Opened image) (laid (at / 512) bytes s.flat) (Done payload.Write) answer t
    ⊎ ((mixed : ℕ → List ℕ) × Mixed (at / 512) bytes s.flat mixed × Stops s (Stopped image) mixed answer t)

-- a part is refused where it is, and else read or written
abbrev pub OnPart : Option Refusal → State → Image → Answer → State → Type 0 → Type 0
OnPart refusal s image answer t P = MatchOption refusal P (λ r. GoesOn s (Opened image) s.flat (Refused r) answer t)

-- what is due is done, with the bytes that it writes
abbrev pub Acts : State → Act → List ℕ → Answer → State → Type 0
Acts s act.Boot bytes answer t = GoesOn s Up s.flat Plain answer t
Acts s (act.MakePool sd) bytes answer t = GoesOn s (Pooled sd) s.flat (Done payload.MakePool) answer t ⊎ Stops s (MakePoolStopped sd) s.flat answer t
Acts s (act.SpmStart sd) bytes answer t = GoesOn s (Managed sd) s.flat (Done (payload.SpmStart 1)) answer t
Acts s (act.Create image) bytes answer t = GoesOn s (Created image) (λ _. zero_sector) (Done payload.Create) answer t ⊎ Stops s (CreateStopped image) s.flat answer t
Acts s (act.Open image) bytes answer t = GoesOn s (Opened image) s.flat (Done (payload.Open image.volume image.capacity)) answer t
Acts s (act.Write image at) bytes answer t = OnPart (part_refusal at (length bytes) image.capacity) s image answer t (WritesImage s image at bytes answer t)
Acts s (act.Read image at count) bytes answer t = OnPart (part_refusal at count image.capacity) s image answer t (ReadsImage s image at count answer t)

-- From a state, a line that isn't silent and asks for this, or is refused, may be answered so, and leave that state.
abbrev pub Answers : State → Result Asked Refusal → Answer → State → Type 0
Answers s asked answer t = MatchResult (due_of s.stage asked) (λ due. Acts s due.0 due.1 answer t) (λ refusal. Refuses s refusal answer t)

-- What the disk holds at a stage, and nothing else. The machine's sectors say nothing of a folder where no image is made.
abbrev pub Stands : Stage → (ℕ → List ℕ) → Content → Type 0
Stands Off flat d = IsEmpty d
Stands Up flat d = IsEmpty d
Stands (Pooled sd) flat d = HasDomain sd d
Stands (Managed sd) flat d = HasDomain sd d
Stands (Created image) flat d = HoldsFlat image flat d
Stands (Opened image) flat d = HoldsFlat image flat d
Stands (MakePoolStopped sd) flat d = HasPartOfDomain sd d
Stands (CreateStopped image) flat d = HasPartOfImage 1 image d
Stands (Stopped image) flat d = SeenFlat image flat d

-- what the disk has to hold for what is due
abbrev pub StandsFor : Act → (ℕ → List ℕ) → Content → Type 0
StandsFor act.Boot flat d = IsEmpty d
StandsFor (act.MakePool sd) flat d = IsEmpty d
StandsFor (act.SpmStart sd) flat d = HasDomain sd d
StandsFor (act.Create image) flat d = HasDomain image.sd d
StandsFor (act.Open image) flat d = HoldsFlat image flat d
StandsFor (act.Write image at) flat d = HoldsFlat image flat d
StandsFor (act.Read image at count) flat d = HoldsFlat image flat d

-- a capacity is one that an image may have, and a part has 1 to 65,536 bytes
abbrev pub IsSoundAct : Act → List ℕ → Type 0
IsSoundAct (act.Create image) bytes = IsCapacity image.capacity
IsSoundAct (act.Write image at) bytes = (1 ≤ length bytes) × (length bytes ≤ 65536)
IsSoundAct (act.Read image at count) bytes = (1 ≤ count) × (count ≤ 65536)
IsSoundAct _ bytes = Unit {0}

-- What was due is done from one content to another, and from one stage to another; `faults` are the disk's counts.
abbrev pub ActsAt : Option Content → Option Content → Stage → Stage → ℕ → ℕ → Act → List ℕ → Answer → Type 0
ActsAt before after stage stage' faults faults' due bytes answer =
    (d : Content) (flat : ℕ → List ℕ) (refusals : Bool) → before ≡ Some d → StandsFor due flat d
    → (e : Content) × (flat' : ℕ → List ℕ) × (after ≡ Some e) × Stands stage' flat' e
    × Acts (record { stage = stage; flat = flat; faults = faults; refusals = refusals }) due bytes answer
    (state_after (record { stage = stage; flat = flat; faults = faults; refusals = refusals }) stage' flat' faults' answer)

-- a line was answered, likewise
abbrev pub AnswersAt : Option Content → Option Content → Stage → Stage → ℕ → ℕ → Result Asked Refusal → Answer → Type 0
AnswersAt before after stage stage' faults faults' asked answer =
    (d : Content) (flat : ℕ → List ℕ) (refusals : Bool) → before ≡ Some d → Stands stage flat d
    → (e : Content) × (flat' : ℕ → List ℕ) × (after ≡ Some e) × Stands stage' flat' e
    × Answers (record { stage = stage; flat = flat; faults = faults; refusals = refusals }) asked answer
    (state_after (record { stage = stage; flat = flat; faults = faults; refusals = refusals }) stage' flat' faults' answer)
