-- How the flat machine runs a line, and any machine of a session.
use Rattle.std.specs.Prelude.{◌≡◌, ◌⊎◌, ℕ, List, [], Ok, MatchBool, Option}
use Rattle.sd_names.specs.declared.id.Id.{Id}
use Rattle.script_lines.specs.Event.{event_of}
use Rattle.script_lines.specs.Reply.{reply_text}
use Rattle.script_lines.specs.Said.{Event}
use Rattle.script_loop.specs.declared.runner.LineOutcome.{LineOutcome}
use Rattle.script_loop.specs.declared.runner.LineOutcome.TheVariants as outcome
use Rattle.shared_disk.specs.Content.{Content}
use Rattle.pool_session.specs.Answer.{Answer, outcome_for}
use Rattle.pool_session.specs.AnyDisk.{RunsOn}
use Rattle.pool_session.specs.Folders.{HasNoFolder}
use Rattle.pool_session.specs.Machine.{State, Answers}
use Rattle.pool_session.specs.Request.{asked_of, is_built, is_silent}
use Rattle.pool_session.specs.declared.request.Request.TheVariants.{MakePool}
use Rattle.pool_session.specs.declared.stage.Stage.{Stage}
use Rattle.pool_session.specs.declared.stage.Stage.TheVariants.{Off}

-- From a state, the line of a number that is this event has this outcome and this reply, and leaves that state: a silent
-- line changes nothing.
abbrev pub RunsEvent : ℕ → State → Event → LineOutcome → List ℕ → State → Type 0
RunsEvent number s event came reply t = MatchBool (is_silent event)
    ((came ≡ outcome.Silent) × (t ≡ s))
    ((answer : Answer) × Answers s (asked_of event) answer t × (came ≡ outcome_for answer.0) × (reply ≡ reply_text number answer.0 answer.1))

-- the flat machine, and the reply that it gave last
pub record Flat : Type 0 where
  pub state : State
  pub reply : List ℕ

abbrev pub flat_reply : Flat → List ℕ
flat_reply flat = flat.reply

-- how the flat machine runs a line; it keeps the image itself, so it has no disk
abbrev pub FlatSays : Flat → Unit {0} → ℕ → List ℕ → LineOutcome → Flat → Unit {0} → Type 0
FlatSays before _ number line outcome after _ = RunsEvent number before.state (event_of is_built line) outcome after.reply after.state

-- an event is silent where its line is empty or a remark, and else done or refused
abbrev pub IsOutcome : Event → LineOutcome → Type 0
IsOutcome event came = MatchBool (is_silent event) (came ≡ outcome.Silent) ((came ≡ outcome.Done) ⊎ (came ≡ outcome.Refused))

-- A `make-pool` that is done has found no folder of its domain, where the disk tells what it holds.
abbrev pub FindsNone : Event → LineOutcome → Option Content → Type 0
FindsNone event came content = (sd : Id) → asked_of event ≡ Ok (MakePool sd, []) → came ≡ outcome.Done → HasNoFolder sd content

-- how far a session over any disk has come, and the reply that it gave last
pub record Course : Type 0 where
  pub stage : Stage
  pub reply : List ℕ

abbrev pub course_reply : Course → List ℕ
course_reply course = course.reply

-- the host is off, and there was no reply
abbrev pub off : Course
off = record { stage = Off; reply = [] }

-- how a session runs a line over a disk that tells this, whatever the disk holds
abbrev pub SomeSays : {D : Type 0} → (D → Option Content) → Course → D → ℕ → List ℕ → LineOutcome → Course → D → Type 0
SomeSays content before d number line outcome after e =
    IsOutcome (event_of is_built line) outcome × FindsNone (event_of is_built line) outcome (content d)
    × RunsOn content before.stage d number (event_of is_built line) outcome after.reply after.stage e
