-- What a session says of a line.
use Rattle.std.specs.Prelude.{ℕ, List, Option}
use Rattle.script_lines.specs.Event.{event_of}
use Rattle.script_lines.specs.Said.{Event}
use Rattle.script_loop.specs.declared.runner.LineOutcome.{LineOutcome}
use Rattle.shared_disk.specs.Content.{Content}
use Rattle.pool_session.specs.AnyDisk.{RunsOn}
use Rattle.pool_session.specs.Request.{is_built}
use Rattle.pool_session.specs.Run.{IsOutcome, FindsNone}
use Rattle.pool_session.specs.RunsAt.{RunsAt}
use Rattle.pool_session.specs.declared.session.Session.{Session}

-- the reply that a session keeps
abbrev pub kept_reply : Session → List ℕ
kept_reply session = session.reply.items

-- an event is silent, done or refused, no folder is taken for made, the event is run as over any disk, and as the flat machine
-- runs it
abbrev pub EventSays : {D : Type 0} → (D → Option Content) → (D → ℕ) → Session → D → ℕ → Event → LineOutcome → Session → D → Type 0
EventSays content faults before d number event outcome after e =
    IsOutcome event outcome × FindsNone event outcome (content d)
    × RunsOn content before.machine.stage d number event outcome (kept_reply after) after.machine.stage e
    × RunsAt before.machine.stage after.machine.stage (content d) (content e) (faults d) (faults e) number event outcome (kept_reply after)

-- what a line may come to
abbrev pub SessionSays : {D : Type 0} → (D → Option Content) → (D → ℕ) → Session → D → ℕ → List ℕ → LineOutcome → Session → D → Type 0
SessionSays content faults before d number line outcome after e = EventSays content faults before d number (event_of is_built line) outcome after e
