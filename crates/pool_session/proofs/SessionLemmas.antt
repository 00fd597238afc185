-- A session's lines, as the flat machine runs them.
use Rattle.std.proofs.Common.{◌≡◌, ℕ, Bool, false, true, ◌⊎◌, List, MatchBool, Option, Some, refl, sym, ap, subst, inl, inr}
use Rattle.script_loop.specs.Ends.{Ends}
use Rattle.script_loop.specs.declared.runner.LineOutcome.{LineOutcome}
use Rattle.script_loop.specs.declared.runner.LineOutcome.TheVariants as outcome
use Rattle.script_loop.specs.declared.status.Status.{Status}
use Rattle.script_loop.specs.declared.status.Status.TheVariants as status
use Rattle.script_loop.proofs.Follows.{ends_follow, never_ends_short}
use Rattle.shared_disk.specs.Content.{Content}
use Rattle.script_lines.specs.Event.{event_of}
use Rattle.pool_session.specs.AnyDisk.{RunsOn}
use Rattle.pool_session.specs.Request.{is_built, is_silent}
use Rattle.pool_session.specs.Machine.{State, Stands}
use Rattle.pool_session.specs.Program.{IfRan}
use Rattle.pool_session.specs.Run.{RunsEvent, Flat, FlatSays, flat_reply, FindsNone, Course, SomeSays, course_reply}
use Rattle.pool_session.specs.RunsAt.{Reached, state_at}
use Rattle.pool_session.specs.Session.{SessionSays, kept_reply}
use Rattle.pool_session.specs.declared.session.Session.{Session}
use Rattle.pool_session.specs.declared.stage.Stage.{Stage}

-- something that holds, holds where a script was run
pub if_ran : (status : Status) (P : Type 0) → P → IfRan status P
if_ran status.Done P p = p
if_ran status.Refused P p = p
if_ran status.Words P p = tt
if_ran status.ReadFault P p = p
if_ran status.WriteFault P p = p
if_ran status.TooLong P p = p
if_ran status.Memory P p = tt

pub ran_map : (status : Status) (P Q : Type 0) → IfRan status P → (P → Q) → IfRan status Q
ran_map status.Done P Q p f = f p
ran_map status.Refused P Q p f = f p
ran_map status.Words P Q p f = tt
ran_map status.ReadFault P Q p f = f p
ran_map status.WriteFault P Q p f = f p
ran_map status.TooLong P Q p f = f p
ran_map status.Memory P Q p f = tt

-- no line finds that there is no memory
not_short_by : (b : Bool) → MatchBool b (outcome.Memory ≡ outcome.Silent) ((outcome.Memory ≡ outcome.Done) ⊎ (outcome.Memory ≡ outcome.Refused)) → ⊥
not_short_by true e = cc
not_short_by false (inl e) = cc
not_short_by false (inr e) = cc

module _ {D : Type 0} (content : D → Option Content) (faults : D → ℕ) where
  never : (m : Session) (d : D) (number : ℕ) (text : List ℕ) (m' : Session) (d' : D) → SessionSays content faults m d number text outcome.Memory m' d' → ⊥
  never m d number text m' d' said = not_short_by (is_silent (event_of is_built text)) said.0

  pub never_short : (refused : ℕ) (m m' : Session) (d d' : D) (left left' given given' : Option (List ℕ)) → Ends (SessionSays content faults) kept_reply status.Memory refused m d left left' given given' m' d' → ⊥
  never_short refused m m' d d' left left' given given' ends =
      never_ends_short (SessionSays content faults) kept_reply never refused m m' d d' left left' given given' ends

  -- the flat machine is where the session is
  record StandsAt (m : Session) (d : D) (n : Flat) (e : Unit {0}) : Type 0 where
    flat : ℕ → List ℕ
    refusals : Bool
    reached : Reached m.machine.stage (content d) flat
    state : n.state ≡ state_at m.machine.stage flat (faults d) refusals
    reply : kept_reply m ≡ n.reply

  flat_step : (m : Session) (d : D) (n : Flat) (e : Unit {0}) (number : ℕ) (text : List ℕ) (outcome : LineOutcome) (m' : Session) (d' : D) → StandsAt m d n e → SessionSays content faults m d number text outcome m' d'
      → (n' : Flat) × (e' : Unit {0}) × FlatSays n e number text outcome n' e' × StandsAt m' d' n' e'
  flat_step m d n e number text outcome m' d' stands said =
      let ran = said.3 stands.flat stands.refusals stands.reached in
      let t = state_at m'.machine.stage ran.0 (faults d') ran.1 in (
        record { state = t; reply = kept_reply m' },
        tt,
        subst (λ (s : State). RunsEvent number s (event_of is_built text) outcome (kept_reply m') t) (sym stands.state) ran.3,
        record { flat = ran.0; refusals = ran.1; reached = ran.2; state = refl; reply = refl },
      )

  -- the stage and the reply that is kept, over the same disk
  abbrev SameCourse : Session → D → Course → D → Type 0
  SameCourse m d n e = (kept_reply m ≡ n.reply) × (m.machine.stage ≡ n.stage) × (d ≡ e)

  some_step : (m : Session) (d : D) (n : Course) (e : D) (number : ℕ) (text : List ℕ) (outcome : LineOutcome) (m' : Session) (d' : D) → SameCourse m d n e → SessionSays content faults m d number text outcome m' d'
      → (n' : Course) × (e' : D) × SomeSays content n e number text outcome n' e' × SameCourse m' d' n' e'
  some_step m d n e number text outcome m' d' same said =
      let event = event_of is_built text in
      let ran = subst (λ (stage : Stage). RunsOn content stage d number event outcome (kept_reply m') m'.machine.stage d') same.1 said.2 in (
        record { stage = m'.machine.stage; reply = kept_reply m' },
        d',
        (
          said.0,
          subst (λ (disk : D). FindsNone event outcome (content disk)) same.2 said.1,
          subst (λ (disk : D). RunsOn content n.stage disk number event outcome (kept_reply m') m'.machine.stage d') same.2 ran,
        ),
        (refl, refl, refl),
      )

  module _ (status : Status) (refused : ℕ) (m m' : Session) (d d' : D) (left left' given given' : Option (List ℕ)) (ends : Ends (SessionSays content faults) kept_reply status refused m d left left' given given' m' d') where
    -- a session as the flat machine runs it
    pub flat_ends : (n : Flat) (flat : ℕ → List ℕ) (refusals : Bool) → Reached m.machine.stage (content d) flat → n.state ≡ state_at m.machine.stage flat (faults d) refusals → kept_reply m ≡ n.reply
        → (e : Content) × (t : Flat) × (content d' ≡ Some e) × Stands t.state.stage t.state.flat e × (t.state.faults ≡ faults d')
        × Ends FlatSays flat_reply status refused n tt left left' given given' t tt
    flat_ends n flat refusals reached state reply =
        let stands : StandsAt m d n tt = record { flat = flat; refusals = refusals; reached = reached; state = state; reply = reply } in
        let next = ends_follow (SessionSays content faults) kept_reply FlatSays flat_reply StandsAt flat_step (λ m d n e stands. stands.reply) m m' d d' n tt stands refused left left' given given' status ends in
        let there = next.3 in (
          there.reached.disk,
          next.0,
          there.reached.tells,
          subst (λ (s : State). Stands s.stage s.flat there.reached.disk) (sym there.state) there.reached.stands,
          ap (λ (s : State). s.faults) there.state,
          next.2,
        )

    -- a session over any disk, by its stages and replies
    pub some_ends : (course : Course) → kept_reply m ≡ course.reply → m.machine.stage ≡ course.stage → (course' : Course) × Ends (SomeSays content) course_reply status refused course d left left' given given' course' d'
    some_ends course same reached =
        let next = ends_follow (SessionSays content faults) kept_reply (SomeSays content) course_reply SameCourse some_step (λ m d n e same. same.0) m m' d d' course d (same, reached, refl) refused left left' given given' status ends in
        (next.0, subst (λ (disk : D). Ends (SomeSays content) course_reply status refused course d left left' given given' next.0 disk) (sym next.3.2) next.2)
