-- A line that is silent or is answered.
use Rattle.std.proofs.Common.{◌≡◌, ℕ, false, true, ◌⊎◌, List, refl, sym}
use Rattle.script_lines.specs.Reply.{reply_text}
use Rattle.script_lines.specs.Said.{Event}
use Rattle.script_loop.specs.declared.runner.LineOutcome.{LineOutcome}
use Rattle.script_loop.specs.declared.runner.LineOutcome.TheVariants as outcome
use Rattle.pool_session.specs.Answer.{Answer, outcome_for}
use Rattle.pool_session.specs.Machine.{State, Answers}
use Rattle.pool_session.specs.Request.{asked_of, is_silent}
use Rattle.pool_session.specs.Run.{RunsEvent, IsOutcome}

-- a silent line
pub silent_runs : (n : ℕ) (s : State) (event : Event) (reply : List ℕ) → true ≡ is_silent event → RunsEvent n s event outcome.Silent reply s
silent_runs n s event reply silent = rw (sym silent) (refl, refl)

-- a line with a reply
pub answer_runs : (n : ℕ) (s t : State) (event : Event) (reply : List ℕ) (outcome : LineOutcome) → false ≡ is_silent event
    → ((answer : Answer) × Answers s (asked_of event) answer t × (outcome ≡ outcome_for answer.0) × (reply ≡ reply_text n answer.0 answer.1)) → RunsEvent n s event outcome reply t
answer_runs n s t event reply outcome loud h = rw (sym loud) h

pub loud_outcome : (event : Event) (came : LineOutcome) → false ≡ is_silent event → (came ≡ outcome.Done) ⊎ (came ≡ outcome.Refused) → IsOutcome event came
loud_outcome event came loud h = rw (sym loud) h

pub silent_outcome : (event : Event) → true ≡ is_silent event → IsOutcome event outcome.Silent
silent_outcome event silent = rw (sym silent) refl
