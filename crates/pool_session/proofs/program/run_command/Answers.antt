use Rattle.std.proofs.Common.{◌≡◌, ℕ, List, Option, Some, map, refl, sym, ap, ◌∙◌, subst}
use Rattle.command_words.specs.Asked.{Asked, asked_by, run, session}
use Rattle.script_loop.specs.Script.{script_of}
use Rattle.pool_session.specs.Program.{Gives}
use Rattle.pool_session.proofs.BoundLemmas.{none_taken}
use Rattle.pool_session.proofs.SessionLemmas.{ran_map}
use Rattle.pool_session.proofs.program.run_command.Goals as goal

-- the source gives the script of a session, and the words that of a run
session_gives : (asked : Asked) (moment : Option ℕ) (before after : Option (List ℕ)) → asked ≡ session moment → Gives (Some asked) before after before after
session_gives asked moment before after is = subst (λ (a : Asked). Gives (Some a) before after before after) (sym is) (refl, refl)

run_gives : (asked : Asked) (moment : Option ℕ) (lines : List (List ℕ)) (before after left left' : Option (List ℕ)) → asked ≡ run moment lines → left ≡ Some (script_of lines) → Gives (Some asked) before after left left'
run_gives asked moment lines before after left left' is gives = subst (λ (a : Asked). Gives (Some a) before after left left') (sym is) gives

pub returns-in-Session-clause-runs : goal.returns-in-Session-clause-runs
returns-in-Session-clause-runs g c =
    let left = g.S.Source.left in
    let gives = session_gives (asked_by c.args.command.now) c.in-Session.moment (left c.args.source.now) (left c.run_session.new.source) (ap asked_by c.in-Session.is) in
    ran_map c.run_session.result _ _ c.run_session.ensures.runs
    (λ r. (left c.args.source.now, left c.run_session.new.source, r.0, r.1, gives, r.2))

pub returns-in-Session-clause-ends : goal.returns-in-Session-clause-ends
returns-in-Session-clause-ends g c d tells empty =
    let left = g.S.Source.left in
    let gives = session_gives (asked_by c.args.command.now) c.in-Session.moment (left c.args.source.now) (left c.run_session.new.source) (ap asked_by c.in-Session.is) in
    ran_map c.run_session.result _ _ (c.run_session.ensures.ends d tells empty)
    (λ r. (left c.args.source.now, left c.run_session.new.source, r.0, r.1, r.2, gives, r.3, r.4, r.5, r.6))

pub returns-in-Run-clause-runs : goal.returns-in-Run-clause-runs
returns-in-Run-clause-runs g c =
    let left = g.S.Source.left in
    let texts = map (λ line. line.now) c.in-Run.lines.items in
    let same = ap (λ lines. script_of (map (λ line. line.now) lines)) c.deref.ensures.value in
    ran_map c.run_lines.result _ _ c.run_lines.ensures.runs
    (λ r. (r.0, r.1, r.2, r.3, run_gives (asked_by c.args.command.now) c.in-Run.moment texts (left c.args.source.now) (left c.args.source.now) r.0 r.1 (ap asked_by c.in-Run.is) (r.4 ∙ ap (λ (xs : List ℕ). Some xs) same), r.5))

pub returns-in-Run-clause-ends : goal.returns-in-Run-clause-ends
returns-in-Run-clause-ends g c d tells empty =
    let left = g.S.Source.left in
    let texts = map (λ line. line.now) c.in-Run.lines.items in
    let same = ap (λ lines. script_of (map (λ line. line.now) lines)) c.deref.ensures.value in
    ran_map c.run_lines.result _ _ (c.run_lines.ensures.ends d tells empty)
    (λ r. (r.0, r.1, r.2, r.3, r.4, run_gives (asked_by c.args.command.now) c.in-Run.moment texts (left c.args.source.now) (left c.args.source.now) r.0 r.1 (ap asked_by c.in-Run.is) (r.5 ∙ ap (λ (xs : List ℕ). Some xs) same), r.6, r.7, r.8, r.9))

pub returns-in-Run-clause-bounded : goal.returns-in-Run-clause-bounded
returns-in-Run-clause-bounded g c input tells = none_taken (g.S.Source.left c.args.source.now) (g.S.Source.left c.args.source.now) input refl tells
