use Rattle.std.proofs.Common.{◌≡◌, Option, Some, map, refl, sym, subst, rules}
use Rattle.command_words.specs.Asked.{Asked, asked_by}
use Rattle.command_words.specs.Words.{asked}
use Rattle.pool_session.specs.Program.{Gives}
use Rattle.pool_session.proofs.BoundLemmas.{none_taken}
use Rattle.pool_session.proofs.SessionLemmas.{ran_map}
use Rattle.pool_session.proofs.program.vdsm.Goals as goal

pub returns-in-Ok-Some-clause-runs : goal.returns-in-Ok-Some-clause-runs
returns-in-Ok-Some-clause-runs g c =
    let left = g.S.Source.left in
    let is : asked (map (λ word. word.now) c.args.words.now) ≡ Some (asked_by c.in-Ok-Some.command) = search rules in
    ran_map c.run_command.result _ _ c.run_command.ensures.runs
    (λ r. (r.0, r.1, r.2, r.3, subst (λ (a : Option Asked). Gives a (left c.args.source.now) (left c.run_command.new.source) r.0 r.1) (sym is) r.4, r.5))

pub returns-in-Ok-Some-clause-ends : goal.returns-in-Ok-Some-clause-ends
returns-in-Ok-Some-clause-ends g c d tells empty =
    let left = g.S.Source.left in
    let is : asked (map (λ word. word.now) c.args.words.now) ≡ Some (asked_by c.in-Ok-Some.command) = search rules in
    ran_map c.run_command.result _ _ (c.run_command.ensures.ends d tells empty)
    (λ r. (r.0, r.1, r.2, r.3, r.4, subst (λ (a : Option Asked). Gives a (left c.args.source.now) (left c.run_command.new.source) r.0 r.1) (sym is) r.5, r.6, r.7, r.8, r.9))

pub returns-in-Ok-None-clause-bounded : goal.returns-in-Ok-None-clause-bounded
returns-in-Ok-None-clause-bounded g c input tells = none_taken (g.S.Source.left c.args.source.now) (g.S.Source.left c.args.source.now) input refl tells

pub returns-in-Err-clause-bounded : goal.returns-in-Err-clause-bounded
returns-in-Err-clause-bounded g c input tells = none_taken (g.S.Source.left c.args.source.now) (g.S.Source.left c.args.source.now) input refl tells
