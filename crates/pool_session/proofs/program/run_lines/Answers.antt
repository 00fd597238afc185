use Rattle.std.proofs.Common.{List, ℕ, Some, ap}
use Rattle.script_loop.specs.Memory.{script_left}
use Rattle.pool_session.proofs.SessionLemmas.{ran_map}
use Rattle.pool_session.proofs.program.run_lines.Goals as goal

pub returns-in-Ok-clause-runs : goal.returns-in-Ok-clause-runs
returns-in-Ok-clause-runs g c =
    ran_map c.run_session.result _ _ c.run_session.ensures.runs
    (λ r. (Some (script_left c.in-Ok.script), Some (script_left c.run_session.new.source), r.0, r.1, ap (λ (xs : List ℕ). Some xs) c.in-Ok.ensures, r.2))

pub returns-in-Ok-clause-ends : goal.returns-in-Ok-clause-ends
returns-in-Ok-clause-ends g c d tells empty =
    ran_map c.run_session.result _ _ (c.run_session.ensures.ends d tells empty)
    (λ r. (Some (script_left c.in-Ok.script), Some (script_left c.run_session.new.source), r.0, r.1, r.2, ap (λ (xs : List ℕ). Some xs) c.in-Ok.ensures, r.3, r.4, r.5, r.6))
