use Rattle.std.specs.Prelude.{◌+◌, ◌*◌, ◌≤◌, length, sum_by}
use Rattle.std.proofs.Common.{subst, sym}
use Rattle.settling_steps.specs.Names.{price}
use Rattle.chain_gathering.specs.Names.{cost_by, cost_of}
use Rattle.volume_chain.specs.Chain.{path_in, records_kept}
use Rattle.volume_chain.specs.Left.{path_left, tables_left}
use Rattle.volume_chain.specs.Left as opening
use Rattle.chain_settling.specs.Left.{left_of}
use Rattle.chain_settling.specs.declared.stages.Stage.{Stage}
use Rattle.chain_settling.proofs.Costs.{both_short}
use Rattle.chain_settling.proofs.laws.openings_and_settlings_are_short.Goals as goal

pub returns : goal.returns
returns k o c s sd id version names heads tables begun shaped begins =
    subst (λ (z : Stage). opening.steps_left (cost_of names) heads tables (path_left heads tables (path_in c)) o + left_of (cost_by price names) z
    ≤ 64 + 4 * length names + 32 * length (records_kept c) + sum_by (tables_left heads tables) (path_in c))
    (sym begins.stage) (both_short o sd id version c begins.tidying names heads tables begun shaped begins.begun)
