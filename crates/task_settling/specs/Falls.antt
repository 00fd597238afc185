-- Fewer steps are left behind each step of a settling, on every disk.
use Rattle.std.specs.Prelude.{◌≡◌, ℕ, zero, suc, ◌+◌, ◌<◌, None}
use Rattle.sd_names.specs.Turn.{MatchTurn}
use Rattle.task_store.specs.declared.task.Task.{Task}
use Rattle.task_files.specs.Write.{write_left}
use Rattle.image_removing.specs.Falls.{Costs, left_of as removal_left}
use Rattle.image_removing.specs.declared.removing.Pass.TheVariants.{Earlier}
use Rattle.image_removing.specs.declared.removing.Stage.TheVariants.{Listing}
use Rattle.image_clearing.specs.Clearing.{stage_of as clearing_stage}
use Rattle.image_clearing.specs.Falls.{IsPaidFor, left_of as clearing_left}
use Rattle.task_settling.specs.Settling.{SettleTurn, settled_of, stage_of, task_of}
use Rattle.task_settling.specs.declared.settling.Stage.{Stage}
use Rattle.task_settling.specs.declared.settling.Stage.TheVariants.{Clearing, Writing}
use Rattle.task_settling.specs.declared.settling.TaskSettling.{TaskSettling}

-- the steps that clear one image away, from the first on
abbrev pub left_whole : Costs → ℕ
left_whole cost = 8 + removal_left cost (Listing Earlier None) + 1

-- so for each of so many images
abbrev pub left_each : Costs → ℕ → ℕ
left_each cost zero = 0
left_each cost (suc n) = left_whole cost + left_each cost n

-- How many more steps a settling takes at the most, by what the names cost that a removal lists: those of the image that is
-- cleared away, those of the ones before it, and 5 that write the text.
abbrev pub left_behind : Costs → ℕ → ℕ
left_behind cost zero = 5
left_behind cost (suc n) = left_each cost n + 5

abbrev pub left_of : Costs → Stage → ℕ
left_of cost (Clearing count c) = clearing_left cost (clearing_stage c) + left_behind cost count
left_of cost (Writing w) = write_left w

-- a name that a removal lists is paid for
abbrev pub IsPaidIn : Costs → Stage → Stage → Type 0
IsPaidIn cost (Clearing n c) (Clearing m next) = IsPaidFor cost (clearing_stage c) (clearing_stage next)
IsPaidIn cost _ next = Unit {0}

pub record IsNearer (cost : Costs) (s : Stage) (task settled : Task) (next : TaskSettling) : Type 0 where
  pub task_is : task_of next ≡ task
  pub settled_is : settled_of next ≡ settled
  pub falls : IsPaidIn cost s (stage_of next) → left_of cost (stage_of next) < left_of cost s

abbrev pub NearsIn : Stage → Task → Task → SettleTurn → Type 0
NearsIn s task settled turn = (cost : Costs) → MatchTurn turn (IsNearer cost s task settled) (λ _. 0 < left_of cost s) (λ _ _. 0 < left_of cost s)

abbrev pub Nears : TaskSettling → SettleTurn → Type 0
Nears t turn = NearsIn (stage_of t) (task_of t) (settled_of t) turn
