-- The steps of a settling as the work below them makes them: what that work did, and the turn that follows.
use Rattle.std.specs.Prelude.{◌≡◌, ℕ, ◌-◌}
use Rattle.sd_names.specs.Turn.{MatchTurn}
use Rattle.sd_names.specs.declared.id.Id.{Id}
use Rattle.sd_names.specs.declared.turn.Turn.{Turn}
use Rattle.sd_names.specs.declared.turn.Turn.TheVariants.{More, Done, Ended}
use Rattle.shared_disk.specs.Content.{Content}
use Rattle.shared_disk.specs.Step.{GoesOn}
use Rattle.task_store.specs.declared.task.Task.{Task}
use Rattle.task_files.specs.Write.{CallOf as WriteCall, IsSameWrite, Knows as KnowsWrite, WriteSteps}
use Rattle.task_files.specs.declared.write.TaskWrite.{TaskWrite}
use Rattle.image_clearing.specs.Clearing.{ClearTurn, domain_of, image_of}
use Rattle.image_clearing.specs.Knowing.{Knows as KnowsClearing}
use Rattle.image_clearing.specs.Steps.{ClearSteps}
use Rattle.image_clearing.specs.declared.clearing.ImageClearing.{ImageClearing}
use Rattle.task_settling.specs.Settling.{IsAt, IsBehind, IsUnbuilt, SettleTurn, settled_of}
use Rattle.task_settling.specs.declared.settling.Stage.TheVariants.{Clearing, Writing}

-- the image of a step is gone: the step before it comes next, or the text
abbrev pub GoesBehind : Id → Task → Task → ℕ → SettleTurn → Type 0
GoesBehind master task settled count turn =
    MatchTurn turn (λ next. IsBehind master task count next × (settled_of next ≡ settled)) (λ _. ⊥) (λ _ refusal. IsUnbuilt task refusal)

abbrev pub IsCleared : Id → Task → Task → ℕ → ClearTurn → SettleTurn → Type 0
IsCleared master task settled count (More c) turn = GoesOn (IsAt master task settled (Clearing count c)) turn
IsCleared master task settled count (Done _) turn = GoesBehind master task settled (count - 1) turn
IsCleared master task settled count (Ended _ refusal) turn = turn ≡ Ended tt refusal

-- a clearing that goes on is of the same image
abbrev pub IsSameClearing : ImageClearing → ClearTurn → Type 0
IsSameClearing c step = MatchTurn step (λ next. (domain_of next ≡ domain_of c) × (image_of next ≡ image_of c)) (λ _. Unit {0}) (λ _ _. Unit {0})

abbrev pub ClearsImage : Id → Task → Task → ℕ → ImageClearing → ℕ → SettleTurn → Content → Content → Type 0
ClearsImage master task settled count c faults turn d e =
    (step : ClearTurn) × (KnowsClearing c d → ClearSteps c faults step d e) × IsSameClearing c step × IsCleared master task settled count step turn

abbrev pub WriteTurn : Type 0
WriteTurn = Turn TaskWrite (Unit {0}) (Unit {0})

abbrev pub IsWritten : Id → Task → Task → WriteTurn → SettleTurn → Type 0
IsWritten master task settled (More w) turn = GoesOn (IsAt master task settled (Writing w)) turn
IsWritten master task settled (Done _) turn = turn ≡ Done settled.state
IsWritten master task settled (Ended _ refusal) turn = turn ≡ Ended tt refusal

-- a write that goes on is of the same file
abbrev pub IsSameText : TaskWrite → WriteTurn → Type 0
IsSameText w step = MatchTurn step (λ next. IsSameWrite w next) (λ _. Unit {0}) (λ _ _. Unit {0})

abbrev pub WritesText : Id → Task → Task → TaskWrite → ℕ → ℕ → SettleTurn → Content → Content → Type 0
WritesText master task settled w host faults turn d e =
    (step : WriteTurn) × WriteCall w host faults settled step d e × (KnowsWrite w host settled d → WriteSteps w host faults settled step d e) × IsSameText w step
    × IsWritten master task settled step turn
