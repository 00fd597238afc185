-- How many steps an opening takes at the most.
use Rattle.std.specs.Prelude.{◌≡◌, ℕ, ◌+◌, ◌<◌}
use Rattle.sd_names.specs.declared.turn.Turn.{Turn}
use Rattle.sd_names.specs.Turn.{MatchTurn}
use Rattle.qcow_format.specs.declared.header.Header.{Header}
use Rattle.layer_walk.specs.Known.{work_of}
use Rattle.layer_walk.specs.Left.{Antitone, Fits, IsInside, begin_left, walk_left}
use Rattle.layer_walk.specs.declared.work.Work.{Work}
use Rattle.qcow_layer.specs.declared.stages.Stage.{Stage}
use Rattle.qcow_layer.specs.declared.stages.Stage.TheVariants.{Begun, Sized, Walking}

-- the steps that are left of the opening of a layer with this header, `tables n` being how many positions from n on name a
-- table: the length, the header, and the sectors that the walk wants
abbrev pub left_of : Header → (ℕ → ℕ) → Stage → ℕ
left_of h tables Begun = 2 + begin_left h tables
left_of h tables (Sized length) = 1 + begin_left h tables
left_of h tables (Walking w) = walk_left h tables w

-- the header is this, where it is known, and the positions that were looked at are among those that are counted
abbrev pub IsOf : Header → (ℕ → ℕ) → Stage → Type 0
IsOf h tables Begun = Unit {0}
IsOf h tables (Sized length) = Unit {0}
IsOf h tables (Walking w) = ((work_of w).header ≡ h) × Fits h tables w

-- the header is this, where it is known
abbrev pub HasHead : Header → Stage → Type 0
HasHead h Begun = Unit {0}
HasHead h (Sized length) = Unit {0}
HasHead h (Walking w) = (work_of w).header ≡ h

-- the header of a stage is that of the stage before it, and fewer steps are left
abbrev pub Nears : Stage → Stage → Type 0
Nears stage next = (h : Header) (tables : ℕ → ℕ) → Antitone tables → IsOf h tables next → HasHead h stage × (left_of h tables next < left_of h tables stage)

-- whatever the disk tells, a stage comes nearer to its end
abbrev pub Falls : Stage → Turn Stage Work (Unit {0}) → Type 0
Falls stage turn = MatchTurn turn (λ next. Nears stage next) (λ _. Unit {0}) (λ _ _. Unit {0})

-- ---- on every disk

-- what a stage looks behind is in its table
abbrev pub StageInside : Stage → Type 0
StageInside Begun = Unit {0}
StageInside (Sized length) = Unit {0}
StageInside (Walking w) = IsInside (work_of w).header w

-- so is what the next one does
abbrev pub StaysInside : Stage → Turn Stage Work (Unit {0}) → Type 0
StaysInside stage turn = MatchTurn turn (λ next. StageInside stage → StageInside next) (λ _. Unit {0}) (λ _ _. Unit {0})
