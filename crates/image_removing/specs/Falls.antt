-- The names that a removal lists rise, and fewer steps are left behind each step, on every disk.
use Rattle.std.specs.Prelude.{◌≡◌, ℕ, ◌+◌, ◌<◌, ◌≤◌, Option, Some, None}
use Rattle.sd_names.specs.Turn.{MatchTurn}
use Rattle.sd_names.specs.declared.place.Name.{Name}
use Rattle.shared_disk.specs.NameCalls.{IsNameAbove}
use Rattle.image_removing.specs.Removing.{RemovalTurn}
use Rattle.image_removing.specs.declared.removing.ImageRemoving.{ImageRemoving}
use Rattle.image_removing.specs.declared.removing.Pass.{Pass}
use Rattle.image_removing.specs.declared.removing.Pass.TheVariants.{Earlier, Moved}
use Rattle.image_removing.specs.declared.removing.Stage.{Stage}
use Rattle.image_removing.specs.declared.removing.Stage.TheVariants.{Listing, Removing, Ending, Moving}

-- what the names above one cost, in each pass
abbrev pub Costs : Type 0
Costs = Pass → Option Name → ℕ

-- the steps that are left once the removed folder is gone: the move, and the second pass
abbrev pub left_behind : Costs → Pass → ℕ
left_behind cost Earlier = cost Moved None + 3
left_behind cost Moved = 0

-- the steps that are left: two for each name, its listing and its removal; then one listing more, and the folder's removal
abbrev pub left_of : Costs → Stage → ℕ
left_of cost (Listing pass after) = cost pass after + 2 + left_behind cost pass
left_of cost (Removing pass n) = cost pass (Some n) + 3 + left_behind cost pass
left_of cost (Ending pass) = 1 + left_behind cost pass
left_of cost Moving = cost Moved None + 3

abbrev pub steps_left : Costs → ImageRemoving → ℕ
steps_left cost r = left_of cost r.stage

-- where a step lists a name, this holds of the pass, of the name before it and of that one
abbrev pub MeetsAt : (Pass → Option Name → Name → Type 0) → Stage → Stage → Type 0
MeetsAt R (Listing pass before) (Removing next n) = R pass before n
MeetsAt R _ next = Unit {0}

abbrev pub MeetsIn : (Pass → Option Name → Name → Type 0) → Stage → RemovalTurn → Type 0
MeetsIn R s turn = MatchTurn turn (λ next. MeetsAt R s next.stage) (λ _. Unit {0}) (λ _ _. Unit {0})

abbrev pub Meets : (Pass → Option Name → Name → Type 0) → ImageRemoving → RemovalTurn → Type 0
Meets R r turn = MeetsIn R r.stage turn

-- the name that is listed is above the one before it
abbrev pub IsRise : Pass → Option Name → Name → Type 0
IsRise pass before n = IsNameAbove before n

-- what the names above it cost, and its own two steps, the names above the one before it cost too
abbrev pub IsPaid : Costs → Pass → Option Name → Name → Type 0
IsPaid cost pass before n = cost pass (Some n) + 2 ≤ cost pass before

-- It is of the same image, and fewer steps are left where the name that was listed is paid for.
pub record IsNearer (cost : Costs) (r : ImageRemoving) (s : Stage) (next : ImageRemoving) : Type 0 where
  pub domain : next.sd ≡ r.sd
  pub image_is : next.image ≡ r.image
  pub falls : MeetsAt (IsPaid cost) s next.stage → steps_left cost next < left_of cost s

abbrev pub NearsIn : ImageRemoving → Stage → RemovalTurn → Type 0
NearsIn r s turn = (cost : Costs) → MatchTurn turn (IsNearer cost r s) (λ _. 0 < left_of cost s) (λ _ _. 0 < left_of cost s)

abbrev pub Nears : ImageRemoving → RemovalTurn → Type 0
Nears r turn = NearsIn r r.stage turn
