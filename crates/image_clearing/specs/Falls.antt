-- Fewer steps are left behind each step of a clearing, on every disk.
use Rattle.std.specs.Prelude.{◌≡◌, ℕ, ◌+◌, ◌<◌, None}
use Rattle.sd_names.specs.Turn.{MatchTurn}
use Rattle.sd_names.specs.declared.id.Id.{Id}
use Rattle.lease_area.specs.Scan.{scan_left}
use Rattle.image_removing.specs.Falls.{Costs, IsPaid, MeetsAt, left_of as removal_left, steps_left}
use Rattle.image_removing.specs.Removing.{stage_of as removal_stage}
use Rattle.image_removing.specs.declared.removing.Pass.TheVariants.{Earlier}
use Rattle.image_removing.specs.declared.removing.Stage.TheVariants.{Listing}
use Rattle.image_clearing.specs.Clearing.{ClearTurn, domain_of, image_of, stage_of}
use Rattle.image_clearing.specs.declared.clearing.ImageClearing.{ImageClearing}
use Rattle.image_clearing.specs.declared.clearing.Stage.{Stage}
use Rattle.image_clearing.specs.declared.clearing.Stage.TheVariants.{Scanning, Removing, Emptying}

-- How many more steps a clearing takes at the most, by what the names cost that a removal lists: 8 read the sectors, and 1
-- empties the image's.
abbrev pub left_of : Costs → Stage → ℕ
left_of cost (Scanning s) = scan_left s + removal_left cost (Listing Earlier None) + 1
left_of cost (Removing slot r m) = steps_left cost m + 1
left_of cost (Emptying slot r) = 1

-- a name that the removal lists is paid for
abbrev pub IsPaidFor : Costs → Stage → Stage → Type 0
IsPaidFor cost (Removing slot r m) (Removing next s n) = MeetsAt (IsPaid cost) (removal_stage m) (removal_stage n)
IsPaidFor cost _ next = Unit {0}

pub record IsNearer (cost : Costs) (s : Stage) (sd image : Id) (next : ImageClearing) : Type 0 where
  pub domain : domain_of next ≡ sd
  pub image_is : image_of next ≡ image
  pub falls : IsPaidFor cost s (stage_of next) → left_of cost (stage_of next) < left_of cost s

abbrev pub NearsIn : Stage → Id → Id → ClearTurn → Type 0
NearsIn s sd image turn = (cost : Costs) → MatchTurn turn (IsNearer cost s sd image) (λ _. 0 < left_of cost s) (λ _ _. 0 < left_of cost s)

abbrev pub Nears : ImageClearing → ClearTurn → Type 0
Nears c turn = NearsIn (stage_of c) (domain_of c) (image_of c) turn
