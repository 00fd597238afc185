-- The call of each step, by its stage, whatever stands in the folder: some answer that fits the call, and the turn that follows.
use Rattle.std.specs.Prelude.{ℕ, Result}
use Rattle.sd_names.specs.declared.id.Id.{Id}
use Rattle.sd_names.specs.declared.refusal.Refusal.{Refusal}
use Rattle.shared_disk.specs.Content.{Content}
use Rattle.lease_area.specs.Hold.{ByOneExchange, giving_answer}
use Rattle.lease_area.specs.declared.sector.LeaseRecord.{LeaseRecord}
use Rattle.lease_area.specs.declared.sector.Sector.TheVariants.{Empty, Lease}
use Rattle.image_removing.specs.Steps.{CallOf as RemovalCall}
use Rattle.image_removing.specs.Removing.{RemovalTurn}
use Rattle.image_removing.specs.declared.removing.ImageRemoving.{ImageRemoving}
use Rattle.image_clearing.specs.Clearing.{ClearTurn, domain_of, image_of, stage_of}
use Rattle.image_clearing.specs.Inner.{EmptiedBy, IsRemovedBy, ScansOn}
use Rattle.image_clearing.specs.declared.clearing.ImageClearing.{ImageClearing}
use Rattle.image_clearing.specs.declared.clearing.Stage.{Stage}
use Rattle.image_clearing.specs.declared.clearing.Stage.TheVariants.{Scanning, Removing, Emptying}

-- the image's files go, by one call of its removal
abbrev pub Removes : Id → Id → ℕ → LeaseRecord → ImageRemoving → ℕ → ClearTurn → Content → Content → Type 0
Removes sd image slot r m faults turn d e = (step : RemovalTurn) × RemovalCall m faults step d e × IsRemovedBy sd image slot r step turn

-- the sector is emptied, by one exchange of the lease that was read
abbrev pub Empties : Id → ℕ → LeaseRecord → ℕ → ℕ → ClearTurn → Content → Content → Type 0
Empties sd slot r host faults turn d e =
    (result : Result (Unit {0}) Refusal) × ByOneExchange host sd slot (Lease r) Empty (giving_answer faults) result d e × EmptiedBy result turn

abbrev pub CallIn : Stage → Id → Id → ℕ → ℕ → ClearTurn → Content → Content → Type 0
CallIn (Scanning s) sd image host faults turn d e = ScansOn sd image s host faults turn d e
CallIn (Removing slot r m) sd image host faults turn d e = Removes sd image slot r m faults turn d e
CallIn (Emptying slot r) sd image host faults turn d e = Empties sd slot r host faults turn d e

abbrev pub CallOf : ImageClearing → ℕ → ℕ → ClearTurn → Content → Content → Type 0
CallOf c host faults turn d e = CallIn (stage_of c) (domain_of c) (image_of c) host faults turn d e
