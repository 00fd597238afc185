-- Creating an image: which one, and how far it is.
use Rattle.std.specs.Prelude.{◌≡◌, ℕ, ◌+◌, ◌-◌, ◌^◌, ◌≤◌, min}
use Rattle.sd_names.specs.declared.id.Id.{Id}
use Rattle.sd_names.specs.declared.refusal.Refusal.{Refusal}
use Rattle.sd_names.specs.declared.refusal.Refusal.TheVariants.{ImageExists, LeaseAreaFull}
use Rattle.sd_names.specs.declared.turn.Turn.{Turn}
use Rattle.shared_disk.specs.Step.{IsDiskRefusal}
use Rattle.lease_area.specs.Hold.{IsGivingRefusal, IsImageRefusal, record_of}
use Rattle.lease_area.specs.Scan.{scan_left}
use Rattle.task_files.specs.Write.{write_left}
use Rattle.image_making.specs.Making.{image_of as made_in, making_left, stage_of as making_stage}
use Rattle.image_making.specs.declared.making.NewImage.{NewImage}
use Rattle.image_making.specs.declared.making.ImageMaking.{ImageMaking}
use Rattle.image_making.specs.declared.making.Stage.TheVariants as making
use Rattle.image_creating.specs.ImageTask.{IsTaskOf}
use Rattle.image_creating.specs.declared.creating.CreateImage.{CreateImage}
use Rattle.image_creating.specs.declared.creating.Stage.{Stage}
use Rattle.image_creating.specs.declared.creating.Stage.TheVariants.{Asking, Scanning, Opening, Taking, Making, Ending, Releasing}
use Rattle.image_creating.specs.declared.image_task.ImageTask.{ImageTask}

abbrev pub CreateTurn : Type 0
CreateTurn = Turn CreateImage (Unit {0}) (Unit {0})

abbrev pub under_of : CreateImage → ImageTask
under_of c = c.under

abbrev pub stage_of : CreateImage → Stage
stage_of c = c.stage

-- the making of the image's files has begun
pub record IsMakingBegun (x : NewImage) (m : ImageMaking) : Type 0 where
  pub image : made_in m ≡ x
  pub stage : making_stage m ≡ making.Begun

-- a creation that has begun
pub record IsBegun (master task : Id) (x : NewImage) (c : CreateImage) : Type 0 where
  pub under : IsTaskOf master task x.says.domain x.says.image (under_of c)
  pub asks : (m : ImageMaking) × (stage_of c ≡ Asking m) × IsMakingBegun x m

-- a lease that it has is this host's
abbrev pub IsHeldBy : Stage → ℕ → Type 0
IsHeldBy (Making m lease) host = (record_of lease).owner ≡ host
IsHeldBy (Ending lease w) host = (record_of lease).owner ≡ host
IsHeldBy (Releasing lease) host = (record_of lease).owner ≡ host
IsHeldBy _ host = Unit {0}

-- the same creation, by the same host
pub record IsNextOf (t : ImageTask) (host : ℕ) (next : CreateImage) : Type 0 where
  pub under : under_of next ≡ t
  pub held : IsHeldBy (stage_of next) host

abbrev pub IsNext : CreateImage → ℕ → CreateImage → Type 0
IsNext c host next = IsNextOf (under_of c) host next

-- How many more steps a creation takes at the most: 1 asks for the folder, 8 read the sectors, 5 write each of the task's
-- texts, 1 takes and 1 frees the sector, and 12 make the files.
abbrev pub left_of : Stage → ℕ
left_of (Asking m) = making_left m + 21
left_of (Scanning m s) = scan_left s + making_left m + 12
left_of (Opening m slot w) = write_left w + making_left m + 7
left_of (Taking m slot) = making_left m + 7
left_of (Making m lease) = making_left m + 6
left_of (Ending lease w) = write_left w + 1
left_of (Releasing lease) = 1

abbrev pub creation_left : CreateImage → ℕ
creation_left c = left_of (stage_of c)

-- a step makes one call, but that one which reads sectors makes one at most
abbrev pub CallsMade : Stage → ℕ → ℕ → Type 0
CallsMade (Scanning m s) calls calls' = calls' ≤ calls + 1
CallsMade _ calls calls' = calls' ≡ min (calls + 1) (2 ^ 64 - 1)

-- ---- which refusals may come

-- the image has a folder
abbrev pub MayBeThere : Refusal → Type 0
MayBeThere ImageExists = Unit {0}
MayBeThere refusal = IsDiskRefusal refusal

-- a sector names it, or none is empty
abbrev pub MayBeTaken : Refusal → Type 0
MayBeTaken ImageExists = Unit {0}
MayBeTaken LeaseAreaFull = Unit {0}
MayBeTaken refusal = IsDiskRefusal refusal

abbrev pub MayRefuse : Stage → Refusal → Type 0
MayRefuse (Asking m) refusal = MayBeThere refusal
MayRefuse (Scanning m s) refusal = MayBeTaken refusal
MayRefuse (Taking m slot) refusal = IsImageRefusal refusal
MayRefuse (Releasing lease) refusal = IsGivingRefusal refusal
MayRefuse _ refusal = IsDiskRefusal refusal
