-- Deleting an image: which one, and how far it is.
use Rattle.std.specs.Prelude.{◌≡◌, ℕ, ◌+◌, ◌-◌, ◌^◌, ◌≤◌, min}
use Rattle.sd_names.specs.Turn.{MatchTurn}
use Rattle.sd_names.specs.declared.id.Id.{Id}
use Rattle.sd_names.specs.declared.refusal.Refusal.{Refusal}
use Rattle.sd_names.specs.declared.refusal.Refusal.TheVariants.{NoImage}
use Rattle.sd_names.specs.declared.turn.Turn.{Turn}
use Rattle.shared_disk.specs.Step.{IsDiskRefusal}
use Rattle.lease_area.specs.Hold.{IsGivingRefusal, IsImageRefusal, record_of}
use Rattle.lease_area.specs.Noted.{nothing_seen}
use Rattle.lease_area.specs.Scan.{scan_domain, scan_image, seen_by, steps_made}
use Rattle.lease_area.specs.declared.scan.Scan.{Scan}
use Rattle.image_deleting.specs.RemovalTask.{IsTaskOf}
use Rattle.image_deleting.specs.declared.deleting.DeleteImage.{DeleteImage}
use Rattle.image_deleting.specs.declared.deleting.Stage.{Stage}
use Rattle.image_deleting.specs.declared.deleting.Stage.TheVariants.{Scanning, Taking, Opening, Removing, Clearing}
use Rattle.image_deleting.specs.declared.removal_task.RemovalTask.{RemovalTask}

abbrev pub DeleteTurn : Type 0
DeleteTurn = Turn DeleteImage (Unit {0}) (Unit {0})

abbrev pub under_of : DeleteImage → RemovalTask
under_of c = c.under

abbrev pub stage_of : DeleteImage → Stage
stage_of c = c.stage

-- a scan for the image that has begun
pub record IsScanBegun (sd image : Id) (s : Scan) : Type 0 where
  pub domain : scan_domain s ≡ sd
  pub image_is : scan_image s ≡ image
  pub made : steps_made s ≡ 0
  pub seen : seen_by s ≡ nothing_seen

-- a deletion that has begun
pub record IsBegun (master task sd image : Id) (c : DeleteImage) : Type 0 where
  pub under : IsTaskOf master task sd image (under_of c)
  pub scans : (s : Scan) × (stage_of c ≡ Scanning s) × IsScanBegun sd image s

-- a lease that it has is this host's
abbrev pub IsHeldBy : Stage → ℕ → Type 0
IsHeldBy (Opening lease w) host = (record_of lease).owner ≡ host
IsHeldBy (Removing lease r) host = (record_of lease).owner ≡ host
IsHeldBy (Clearing lease) host = (record_of lease).owner ≡ host
IsHeldBy _ host = Unit {0}

-- the same deletion, by the same host
pub record IsNextOf (t : RemovalTask) (host : ℕ) (next : DeleteImage) : Type 0 where
  pub under : under_of next ≡ t
  pub held : IsHeldBy (stage_of next) host

abbrev pub Keeps : RemovalTask → ℕ → DeleteTurn → Type 0
Keeps t host turn = MatchTurn turn (λ next. IsNextOf t host next) (λ _. Unit {0}) (λ _ _. Unit {0})

-- a step makes one call, but that one which reads sectors makes one at most
abbrev pub CallsMade : Stage → ℕ → ℕ → Type 0
CallsMade (Scanning s) calls calls' = calls' ≤ calls + 1
CallsMade _ calls calls' = calls' ≡ min (calls + 1) (2 ^ 64 - 1)

-- ---- which refusals may come

-- no sector names the image
abbrev pub MayBeMissing : Refusal → Type 0
MayBeMissing NoImage = Unit {0}
MayBeMissing refusal = IsDiskRefusal refusal

abbrev pub MayRefuse : Stage → Refusal → Type 0
MayRefuse (Scanning s) refusal = MayBeMissing refusal
MayRefuse (Taking slot found) refusal = IsImageRefusal refusal
MayRefuse (Clearing lease) refusal = IsGivingRefusal refusal
MayRefuse _ refusal = IsDiskRefusal refusal
