-- Clearing an image away: which image, how far it is, and which refusals may come.
use Rattle.std.specs.Prelude.{◌≡◌, ℕ, ◌+◌, ◌-◌, ◌^◌, ◌≤◌, min}
use Rattle.sd_names.specs.declared.id.Id.{Id}
use Rattle.sd_names.specs.declared.refusal.Refusal.{Refusal}
use Rattle.sd_names.specs.declared.refusal.Refusal.TheVariants.{ImageHeld}
use Rattle.sd_names.specs.declared.turn.Turn.{Turn}
use Rattle.shared_disk.specs.Step.{IsDiskRefusal}
use Rattle.lease_area.specs.Hold.{IsGivingRefusal}
use Rattle.lease_area.specs.Noted.{nothing_seen}
use Rattle.lease_area.specs.Scan.{scan_domain, scan_image, seen_by, steps_made}
use Rattle.lease_area.specs.declared.scan.Scan.{Scan}
use Rattle.image_clearing.specs.declared.clearing.ImageClearing.{ImageClearing}
use Rattle.image_clearing.specs.declared.clearing.Stage.{Stage}
use Rattle.image_clearing.specs.declared.clearing.Stage.TheVariants.{Scanning, Removing, Emptying}

abbrev pub ClearTurn : Type 0
ClearTurn = Turn ImageClearing (Unit {0}) (Unit {0})

abbrev pub domain_of : ImageClearing → Id
domain_of c = c.sd

abbrev pub image_of : ImageClearing → Id
image_of c = c.image

abbrev pub stage_of : ImageClearing → Stage
stage_of c = c.stage

-- the clearing of this image, in this stage
pub record IsAt (sd image : Id) (now : Stage) (next : ImageClearing) : Type 0 where
  pub domain : domain_of next ≡ sd
  pub image_is : image_of next ≡ image
  pub now_in : stage_of next ≡ now

-- no sector is read yet
pub record IsScanBegun (sd image : Id) (s : Scan) : Type 0 where
  pub domain : scan_domain s ≡ sd
  pub image_is : scan_image s ≡ image
  pub made : steps_made s ≡ 0
  pub seen : seen_by s ≡ nothing_seen

abbrev pub IsBegun : Id → Id → ImageClearing → Type 0
IsBegun sd image c = (s : Scan) × IsAt sd image (Scanning s) c × IsScanBegun sd image s

-- a step makes one call, but that one which reads sectors makes one at most
abbrev pub CallsMade : Stage → ℕ → ℕ → Type 0
CallsMade (Scanning s) calls calls' = calls' ≤ calls + 1
CallsMade _ calls calls' = calls' ≡ min (calls + 1) (2 ^ 64 - 1)

-- the image's sector may be held by others than its task
abbrev pub MayBeHeld : Refusal → Type 0
MayBeHeld (ImageHeld owner) = Unit {0}
MayBeHeld refusal = IsDiskRefusal refusal

abbrev pub MayRefuse : Stage → Refusal → Type 0
MayRefuse (Scanning s) refusal = MayBeHeld refusal
MayRefuse (Removing slot r m) refusal = IsDiskRefusal refusal
MayRefuse (Emptying slot r) refusal = IsGivingRefusal refusal
