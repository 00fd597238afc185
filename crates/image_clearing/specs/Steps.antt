-- What a step of a clearing leaves, where it knows what its stage says.
use Rattle.std.specs.Prelude.{◌≡◌, ◌≢◌, ◌⊎◌, ℕ, None}
use Rattle.sd_names.specs.declared.id.Id.{Id}
use Rattle.sd_names.specs.declared.place.Dir.{Dir}
use Rattle.sd_names.specs.declared.place.Dir.TheVariants as dir
use Rattle.sd_names.specs.declared.place.Name.{Name}
use Rattle.sd_names.specs.declared.place.Place.{Place}
use Rattle.sd_names.specs.declared.refusal.Refusal.TheVariants.{DiskFault}
use Rattle.sd_names.specs.declared.turn.Turn.TheVariants.{More, Done, Ended}
use Rattle.shared_disk.specs.Calls.{IsSame}
use Rattle.shared_disk.specs.Content.{Content}
use Rattle.shared_disk.specs.NameCalls.{place_in}
use Rattle.lease_area.specs.Hold.{IsMoved, leases_of}
use Rattle.lease_area.specs.declared.sector.Sector.TheVariants.{Empty}
use Rattle.image_creating.specs.Sectors.{IsUnnamed}
use Rattle.image_clearing.specs.Clearing.{ClearTurn, domain_of, image_of, stage_of}
use Rattle.image_clearing.specs.Knowing.{Knows}
use Rattle.image_clearing.specs.Standing.{IsCleared, IsLeftOnEach}
use Rattle.image_clearing.specs.declared.clearing.ImageClearing.{ImageClearing}
use Rattle.image_clearing.specs.declared.clearing.Stage.{Stage}
use Rattle.image_clearing.specs.declared.clearing.Stage.TheVariants.{Scanning, Removing, Emptying}

abbrev pub own_place : Id → Id → Name → Place
own_place sd image n = place_in (dir.Image sd image) n

abbrev pub removed_place : Id → Id → Name → Place
removed_place sd image n = place_in (dir.Removed sd image) n

-- Nothing has changed but the image's two folders, the files in them and the leases file. A file of the image's own folder is
-- as it was or gone; one of the removed folder is as it was, gone, or what stood in the own one.
pub record IsApart (sd image : Id) (d e : Content) : Type 0 where
  pub dirs : (q : Dir) → q ≢ dir.Image sd image → q ≢ dir.Removed sd image → e.dir q ≡ d.dir q
  pub files : (q : Place) → q.dir ≢ dir.Image sd image → q.dir ≢ dir.Removed sd image → q ≢ leases_of sd → e.file q ≡ d.file q
  pub own : (n : Name) → (e.file (own_place sd image n) ≡ d.file (own_place sd image n)) ⊎ (e.file (own_place sd image n) ≡ None)
  pub removed : (n : Name) → (e.file (removed_place sd image n) ≡ d.file (removed_place sd image n))
      ⊎ ((e.file (removed_place sd image n) ≡ None) ⊎ (e.file (removed_place sd image n) ≡ d.file (own_place sd image n)))

-- While sectors are read nothing changes, and while files go no sector does. The last step empties the image's sector, or changes
-- nothing.
abbrev pub Changes : Stage → Id → Content → Content → Type 0
Changes (Scanning s) sd d e = IsSame d e
Changes (Removing slot r m) sd d e = e.file (leases_of sd) ≡ d.file (leases_of sd)
Changes (Emptying slot r) sd d e = IsSame d e ⊎ IsMoved d sd slot Empty e

-- once its sector is found, the image is under it or gone with the sector empty, on each outcome
abbrev pub Leaves : Stage → Id → Id → Content → Type 0
Leaves (Scanning s) sd image e = Unit {0}
Leaves (Removing slot r m) sd image e = IsLeftOnEach sd image slot r e
Leaves (Emptying slot r) sd image e = IsLeftOnEach sd image slot r e

-- at its end no sector named the image, or this one did, which is empty now, and the image is gone
abbrev pub IsClear : Stage → Id → Id → Content → Content → Type 0
IsClear (Scanning s) sd image d e = IsUnnamed sd image e
IsClear (Removing slot r m) sd image d e = ⊥
IsClear (Emptying slot r) sd image d e = IsMoved d sd slot Empty e × IsCleared sd image slot e

-- what a turn tells; no refusal but the disk's fault can come
abbrev pub After : ClearTurn → Stage → Id → Id → ℕ → Content → Content → Type 0
After (More next) s sd image faults d e = Knows next e
After (Done _) s sd image faults d e = IsClear s sd image d e
After (Ended _ refusal) s sd image faults d e = refusal ≡ DiskFault faults

pub record StepsIn (s : Stage) (sd image : Id) (faults : ℕ) (turn : ClearTurn) (d e : Content) : Type 0 where
  pub apart : IsApart sd image d e
  pub changes : Changes s sd d e
  pub leaves : Leaves s sd image e
  pub after : After turn s sd image faults d e

abbrev pub ClearSteps : ImageClearing → ℕ → ClearTurn → Content → Content → Type 0
ClearSteps c faults turn d e = StepsIn (stage_of c) (domain_of c) (image_of c) faults turn d e
