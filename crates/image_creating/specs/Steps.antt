-- What a step of a creation leaves, where it knows what its stage says.
use Rattle.std.specs.Prelude.{◌≡◌, ◌≢◌, ◌⊎◌, ℕ, true, Some}
use Rattle.sd_names.specs.declared.place.Dir.{Dir}
use Rattle.sd_names.specs.declared.place.Place.{Place}
use Rattle.sd_names.specs.declared.refusal.Refusal.{Refusal}
use Rattle.sd_names.specs.declared.refusal.Refusal.TheVariants.{DiskFault, ImageExists, LeaseAreaFull}
use Rattle.sd_names.specs.declared.turn.Turn.TheVariants.{More, Done, Ended}
use Rattle.shared_disk.specs.Calls.{IsSame}
use Rattle.shared_disk.specs.Changes.{exchanged}
use Rattle.shared_disk.specs.Content.{Content, File}
use Rattle.lease_area.specs.Hold.{leases_of}
use Rattle.lease_area.specs.Sector.{sector_bytes}
use Rattle.lease_area.specs.declared.sector.Sector.{Sector}
use Rattle.lease_area.specs.declared.sector.Sector.TheVariants.{Empty}
use Rattle.image_making.specs.NewImage.{folder_of}
use Rattle.image_making.specs.declared.making.NewImage.{NewImage}
use Rattle.image_creating.specs.Creating.{CreateTurn, stage_of, under_of}
use Rattle.image_creating.specs.ImageTask.{domain_of, free, held, image_of, new_place_of, place_of}
use Rattle.image_creating.specs.Knowing.{Knows}
use Rattle.image_creating.specs.Sectors.{IsFull, IsNamed}
use Rattle.image_creating.specs.Standing.{IsCreated, IsStandingOnEach}
use Rattle.image_creating.specs.declared.creating.CreateImage.{CreateImage}
use Rattle.image_creating.specs.declared.creating.Stage.{Stage}
use Rattle.image_creating.specs.declared.creating.Stage.TheVariants.{Asking, Scanning}
use Rattle.image_creating.specs.declared.image_task.ImageTask.{ImageTask}

-- one sector of the image's domain was exchanged, for the next one
abbrev pub IsExchangedFor : ImageTask → Sector → Sector → Content → Content → Type 0
IsExchangedFor t old new d e =
    (f : File) × (k : ℕ) × (d.file (leases_of (domain_of t)) ≡ Some f) × (f.stable k ≡ sector_bytes old) × (e.file (leases_of (domain_of t)) ≡ Some (exchanged k (sector_bytes new) f))

-- the leases file is as it was, or an empty sector is held for the task, or the one that was is free
abbrev pub IsSectorLeft : ImageTask → ℕ → Content → Content → Type 0
IsSectorLeft t host d e =
    (e.file (leases_of (domain_of t)) ≡ d.file (leases_of (domain_of t)))
    ⊎ (IsExchangedFor t Empty (held t host) d e ⊎ IsExchangedFor t (held t host) (free t host) d e)

-- Nothing has changed but the task's file and the one beside it, a sector, the image's folder and the files in it; and no
-- folder is gone.
pub record IsApart (t : ImageTask) (x : NewImage) (host : ℕ) (d e : Content) : Type 0 where
  pub dirs : (q : Dir) → q ≢ folder_of x → e.dir q ≡ d.dir q
  pub kept : (q : Dir) → d.dir q ≡ true → e.dir q ≡ true
  pub files : (q : Place) → q ≢ place_of t → q ≢ new_place_of t → q ≢ leases_of (domain_of t) → q.dir ≢ folder_of x → e.file q ≡ d.file q
  pub sector : IsSectorLeft t host d e

-- While it asks and reads, nothing changes; from then on the image is absent, being made, or made, on each outcome.
abbrev pub Leaves : Stage → ImageTask → NewImage → ℕ → Content → Content → Type 0
Leaves (Asking m) t x host d e = IsSame d e
Leaves (Scanning m s) t x host d e = IsSame d e
Leaves _ t x host d e = IsStandingOnEach t x host e

-- what a refusal tells; none but these comes, and 120 with the disk's count of faults
abbrev pub IsRefused : Refusal → ImageTask → NewImage → ℕ → Content → Type 0
IsRefused ImageExists t x faults d = (d.dir (folder_of x) ≡ true) ⊎ IsNamed (domain_of t) (image_of t) d
IsRefused LeaseAreaFull t x faults d = IsFull (domain_of t) d
IsRefused refusal t x faults d = refusal ≡ DiskFault faults

-- what a turn tells
abbrev pub After : CreateTurn → ImageTask → NewImage → ℕ → ℕ → Content → Content → Type 0
After (More next) t x host faults d e = Knows next x host e
After (Done _) t x host faults d e = IsCreated t x host e
After (Ended _ refusal) t x host faults d e = IsRefused refusal t x faults d

pub record StepsIn (s : Stage) (t : ImageTask) (x : NewImage) (host faults : ℕ) (turn : CreateTurn) (d e : Content) : Type 0 where
  pub apart : IsApart t x host d e
  pub leaves : Leaves s t x host d e
  pub after : After turn t x host faults d e

abbrev pub CreateSteps : CreateImage → NewImage → ℕ → ℕ → CreateTurn → Content → Content → Type 0
CreateSteps c x host faults turn d e = StepsIn (stage_of c) (under_of c) x host faults turn d e
