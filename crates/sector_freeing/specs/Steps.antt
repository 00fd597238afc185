-- What a step of a freeing leaves, where it knows what its stage says.
use Rattle.std.specs.Prelude.{◌≡◌, ◌⊎◌, ℕ, Some}
use Rattle.sd_names.specs.declared.id.Id.{Id}
use Rattle.sd_names.specs.declared.place.Dir.TheVariants as dir
use Rattle.sd_names.specs.declared.place.Name.{Name}
use Rattle.sd_names.specs.declared.refusal.Refusal.TheVariants.{DiskFault}
use Rattle.sd_names.specs.declared.turn.Turn.TheVariants.{More, Done, Ended}
use Rattle.shared_disk.specs.Calls.{IsPut, IsSame, synced}
use Rattle.shared_disk.specs.Content.{Content, File}
use Rattle.shared_disk.specs.NameCalls.{place_in}
use Rattle.lease_area.specs.Hold.{IsMoved}
use Rattle.lease_area.specs.Move.{freed}
use Rattle.lease_area.specs.declared.sector.Sector.TheVariants.{Lease}
use Rattle.sector_freeing.specs.Freeing.{FreeTurn, domain_of, stage_of}
use Rattle.sector_freeing.specs.Knowing.{AreSynced, HasNoneBelow, Knows}
use Rattle.sector_freeing.specs.declared.freeing.SectorFreeing.{SectorFreeing}
use Rattle.sector_freeing.specs.declared.freeing.Stage.{Stage}
use Rattle.sector_freeing.specs.declared.freeing.Stage.TheVariants.{Looking, Listing, Syncing, Freeing}

-- the host synced this file of the image, and nothing else has changed
abbrev pub IsSynced : ℕ → Id → Id → Name → Content → Content → Type 0
IsSynced host sd image n d e =
    (f : File) × (d.file (place_in (dir.Image sd image) n) ≡ Some f) × IsPut d (place_in (dir.Image sd image) n) (Some (synced host f)) e

-- While sectors are read and names are listed nothing changes. A sync changes the file at hand alone, and the exchange the sector
-- at hand: that is free then, with its version and its image, and the host has nothing unsynced in the image's files.
abbrev pub Changes : Stage → ℕ → Id → Content → Content → Type 0
Changes (Looking from) host sd d e = IsSame d e
Changes (Listing slot r after) host sd d e = IsSame d e
Changes (Syncing slot r n) host sd d e = IsSame d e ⊎ IsSynced host sd r.image n d e
Changes (Freeing slot r) host sd d e = IsSame d e ⊎ (IsMoved d sd slot (Lease (freed r)) e × AreSynced host sd r.image e)

-- What a turn tells: at the end no sector of images is held for a task. No refusal but the disk's fault can come.
abbrev pub After : ℕ → Id → ℕ → FreeTurn → Content → Type 0
After host sd faults (More next) e = (domain_of next ≡ sd) × Knows host next e
After host sd faults (Done _) e = HasNoneBelow sd 1024 e
After host sd faults (Ended _ refusal) e = refusal ≡ DiskFault faults

pub record StepsIn (s : Stage) (host : ℕ) (sd : Id) (faults : ℕ) (turn : FreeTurn) (d e : Content) : Type 0 where
  pub changes : Changes s host sd d e
  pub after : After host sd faults turn e

abbrev pub FreesSectors : SectorFreeing → ℕ → ℕ → FreeTurn → Content → Content → Type 0
FreesSectors s host faults turn d e = Knows host s d → StepsIn (stage_of s) host (domain_of s) faults turn d e
