-- What is asked of each change of a layer's file while a part is laid over its volume.
use Rattle.std.specs.Prelude.{◌≡◌, ◌⊎◌, ℕ, ◌+◌, ◌%◌, ◌<◌, Bool, true, List, Option, Some}
use Rattle.shared_disk.specs.Calls.{sectors_in}
use Rattle.shared_disk.specs.Content.{File, sector_of}
use Rattle.shared_disk.specs.Crash.{IsFileOutcome, OnEach}
use Rattle.qcow_format.specs.declared.header.Header.{Header}
use Rattle.volume_meta.specs.declared.record.VolumeRecord.{VolumeRecord}
use Rattle.image_model.specs.File.{sector_in}
use Rattle.chain_model.specs.Own.{own_in, sectors_of}
use Rattle.own_laws.specs.Sectors.{HoldAlike, IsLayerOf, cluster_of, sector_at}
use Rattle.chain_laws.specs.Laid.{IsInPart, Laying, Part, sector_in_part}

-- on each outcome it is the file of the volume's layer, which has this header
abbrev pub AreLayers : VolumeRecord → Header → File → Type 0
AreLayers x h f = OnEach f (IsLayerOf x h)

-- each outcome of the second file comes from one of the first that holds the same sectors
abbrev pub ComeAlike : VolumeRecord → File → File → Type 0
ComeAlike x f f' = (g' : File) → IsFileOutcome f' g' → (g : File) × IsFileOutcome f g × HoldAlike x g g'

-- a piece of the part, by the sector of the virtual disk from which on it stands
pub record IsPieceAt (p : Part) (first : ℕ) (bytes : List ℕ) : Type 0 where
  pub inside : (j : ℕ) → j < sectors_in bytes → IsInPart p (first + j)
  pub same : (j : ℕ) → j < sectors_in bytes → sector_of bytes j ≡ sector_in_part p (first + j)

-- What stands for a sector that the volume itself holds so or doesn't: the part's; or past the part what it read as, which
-- is what it holds where it holds it.
abbrev pub StandsFor : Laying → ℕ → Option (List ℕ) → List ℕ → Type 0
StandsFor l k held there =
    (IsInPart l.part k × (there ≡ sector_in_part l.part k))
    ⊎ ((there ≡ l.reads k) × ((bytes : List ℕ) → held ≡ Some bytes → bytes ≡ l.reads k))

-- so it is at the places that clusters are to get, which begin sectors
pub record StandAtPlaces (l : Laying) (x : VolumeRecord) (h : Header) (to : ℕ → Option ℕ) (f : File) : Type 0 where
  pub begins : (c place : ℕ) → to c ≡ Some place → place % 512 ≡ 0
  pub there : (k place : ℕ) → k < sectors_of x → to (cluster_of h k) ≡ Some place → StandsFor l k (own_in x f k) (sector_in f.size f.stable (sector_at h place k))

-- the volume holds the part in these of its sectors
abbrev pub HoldsIn : Laying → VolumeRecord → (ℕ → Bool) → File → Type 0
HoldsIn l x among f = (k : ℕ) → among k ≡ true → IsInPart l.part k → k < sectors_of x → own_in x f k ≡ Some (sector_in_part l.part k)
