-- A part that is laid over a volume of an image, and what its volumes read as then.
use Rattle.std.specs.Prelude.{◌≡◌, ◌≢◌, ◌⊎◌, ℕ, ◌+◌, ◌-◌, ◌<◌, ◌≤◌, true, List}
use Rattle.sd_names.specs.declared.id.Id.{Id}
use Rattle.shared_disk.specs.Calls.{sectors_in}
use Rattle.shared_disk.specs.Content.{sector_of}
use Rattle.chain_model.specs.Folder.{Volumes}
use Rattle.chain_model.specs.Records.{Records, is_legal}
use Rattle.chain_model.specs.Chain.{IsBelow}
use Rattle.chain_model.specs.Covered.{IsCovered}
use Rattle.chain_model.specs.Flat.{IsSectorOf, flat}

-- whole sectors, from the sector `at` of a volume on
pub record Part : Type 0 where
  pub at : ℕ
  pub bytes : List ℕ

abbrev pub IsInPart : Part → ℕ → Type 0
IsInPart p k = (p.at ≤ k) × (k < p.at + sectors_in p.bytes)

-- what a sector of the part becomes
abbrev pub sector_in_part : Part → ℕ → List ℕ
sector_in_part p k = sector_of p.bytes (k - p.at)

-- A part is laid over a volume, which stands above these and reads as these sectors.
pub record Laying : Type 0 where
  pub records : Records
  pub volume : Id
  pub below : List Id
  pub reads : ℕ → List ℕ
  pub part : Part

-- each sector of the volume reads as it is said
abbrev pub Reads : Laying → (ℕ → List ℕ) → Volumes → Type 0
Reads l reads x = (k : ℕ) → IsSectorOf l.records l.volume k → flat l.records x l.volume l.below k ≡ reads k

-- no other LEGAL volume reads a sector of the part through this volume
abbrev pub IsPartCovered : Laying → Volumes → Type 0
IsPartCovered l x = (k : ℕ) → IsInPart l.part k → IsCovered l.records l.volume k x

-- these sectors, with the part laid over them
pub record IsLaidOver (p : Part) (old new : ℕ → List ℕ) : Type 0 where
  pub inside : (k : ℕ) → IsInPart p k → new k ≡ sector_in_part p k
  pub outside : (k : ℕ) → (IsInPart p k → ⊥) → new k ≡ old k

-- the flat lists of all volumes, with the part laid over that of this volume
pub record AreLaid (l : Laying) (old new : Id → ℕ → List ℕ) : Type 0 where
  pub here : IsLaidOver l.part (old l.volume) (new l.volume)
  pub others : (u : Id) → u ≢ l.volume → new u ≡ old u

-- Each LEGAL volume reads as it did, but that each sector of the part may be old or new in this volume.
abbrev pub AreMixed : Laying → (Id → ℕ → List ℕ) → Volumes → Type 0
AreMixed l flats x = (u : Id) (us : List Id) → is_legal l.records u ≡ true → IsBelow l.records u us → (k : ℕ) → IsSectorOf l.records u k
    → (flat l.records x u us k ≡ flats u k) ⊎ ((u ≡ l.volume) × IsInPart l.part k × (flat l.records x u us k ≡ sector_in_part l.part k))
