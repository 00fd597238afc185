-- What the volumes of an image read as, sector by sector.
use Rattle.std.specs.Prelude.{◌≡◌, ℕ, ◌<◌, true, List, [], ◌∷◌, Some, unwrap_or}
use Rattle.sd_names.specs.declared.id.Id.{Id}
use Rattle.shared_disk.specs.Content.{zero_sector}
use Rattle.volume_meta.specs.declared.record.VolumeRecord.{VolumeRecord}
use Rattle.chain_model.specs.Folder.{Volumes}
use Rattle.chain_model.specs.Records.{Records, is_legal}
use Rattle.chain_model.specs.Chain.{IsBelow, path_of}
use Rattle.chain_model.specs.Own.{own, sectors_of}

-- a sector as the first of some volumes holds it that holds it, else zeros
abbrev pub first_of : Records → Volumes → List Id → ℕ → List ℕ
first_of r x [] k = zero_sector
first_of r x (v ∷ vs) k = unwrap_or (own r x v k) (first_of r x vs k)

-- a sector as a volume reads that stands above these
abbrev pub flat : Records → Volumes → Id → List Id → ℕ → List ℕ
flat r x v vs k = first_of r x (path_of r v vs) k

-- a sector that a volume has
abbrev pub IsSectorOf : Records → Id → ℕ → Type 0
IsSectorOf r v k = (x : VolumeRecord) × (r v ≡ Some x) × (k < sectors_of x)

-- each LEGAL volume reads as these
abbrev pub IsFlat : Records → (Id → ℕ → List ℕ) → Volumes → Type 0
IsFlat r flats x = (u : Id) (us : List Id) → is_legal r u ≡ true → IsBelow r u us → (k : ℕ) → IsSectorOf r u k → flat r x u us k ≡ flats u k
