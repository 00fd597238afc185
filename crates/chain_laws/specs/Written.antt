-- What a volume itself holds while a part is laid over it.
use Rattle.std.specs.Prelude.{◌≡◌, ◌≢◌, ◌⊎◌, ℕ, ◌<◌, List, Option, Some, None}
use Rattle.sd_names.specs.declared.id.Id.{Id}
use Rattle.sd_names.specs.declared.place.Name.{Name}
use Rattle.sd_names.specs.declared.place.Name.TheVariants.{Volume}
use Rattle.shared_disk.specs.Content.{File}
use Rattle.shared_disk.specs.Crash.{IsFileOutcome}
use Rattle.volume_meta.specs.declared.record.VolumeRecord.{VolumeRecord}
use Rattle.chain_model.specs.Folder.{Folder, IsFolderOutcome, Volumes, volumes_of}
use Rattle.chain_model.specs.Flat.{IsSectorOf}
use Rattle.chain_model.specs.Own.{own, own_in, sectors_of}
use Rattle.chain_laws.specs.Laid.{IsInPart, Laying, sector_in_part}

-- A sector that the volume itself holds, or doesn't: as before; or, in the part, the new one; or as it read, where the volume
-- didn't hold it. So it is where a cluster gets its place in a layer: it holds its sectors outside the part then, too.
abbrev pub IsHeld : Laying → ℕ → Option (List ℕ) → Option (List ℕ) → Type 0
IsHeld l k old new = (new ≡ old) ⊎ ((IsInPart l.part k × (new ≡ Some (sector_in_part l.part k))) ⊎ ((old ≡ None) × (new ≡ Some (l.reads k))))

-- what the volumes hold, before and now
pub record IsWritten (l : Laying) (x y : Volumes) : Type 0 where
  pub others : (w : Id) → w ≢ l.volume → (k : ℕ) → own l.records y w k ≡ own l.records x w k
  pub held : (k : ℕ) → IsSectorOf l.records l.volume k → IsHeld l k (own l.records x l.volume k) (own l.records y l.volume k)

-- the volume holds the part
abbrev pub HoldsPart : Laying → Volumes → Type 0
HoldsPart l x = (k : ℕ) → IsInPart l.part k → IsSectorOf l.records l.volume k → own l.records x l.volume k ≡ Some (sector_in_part l.part k)

-- each outcome of a folder comes from one that it had before
abbrev pub ComesWritten : Laying → Folder → Folder → Type 0
ComesWritten l F F' = (G' : Folder) → IsFolderOutcome F' G' → (G : Folder) × IsFolderOutcome F G × IsWritten l (volumes_of G) (volumes_of G')

-- so it is of the volume's file
abbrev pub FileWritten : Laying → File → File → Type 0
FileWritten l f f' = (g' : File) → IsFileOutcome f' g' → (g : File) × IsFileOutcome f g
    × ((x : VolumeRecord) → l.records l.volume ≡ Some x → (k : ℕ) → k < sectors_of x → IsHeld l k (own_in x g k) (own_in x g' k))

-- one file of a folder is another
pub record IsChangedAt (v : Id) (f f' : File) (F F' : Folder) : Type 0 where
  pub before : F (Volume v) ≡ Some f
  pub now : F' (Volume v) ≡ Some f'
  pub others : (n : Name) → n ≢ Volume v → F' n ≡ F n
