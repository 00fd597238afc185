-- What a host sees of a layer's file, and what one read of it gives.
use Rattle.std.specs.Prelude.{◌≡◌, ◌⊎◌, ℕ, ◌<◌, ◌≤◌, List, [], Some, None, Result, Ok, Err}
use Rattle.std.specs.List.{flat_map, range_with_len}
use Rattle.sd_names.specs.declared.place.Place.{Place}
use Rattle.sd_names.specs.declared.refusal.Refusal.{Refusal}
use Rattle.sd_names.specs.declared.refusal.Refusal.TheVariants.{DiskFault}
use Rattle.shared_disk.specs.Content.{Content, File, seen, without}
use Rattle.shared_disk.specs.Calls.{IsSame}
use Rattle.shared_disk.specs.Refusal.{refusal_of}
use Rattle.shared_disk.specs.declared.disk.DiskAnswer.TheVariants.{NoFile}
use Rattle.image_model.specs.File.{sector_in}

-- The host sees these sectors in the file, and zeros behind them. The file may be longer than so many sectors; no other
-- host has unsynced writes in it.
pub record IsSeen (host : ℕ) (place : Place) (count : ℕ) (sectors : ℕ → List ℕ) (d : Content) : Type 0 where
  pub file : File
  pub there : d.file place ≡ Some file
  pub long : count ≤ file.size
  pub alone : without host file.loose ≡ []
  pub same : (k : ℕ) → k < file.size → seen host file k ≡ sector_in count sectors k

-- a refusal of a read: the disk failed, or the file isn't there
abbrev pub IsReadRefusal : Place → ℕ → Refusal → Content → Type 0
IsReadRefusal place faults refusal d = (refusal ≡ DiskFault faults) ⊎ ((refusal ≡ refusal_of NoFile faults) × (d.file place ≡ None))

-- the read of a sector
abbrev pub ReadsSector : ℕ → Place → ℕ → ℕ → Result (List ℕ) Refusal → Content → Content → Type 0
ReadsSector host place k faults (Ok sector) d e = IsSame d e × ((count : ℕ) (sectors : ℕ → List ℕ) → IsSeen host place count sectors d → sector ≡ sector_in count sectors k)
ReadsSector host place k faults (Err refusal) d e = IsSame d e × IsReadRefusal place faults refusal d

-- the first 65,536 bytes
unfoldable pub head_of : ℕ → (ℕ → List ℕ) → List ℕ
head_of count sectors = flat_map (sector_in count sectors) (range_with_len 0 128)

-- the read of them
abbrev pub ReadsHead : ℕ → Place → ℕ → Result (List ℕ) Refusal → Content → Content → Type 0
ReadsHead host place faults (Ok head) d e =
    IsSame d e × ((count : ℕ) (sectors : ℕ → List ℕ) → IsSeen host place count sectors d → head ≡ head_of count sectors)
ReadsHead host place faults (Err refusal) d e = IsSame d e × IsReadRefusal place faults refusal d
