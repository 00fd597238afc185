-- What a host's going down may make of the sectors on the medium.
use Rattle.std.specs.Prelude.{◌≡◌, ◌⊎◌, ℕ, ◌<◌, List, Option, Some}
use Rattle.shared_disk.specs.Content.{own_of}
use Rattle.shared_disk.specs.Crash.{IsSector}
use Rattle.memory_disk.specs.Sectors.{sector_at}
use Rattle.memory_disk.specs.Store.{loose_of, slot, slot_size}
use Rattle.memory_disk.specs.declared.entry.FileEntry.{FileEntry}
use Rattle.memory_disk.specs.declared.entry.Write.{Write}
use Rattle.memory_disk.specs.declared.sector_map.Sectors.{Sectors}

-- the host has made the file of this number and not synced it
abbrev pub IsFreshSlot : ℕ → ℕ → List (Option FileEntry) → Type 0
IsFreshSlot host n slots = (f : FileEntry) × (slot n slots ≡ Some f) × (f.fresh ≡ Some host)

-- bytes that a sector within its file may have: the host's last write of it, or any in a file that it has made
-- and not synced
pub record IsPicked (host : ℕ) (slots : List (Option FileEntry)) (log : List Write) (n k : ℕ) (bytes : List ℕ) : Type 0 where
  pub within : k < slot_size (slot n slots)
  pub cases : (own_of host k (loose_of n log) ≡ Some bytes) ⊎ (IsFreshSlot host n slots × IsSector bytes)

-- each sector is as it was, or one of these
abbrev pub IsSettling : ℕ → List (Option FileEntry) → List Write → Sectors → Sectors → Type 0
IsSettling host slots log before after =
    (n k : ℕ) → (sector_at after 0 n k ≡ sector_at before 0 n k) ⊎ ((bytes : List ℕ) × (sector_at after 0 n k ≡ Some bytes) × IsPicked host slots log n k bytes)
