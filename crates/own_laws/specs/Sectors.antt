-- The sectors that the volume of a layer itself holds, by what stands in the layer's file.
use Rattle.std.specs.Prelude.{◌≡◌, ◌⊎◌, ℕ, ◌+◌, ◌-◌, ◌*◌, ◌/◌, ◌%◌, ◌^◌, ◌<◌, ◌≤◌, List, Some, Ok}
use Rattle.sd_names.specs.declared.kinds.Format.TheVariants.{Cow}
use Rattle.shared_disk.specs.Calls.{sectors_in}
use Rattle.shared_disk.specs.Content.{File, sector_of}
use Rattle.shared_disk.specs.WellFormed.{IsWellFormedFile}
use Rattle.qcow_format.specs.declared.header.Header.{Header}
use Rattle.volume_meta.specs.declared.record.VolumeRecord.{VolumeRecord}
use Rattle.chain_model.specs.Own.{header_in, own_in}

-- the file of a volume's layer, which has this header
pub record IsLayerOf (x : VolumeRecord) (h : Header) (f : File) : Type 0 where
  pub cow : x.format ≡ Cow
  pub header : header_in x f ≡ Ok h
  pub well : IsWellFormedFile f

-- which cluster of the virtual disk a sector is in, and where in it, in bytes
abbrev pub cluster_of : Header → ℕ → ℕ
cluster_of h k = 512 * k / 2 ^ h.cluster_bits

abbrev pub offset_of : Header → ℕ → ℕ
offset_of h k = 512 * k % 2 ^ h.cluster_bits

-- the sector of the file in which a sector stands whose cluster is data at a place
abbrev pub sector_at : Header → ℕ → ℕ → ℕ
sector_at h place k = (place + offset_of h k) / 512

-- the volume holds each sector alike in two files
abbrev pub HoldAlike : VolumeRecord → File → File → Type 0
HoldAlike x f g = (k : ℕ) → own_in x g k ≡ own_in x f k

-- The sector of the virtual disk that stands in a sector of the file, which lies in the cluster at a place, that of cluster c
-- of the virtual disk.
abbrev pub sector_behind : Header → ℕ → ℕ → ℕ → ℕ
sector_behind h c place at = (c * 2 ^ h.cluster_bits + (512 * at - place)) / 512

-- A piece was written from the sector `first` of the virtual disk on, wholly or in part: each sector is held as before, or is
-- one of the piece's.
abbrev pub HoldOver : VolumeRecord → ℕ → List ℕ → File → File → Type 0
HoldOver x first bytes f g = (k : ℕ) → (own_in x g k ≡ own_in x f k) ⊎ ((first ≤ k) × (k < first + sectors_in bytes) × (own_in x g k ≡ Some (sector_of bytes (k - first))))
