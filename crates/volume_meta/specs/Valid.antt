-- Records whose fields are in their ranges.
use Rattle.std.specs.Prelude.{◌≡◌, ℕ, ◌≤◌, ◌<◌, ◌%◌, ◌^◌, Bool, false, length}
use Rattle.kv_text.specs.Text.{IsOneLine}
use Rattle.sd_names.specs.Id.{IsIdBytes}
use Rattle.sd_names.specs.declared.kinds.Legality.{Legality}
use Rattle.sd_names.specs.declared.kinds.Legality.TheVariants.{Legal, Illegal}
use Rattle.volume_meta.specs.declared.record.VolumeRecord.{VolumeRecord}

-- only an illegal volume may be merged
abbrev pub MayBeMerged : Legality → Bool → Type 0
MayBeMerged Legal merged = merged ≡ false
MayBeMerged Illegal merged = Unit {0}

-- a capacity in bytes: a multiple of 512, 512 to 1 TiB
pub record IsCapacity (n : ℕ) : Type 0 where
  pub blocks : n % 512 ≡ 0
  pub least : 512 ≤ n
  pub most : n ≤ 2 ^ 40

-- each field is in its range, and no text has a line feed
pub record IsValid (r : VolumeRecord) : Type 0 where
  pub capacity : IsCapacity r.capacity
  pub ctime : r.ctime < 2 ^ 64
  pub description : length r.description ≤ 4096
  pub description_line : IsOneLine r.description
  pub disk_type : length r.disk_type ≤ 16
  pub disk_type_some : 1 ≤ length r.disk_type
  pub disk_type_line : IsOneLine r.disk_type
  pub domain : IsIdBytes r.domain.0
  pub generation : r.generation ≤ 999
  pub image : IsIdBytes r.image.0
  pub merged : MayBeMerged r.legality r.merged
  pub parent : IsIdBytes r.parent.0
