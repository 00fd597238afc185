-- The text beside a volume, whole: its lines in the order in which they are written.
use Rattle.std.specs.Prelude.{ℕ, ◌/◌, ◌≤◌, ◌==◌, Bool, true, false, List, [], ◌++◌, length, codes, decimal}
use Rattle.kv_text.specs.Text.{IsOneLine, line}
use Rattle.sd_names.specs.Key.{key_name}
use Rattle.sd_names.specs.Id.{id_text}
use Rattle.sd_names.specs.declared.fault.Key.{Key}
use Rattle.sd_names.specs.declared.fault.Key.TheVariants as key
use Rattle.sd_names.specs.declared.kinds.AllocKind.{AllocKind}
use Rattle.sd_names.specs.declared.kinds.AllocKind.TheVariants.{Sparse, Preallocated}
use Rattle.sd_names.specs.declared.kinds.Format.{Format}
use Rattle.sd_names.specs.declared.kinds.Format.TheVariants.{Raw, Cow}
use Rattle.sd_names.specs.declared.kinds.Legality.{Legality}
use Rattle.sd_names.specs.declared.kinds.Legality.TheVariants.{Legal, Illegal}
use Rattle.sd_names.specs.declared.kinds.VolType.{VolType}
use Rattle.sd_names.specs.declared.kinds.VolType.TheVariants.{Leaf, Internal}
use Rattle.volume_meta.specs.declared.record.VolumeRecord.{VolumeRecord}

abbrev pub line_of : Key → List ℕ → List ℕ
line_of k value = line (key_name k) value

abbrev pub format_text : Format → List ℕ
format_text Raw = codes "RAW"
format_text Cow = codes "COW"

abbrev pub legality_text : Legality → List ℕ
legality_text Legal = codes "LEGAL"
legality_text Illegal = codes "ILLEGAL"

abbrev pub kind_text : AllocKind → List ℕ
kind_text Sparse = codes "SPARSE"
kind_text Preallocated = codes "PREALLOCATED"

abbrev pub voltype_text : VolType → List ℕ
voltype_text Leaf = codes "LEAF"
voltype_text Internal = codes "INTERNAL"

-- CAP stands in version 5, SIZE and MTIME in any other; MERGED where it is true
abbrev pub cap_line : Bool → ℕ → List ℕ
cap_line true capacity = line_of key.Cap (decimal capacity)
cap_line false capacity = []

abbrev pub merged_line : Bool → List ℕ
merged_line true = line_of key.Merged (codes "TRUE")
merged_line false = []

abbrev pub mtime_line : Bool → List ℕ
mtime_line true = []
mtime_line false = line_of key.Mtime (codes "0")

abbrev pub size_line : Bool → ℕ → List ℕ
size_line true capacity = []
size_line false capacity = line_of key.Size (decimal (capacity / 512))

unfoldable pub first_lines : Bool → VolumeRecord → List ℕ
first_lines five r =
    cap_line five r.capacity
    ++ line_of key.Ctime (decimal r.ctime)
    ++ line_of key.Description r.description
    ++ line_of key.DiskType r.disk_type
    ++ line_of key.Domain (id_text r.domain.0)
    ++ line_of key.Format (format_text r.format)
    ++ line_of key.Gen (decimal r.generation)

unfoldable pub last_lines : Bool → VolumeRecord → List ℕ
last_lines five r =
    line_of key.Image (id_text r.image.0)
    ++ line_of key.Legality (legality_text r.legality)
    ++ merged_line r.merged
    ++ mtime_line five
    ++ line_of key.Puuid (id_text r.parent.0)
    ++ size_line five r.capacity
    ++ line_of key.Alloc (kind_text r.kind)
    ++ line_of key.VolType (voltype_text r.voltype)

-- the whole text, which a line `EOF` closes
unfoldable pub volume_text : ℕ → VolumeRecord → List ℕ
volume_text version r = first_lines (version == 5) r ++ last_lines (version == 5) r ++ codes "EOF\n"

-- a record whose description and disk type may stand in a text: the text then fits 8,192 bytes
pub record HasShortTexts (r : VolumeRecord) : Type 0 where
  pub description : length r.description ≤ 4096
  pub description_line : IsOneLine r.description
  pub disk_type : length r.disk_type ≤ 16
  pub disk_type_line : IsOneLine r.disk_type
