-- A header as it is written (qcow2 specification, "Header").
use Rattle.std.specs.Prelude.{◌≡◌, ℕ, ◌+◌, ◌%◌, ◌^◌, ◌<◌, ◌≤◌, ◌==◌, if◌then◌else◌, IfSome, List, [], ◌∷◌, ◌++◌, codes, replicate, Option, Some, None, true}
use Rattle.std.specs.List.{AllByRecursion}
use Rattle.sd_names.specs.declared.kinds.Format.{Format}
use Rattle.sd_names.specs.declared.kinds.Format.TheVariants.{Raw, Cow}
use Rattle.qcow_format.specs.Numbers.{backing_format}
use Rattle.qcow_format.specs.declared.header.Header.{Header}
use Rattle.qcow_format.specs.Bytes.{put, bytes_of}
use Rattle.qcow_format.specs.Header.{field_fault, has_aligned_tables, name_of, mapped}

-- a field: where it stands, how many bytes it has, and the number in them
pub record Field : Type 0 where
  pub at : ℕ
  pub width : ℕ
  pub value : ℕ

abbrev pub field : ℕ → ℕ → ℕ → Field
field at width value = record { at = at; width = width; value = value }

-- the fields that both versions have
abbrev pub version_2_table : Header → List Field
version_2_table h =
    field 0 4 h.magic
    ∷ field 4 4 h.version
    ∷ field 8 8 h.backing_file_offset
    ∷ field 16 4 h.backing_file_size
    ∷ field 20 4 h.cluster_bits
    ∷ field 24 8 h.size
    ∷ field 32 4 h.crypt_method
    ∷ field 36 4 h.l1_size
    ∷ field 40 8 h.l1_table_offset
    ∷ field 48 8 h.refcount_table_offset
    ∷ field 56 4 h.refcount_table_clusters
    ∷ field 60 4 h.nb_snapshots
    ∷ field 64 8 h.snapshots_offset
    ∷ []

-- those that version 3 adds
abbrev pub version_3_table : Header → List Field
version_3_table h =
    field 72 8 h.incompatible_features
    ∷ field 80 8 h.compatible_features
    ∷ field 88 8 h.autoclear_features
    ∷ field 96 4 h.refcount_order
    ∷ field 100 4 h.header_length
    ∷ []

-- bytes with each field laid over them at its place
abbrev pub puts : List Field → List ℕ → List ℕ
puts [] bytes = bytes
puts (f ∷ fs) bytes = puts fs (put f.at (bytes_of f.width f.value) bytes)

-- the backing format extension: type, length, text, and zeros up to a multiple of 8 bytes
unfoldable pub format_bytes : Format → List ℕ
format_bytes Raw = (bytes_of 4 backing_format ++ bytes_of 4 3) ++ (codes "raw" ++ replicate 5 0)
format_bytes Cow = (bytes_of 4 backing_format ++ bytes_of 4 5) ++ (codes "qcow2" ++ replicate 3 0)

-- bytes with a backing format laid over them where there is one
abbrev pub put_format : Option ℕ → Option Format → List ℕ → List ℕ
put_format (Some at) (Some format) bytes = put at (format_bytes format) bytes
put_format (Some at) None bytes = bytes
put_format None format bytes = bytes

abbrev pub put_fields : Header → List ℕ → List ℕ
put_fields h bytes =
    if h.version == 3 then puts (version_3_table h) (puts (version_2_table h) bytes) else puts (version_2_table h) bytes

-- The first sector of a file once a header was written to it. Version 2 hasn't the fields of version 3.
abbrev pub written : Header → List ℕ → List ℕ
written h first = put_format h.format_at h.format (put_fields h first)

-- the backing format, of 16 bytes, lies within the first sector
abbrev pub HasRoom : Header → Type 0
HasRoom h = IfSome h.format_at (λ at. at + 16 ≤ 512)

abbrev pub HaveWidth : List Field → Type 0
HaveWidth fs = AllByRecursion (λ f. f.value < 256 ^ f.width) fs

-- A header by itself, whatever else its head holds: its fields fit, have no fault and map its size, and its backing
-- format stands behind them in the first sector.
pub record IsHeader (h : Header) : Type 0 where
  pub both_fit : HaveWidth (version_2_table h)
  pub later_fit : HaveWidth (version_3_table h)
  pub no_fault : field_fault h ≡ None
  pub early : h.version ≡ 2 → (h.compatible_features ≡ 0) × (h.autoclear_features ≡ 0) × (h.header_length ≡ 72)
  pub late : h.version ≡ 3 → 104 ≤ h.header_length
  pub named : h.name ≡ name_of h.backing_file_offset h.backing_file_size
  pub room : IfSome h.format_at (λ at. (h.header_length ≤ at) × (at + 16 ≤ 512))
  pub mapped : h.size ≤ mapped h

-- the backing format stands directly behind the header, or there is none
abbrev pub IsBehind : Option ℕ → Option Format → ℕ → Type 0
IsBehind (Some at) (Some format) end = at ≡ end
IsBehind None None end = Unit {0}
IsBehind (Some at) None end = ⊥
IsBehind None (Some format) end = ⊥

-- A header as a new layer has it: its tables stand at clusters, and header, backing format and closing mark lie in the
-- first sector, one directly behind the other.
pub record IsNew (h : Header) : Type 0 where
  pub tables : has_aligned_tables h ≡ true
  pub whole : h.header_length % 8 ≡ 0
  pub room : h.header_length + 24 ≤ 512
  pub behind : IsBehind h.format_at h.format h.header_length
