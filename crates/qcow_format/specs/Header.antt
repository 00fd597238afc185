-- The header (qcow2 specification, "Header"), with this store's profile.
use Rattle.std.specs.Prelude.{ℕ, Bool, ◌+◌, ◌*◌, ◌/◌, ◌%◌, ◌^◌, min, ◌==◌, ◌||◌, ◌&&◌, not, nat_lt, nat_le, if◌then◌else◌, List, [], ◌∷◌, length, take, Option, Some, None, option_map, Result, Ok, Err}
use Rattle.std.specs.Int.{w64, trailing_zeros}
use Rattle.sd_names.specs.declared.fault.LayerFault.{LayerFault}
use Rattle.sd_names.specs.declared.fault.LayerFault.TheVariants.{Short, Magic, Version, Bits, Encrypted, Snapshots, Feature, RefcountOrder, HeaderShape, Size}
use Rattle.sd_names.specs.declared.kinds.Format.{Format}
use Rattle.qcow_format.specs.declared.header.Header.{Header}
use Rattle.qcow_format.specs.Numbers.{magic}
use Rattle.qcow_format.specs.Bytes.{number}
use Rattle.qcow_format.specs.Name.{is_name}
use Rattle.qcow_format.specs.Format.{◌>>=◌, walked}

-- where a header's name stands and its length, (0, 0) where there is no backing file
abbrev pub name_of : ℕ → ℕ → ℕ × ℕ
name_of at size = if at == 0 then (0, 0) else (at, size)

-- the fields that both versions have; version 2 has no features, refcounts of order 4 and 72 bytes
unfoldable pub fields_of_version_2 : List ℕ → Header
fields_of_version_2 head = record {
  magic = number 4 0 head;
  version = number 4 4 head;
  backing_file_offset = number 8 8 head;
  backing_file_size = number 4 16 head;
  cluster_bits = number 4 20 head;
  size = number 8 24 head;
  crypt_method = number 4 32 head;
  l1_size = number 4 36 head;
  l1_table_offset = number 8 40 head;
  refcount_table_offset = number 8 48 head;
  refcount_table_clusters = number 4 56 head;
  nb_snapshots = number 4 60 head;
  snapshots_offset = number 8 64 head;
  incompatible_features = 0;
  compatible_features = 0;
  autoclear_features = 0;
  refcount_order = 4;
  header_length = 72;
  name = name_of (number 8 8 head) (number 4 16 head);
  format_at = None;
  format = None;
}

-- and those that version 3 adds
abbrev pub fields_of_version_3 : List ℕ → Header
fields_of_version_3 head = record (fields_of_version_2 head) {
  incompatible_features = number 8 72 head;
  compatible_features = number 8 80 head;
  autoclear_features = number 8 88 head;
  refcount_order = number 4 96 head;
  header_length = number 4 100 head;
}

unfoldable pub fields_of : List ℕ → Header
fields_of head = if number 4 4 head == 3 then fields_of_version_3 head else fields_of_version_2 head

-- the first fault whose test holds
abbrev pub first_fault : List (Bool × LayerFault) → Option LayerFault
first_fault [] = None
first_fault (t ∷ ts) = if t.0 then Some t.1 else first_fault ts

-- what is wrong with the fields alone
unfoldable pub field_fault : Header → Option LayerFault
field_fault h = first_fault (
    (not (h.magic == magic), Magic)
    ∷ (not (h.version == 2 || h.version == 3), Version)
    ∷ (nat_lt h.cluster_bits 12 || nat_lt 21 h.cluster_bits, Bits)
    ∷ (not (h.crypt_method == 0), Encrypted)
    ∷ (not (h.nb_snapshots == 0), Snapshots)
    ∷ (not (h.incompatible_features == 0), Feature (trailing_zeros w64 h.incompatible_features))
    ∷ (not (h.refcount_order == 4), RefcountOrder)
    ∷ [])

abbrev pub fine_fields : Header → Result Header LayerFault
fine_fields h = elim (field_fault h) [ None ↦ Ok h | Some fault ↦ Err fault ]

-- how many bytes of a file are its head
abbrev pub head_size : ℕ → ℕ
head_size cluster_bits = min (2 ^ cluster_bits) 65536

-- version 3 tells the header's length
abbrev pub has_length : Header → Bool
has_length h = h.version == 2 || (nat_le 104 h.header_length && h.header_length % 8 == 0)

abbrev pub has_aligned_tables : Header → Bool
has_aligned_tables h =
    h.l1_table_offset % 2 ^ h.cluster_bits == 0 && h.refcount_table_offset % 2 ^ h.cluster_bits == 0

abbrev pub has_name : List ℕ → Header → Bool
has_name head h =
    h.backing_file_offset == 0 || is_name head (head_size h.cluster_bits) h.backing_file_offset h.backing_file_size

-- the closing mark, of 8 bytes with type 0, stands at a place, and 1,024 bytes or more of the head behind it
abbrev pub is_closed : List ℕ → ℕ → ℕ → Bool
is_closed head span at = nat_le (at + 8) (length head) && number 4 at head == 0 && nat_le (at + 8 + 1024) span

-- the profile's rules on what a head holds, of which the extensions end at `end`
abbrev pub has_shape : List ℕ → Header → ℕ → Bool
has_shape head h end =
    has_length h && has_aligned_tables h && has_name head h && is_closed head (head_size h.cluster_bits) end

-- The backing format that a head names, where it keeps the profile's rules. `head` is no longer than the head.
unfoldable pub shape_of : List ℕ → Header → Result (Option (ℕ × Format)) LayerFault
shape_of head h = do
  extensions ← walked head h.header_length
  if has_shape head h extensions.0 then Ok extensions.1 else Err HeaderShape

-- how many bytes an L1 table maps: an L2 table is a cluster of entries of 8 bytes, each of which maps a cluster
abbrev pub mapped : Header → ℕ
mapped h = h.l1_size * (2 ^ h.cluster_bits / 8 * 2 ^ h.cluster_bits)

abbrev pub with_format : Header → Option (ℕ × Format) → Header
with_format h found = record h { format_at = option_map (λ f. f.0) found; format = option_map (λ f. f.1) found }

abbrev pub sized : Header → Result Header LayerFault
sized h = if nat_lt (mapped h) h.size then Err (Size h.size) else Ok h

-- the header of a file that begins with these bytes, or its first fault
unfoldable pub header_of : List ℕ → Result Header LayerFault
header_of bytes = if nat_lt (length bytes) 512 then Err Short else (do
  h ← fine_fields (fields_of bytes)
  found ← shape_of (take (head_size h.cluster_bits) bytes) h
  sized (with_format h found))
