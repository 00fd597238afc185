-- What the value of each key of a volume's text means.
use Rattle.std.specs.Prelude.{ℕ, ◌*◌, ◌%◌, ◌^◌, Bool, true, ◌==◌, ◌&&◌, List, length, nat_le, Option, Some, None, if◌then◌else◌, codes, option_and_then}
use Rattle.std.specs.Str.{bytes_eq}
use Rattle.sd_names.specs.declared.kinds.AllocKind.{AllocKind}
use Rattle.sd_names.specs.declared.kinds.AllocKind.TheVariants.{Sparse, Preallocated}
use Rattle.sd_names.specs.declared.kinds.Format.{Format}
use Rattle.sd_names.specs.declared.kinds.Format.TheVariants.{Raw, Cow}
use Rattle.sd_names.specs.declared.kinds.Legality.{Legality}
use Rattle.sd_names.specs.declared.kinds.Legality.TheVariants.{Legal, Illegal}
use Rattle.sd_names.specs.declared.kinds.VolType.{VolType}
use Rattle.sd_names.specs.declared.kinds.VolType.TheVariants.{Leaf, Internal}
use Rattle.decimal_numbers.specs.Number.{number_of}

-- CAP: bytes, a multiple of 512, 512 to 1 TiB
unfoldable pub capacity_of : List ℕ → Option ℕ
capacity_of value =
    option_and_then (λ n. if (n % 512 == 0) && nat_le 512 n && nat_le n (2 ^ 40) then Some n else None) (number_of value)

-- SIZE: blocks of 512 bytes, 1 to 2,147,483,648, and the bytes that they are
unfoldable pub size_of : List ℕ → Option ℕ
size_of value =
    option_and_then (λ n. if nat_le 1 n && nat_le n (2 ^ 31) then Some (n * 512) else None) (number_of value)

-- GEN: 0 to 999
unfoldable pub generation_of : List ℕ → Option ℕ
generation_of value = option_and_then (λ n. if nat_le n 999 then Some n else None) (number_of value)

-- DISKTYPE: 1 to 16 bytes
unfoldable pub disk_type_of : List ℕ → Option (List ℕ)
disk_type_of value = if nat_le 1 (length value) && nat_le (length value) 16 then Some value else None

unfoldable pub format_of : List ℕ → Option Format
format_of value =
    if bytes_eq value (codes "RAW") then Some Raw else if bytes_eq value (codes "COW") then Some Cow else None

unfoldable pub legality_of : List ℕ → Option Legality
legality_of value =
    if bytes_eq value (codes "LEGAL") then Some Legal
    else if bytes_eq value (codes "ILLEGAL") then Some Illegal
    else None

unfoldable pub kind_of : List ℕ → Option AllocKind
kind_of value =
    if bytes_eq value (codes "SPARSE") then Some Sparse
    else if bytes_eq value (codes "PREALLOCATED") then Some Preallocated
    else None

unfoldable pub voltype_of : List ℕ → Option VolType
voltype_of value =
    if bytes_eq value (codes "LEAF") then Some Leaf
    else if bytes_eq value (codes "INTERNAL") then Some Internal
    else None

-- MERGED: only `TRUE`, and only on an illegal volume
unfoldable pub merged_of : Legality → List ℕ → Option Bool
merged_of Legal value = None
merged_of Illegal value = if bytes_eq value (codes "TRUE") then Some true else None
