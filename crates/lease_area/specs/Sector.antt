-- Lease sectors, and the bytes that spell them. Numbers are big-endian.
use Rattle.std.specs.Prelude.{ℕ, ◌<◌, ◌^◌, ◌==◌, ◌&&◌, Bool, List, ◌∷◌, ◌++◌, Option, Some, None, take, drop, replicate, codes, slice_index, nat_le, nat_lt, if◌then◌else◌, option_map}
use Rattle.std.specs.Str.{bytes_eq}
use Rattle.byteorder.specs.Endian.{big_bytes, big_number}
use Rattle.sd_names.specs.Id.{IsIdBytes}
use Rattle.lease_area.specs.Record.{IsOwner}
use Rattle.lease_area.specs.declared.sector.Kind.{Kind}
use Rattle.lease_area.specs.declared.sector.Kind.TheVariants.{Free, Guest, Task}
use Rattle.lease_area.specs.declared.sector.LeaseRecord.{LeaseRecord}
use Rattle.lease_area.specs.declared.sector.Sector.{Sector}
use Rattle.lease_area.specs.declared.sector.Sector.TheVariants.{Empty, Lease}

-- the byte of a kind
abbrev pub kind_code : Kind → ℕ
kind_code Free = 0
kind_code Guest = 1
kind_code Task = 2

-- `LEAS`, the kind, the owner, 2 zeros, the version, the image, and 480 zeros
unfoldable pub record_bytes : LeaseRecord → List ℕ
record_bytes r = codes "LEAS" ++ kind_code r.kind ∷ r.owner ∷ replicate 2 0 ++ big_bytes 8 r.version ++ r.image.0 ++ replicate 480 0

-- the 512 bytes of a sector
abbrev pub sector_bytes : Sector → List ℕ
sector_bytes Empty = replicate 512 0
sector_bytes (Lease r) = record_bytes r

-- a lease whose fields are in their ranges
pub record IsRecord (r : LeaseRecord) : Type 0 where
  pub owner : IsOwner r.kind r.owner
  pub version : r.version < 2 ^ 63
  pub image : IsIdBytes r.image.0

-- a sector that is empty, or has such a lease
abbrev pub IsSector : Sector → Type 0
IsSector Empty = Unit {0}
IsSector (Lease r) = IsRecord r

-- the kind of a code
abbrev pub kind_of : ℕ → Option Kind
kind_of code = if code == 0 then Some Free else if code == 1 then Some Guest else if code == 2 then Some Task else None

-- what stands at the places of the other fields
abbrev pub fields_of : List ℕ → Kind → LeaseRecord
fields_of bytes kind = record {
  kind = kind;
  owner = slice_index bytes 5;
  version = big_number 8 (take 8 (drop 8 bytes));
  image = record { 0 = take 16 (drop 16 bytes) };
}

-- whether a kind may have an owner
abbrev pub is_owner : Kind → ℕ → Bool
is_owner Free owner = owner == 0
is_owner _ owner = nat_le 1 owner && nat_le owner 250

-- the lease whose bytes a sector has, if there is one
abbrev pub record_with : List ℕ → Option Kind → Option LeaseRecord
record_with bytes None = None
record_with bytes (Some kind) =
    if is_owner kind (fields_of bytes kind).owner && (nat_lt (fields_of bytes kind).version (2 ^ 63) && bytes_eq (record_bytes (fields_of bytes kind)) bytes)
    then Some (fields_of bytes kind)
    else None

abbrev pub record_in : List ℕ → Option LeaseRecord
record_in bytes = record_with bytes (kind_of (slice_index bytes 4))

-- the sector whose bytes these are, if there is one
abbrev pub sector_in : List ℕ → Option Sector
sector_in bytes = if bytes_eq bytes (replicate 512 0) then Some Empty else option_map Lease (record_in bytes)
