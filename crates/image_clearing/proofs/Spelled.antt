-- The bytes that a lease was read from are those that spell it.
use Rattle.std.proofs.Common.{◌≡◌, ◌&&◌, Bool, true, false, List, ℕ, ◌^◌, Option, Some, None, if◌then◌else◌, refl, sym, ap, ◌∙◌}
use Rattle.std.specs.Option.{option_map}
use Rattle.std.specs.Prelude.{nat_lt, replicate, slice_index}
use Rattle.std.specs.Str.{bytes_eq}
use Rattle.std.proofs.lemmas.Bool.{and_parts}
use Rattle.std.proofs.lemmas.Option.{none-some}
use Rattle.std.proofs.lemmas.Slice.Eq.{bytes_eq-Decides}
use Rattle.lease_area.specs.Sector.{fields_of, is_owner, kind_of, record_bytes, record_in, record_with, sector_bytes, sector_in}
use Rattle.lease_area.specs.declared.sector.Kind.{Kind}
use Rattle.lease_area.specs.declared.sector.LeaseRecord.{LeaseRecord}
use Rattle.lease_area.specs.declared.sector.Sector.TheVariants.{Empty, Lease}

by_tests : (owner version t : Bool) (x r : LeaseRecord) (bytes : List ℕ) → (owner && (version && bytes_eq (record_bytes x) bytes)) ≡ t → (if t then Some x else None) ≡ Some r → bytes ≡ record_bytes r
by_tests owner version false x r bytes t is = absurd (none-some r is)
by_tests owner version true x r bytes t is =
    let both = and_parts owner (version && bytes_eq (record_bytes x) bytes) t in
    let last = and_parts version (bytes_eq (record_bytes x) bytes) both.1 in
    let same : x ≡ r = some_same is in
    sym ((bytes_eq-Decides (record_bytes x) bytes).0 last.1) ∙ ap record_bytes same
  where
    some_same : Some x ≡ Some r → x ≡ r
    some_same e = cc

with_kind : (bytes : List ℕ) (r : LeaseRecord) (o : Option Kind) → record_with bytes o ≡ Some r → bytes ≡ record_bytes r
with_kind bytes r None is = absurd (none-some r is)
with_kind bytes r (Some kind) is =
    by_tests (is_owner kind (fields_of bytes kind).owner) (nat_lt (fields_of bytes kind).version (2 ^ 63))
    (is_owner kind (fields_of bytes kind).owner && (nat_lt (fields_of bytes kind).version (2 ^ 63) && bytes_eq (record_bytes (fields_of bytes kind)) bytes)) (fields_of bytes kind) r bytes refl is

mapped : (o : Option LeaseRecord) (r : LeaseRecord) → option_map Lease o ≡ Some (Lease r) → o ≡ Some r
mapped None r is = absurd (none-some (Lease r) is)
mapped (Some x) r is = let e : Some (Lease x) ≡ Some (Lease r) = is in cc

by_zeros : (bytes : List ℕ) (r : LeaseRecord) (t : Bool) → (if t then Some Empty else option_map Lease (record_in bytes)) ≡ Some (Lease r) → bytes ≡ record_bytes r
by_zeros bytes r true is = let e : Some Empty ≡ Some (Lease r) = is in cc
by_zeros bytes r false is = with_kind bytes r (kind_of (slice_index bytes 4)) (mapped (record_in bytes) r is)

pub spelled : (bytes : List ℕ) (r : LeaseRecord) → sector_in bytes ≡ Some (Lease r) → bytes ≡ sector_bytes (Lease r)
spelled bytes r is = by_zeros bytes r (bytes_eq bytes (replicate 512 0)) is
