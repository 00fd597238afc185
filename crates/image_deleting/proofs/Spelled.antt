-- Sectors that name an image, by their bytes.
use Rattle.std.proofs.Common.{◌≡◌, ℕ, ◌==◌, ◌&&◌, if◌then◌else◌, Bool, true, false, List, Option, Some, None, eq-eqb, refl, sym, ap, ◌∙◌, subst, arith}
use Rattle.std.proofs.lemmas.Bool.{false≢true}
use Rattle.std.proofs.lemmas.Bool.Decides.{nat_tests}
use Rattle.std.proofs.lemmas.Option.{none-some}
use Rattle.std.proofs.lemmas.Slice.Eq.{bytes_eq-Decides}
use Rattle.std.specs.Option.{option_map}
use Rattle.std.specs.Prelude.{nat_lt, slice_index, replicate, ◌^◌}
use Rattle.std.specs.Str.{bytes_eq}
use Rattle.sd_names.specs.declared.id.Id.{Id}
use Rattle.shared_disk.specs.Changes.{exchanged}
use Rattle.shared_disk.specs.Content.{File}
use Rattle.shared_disk.proofs.Toolkit.{exchanged_settled}
use Rattle.lease_area.specs.Sector.{fields_of, is_owner, kind_of, record_bytes, record_in, record_with, sector_bytes, sector_in}
use Rattle.lease_area.specs.declared.sector.Kind.{Kind}
use Rattle.lease_area.specs.declared.sector.LeaseRecord.{LeaseRecord}
use Rattle.lease_area.specs.declared.sector.Sector.{Sector}
use Rattle.lease_area.specs.declared.sector.Sector.TheVariants.{Empty, Lease}
use Rattle.lease_area.proofs.Fields.{sector_back}
use Rattle.image_creating.specs.Sectors.{IsArea, IsUnnamedIn, Names}
use Rattle.image_deleting.specs.Sectors.{IsOnlyAt}

-- ---- the bytes of a lease

record_or : LeaseRecord → Option LeaseRecord → LeaseRecord
record_or other None = other
record_or other (Some r) = r

same_record : (f r : LeaseRecord) → Some f ≡ Some r → f ≡ r
unfolding record_or
same_record f r is = ap (λ (o : Option LeaseRecord). record_or f o) is

tested : (f r : LeaseRecord) (bytes : List ℕ) (a b t : Bool) → bytes_eq (record_bytes f) bytes ≡ t → (if a && (b && t) then Some f else None) ≡ Some r → record_bytes r ≡ bytes
tested f r bytes true true true t is = ap record_bytes (sym (same_record f r is)) ∙ (bytes_eq-Decides (record_bytes f) bytes).0 t
tested f r bytes true true false t is = absurd (none-some r is)
tested f r bytes true false t e is = absurd (none-some r is)
tested f r bytes false b t e is = absurd (none-some r is)

record_spelled : (bytes : List ℕ) (k : Option Kind) (r : LeaseRecord) → record_with bytes k ≡ Some r → record_bytes r ≡ bytes
record_spelled bytes None r is = absurd (none-some r is)
record_spelled bytes (Some kind) r is =
    let f = fields_of bytes kind in
    tested f r bytes (is_owner kind f.owner) (nat_lt f.version (2 ^ 63)) (bytes_eq (record_bytes f) bytes) refl is

lease_or : LeaseRecord → Option Sector → LeaseRecord
lease_or other None = other
lease_or other (Some Empty) = other
lease_or other (Some (Lease r)) = r

mapped : (o : Option LeaseRecord) (r : LeaseRecord) → option_map Lease o ≡ Some (Lease r) → o ≡ Some r
unfolding lease_or
mapped None r is = absurd (none-some (Lease r) is)
mapped (Some f) r is = ap (λ (o : Option Sector). Some (lease_or f o)) is

by_zeros : (o : Option LeaseRecord) (r : LeaseRecord) (t : Bool) → (if t then Some Empty else option_map Lease o) ≡ Some (Lease r) → o ≡ Some r
by_zeros o r true is = let e : Some Empty ≡ Some (Lease r) = is in cc
by_zeros o r false is = mapped o r is

pub lease_spelled : (bytes : List ℕ) (r : LeaseRecord) → sector_in bytes ≡ Some (Lease r) → bytes ≡ sector_bytes (Lease r)
lease_spelled bytes r is = sym (record_spelled bytes (kind_of (slice_index bytes 4)) r (by_zeros (record_in bytes) r (bytes_eq bytes (replicate 512 0)) is))

-- ---- an exchanged sector

same_number : (k slot : ℕ) → (k == slot) ≡ true → k ≡ slot
same_number k slot is = grind (arith, nat_tests)

-- the sector that alone names the image is exchanged
pub only_after : (image : Id) (slot : ℕ) (bytes : List ℕ) (f : File) → IsOnlyAt image slot f → IsOnlyAt image slot (exchanged slot bytes f)
only_after image slot bytes f only k slot_is names = go (k == slot) refl
  where
    go : (b : Bool) → (k == slot) ≡ b → k ≡ slot
    go true is = same_number k slot is
    go false is = only k slot_is (subst (λ (b : Bool). Names image (if b then bytes else f.stable k)) is names)

empty_unnamed : (image : Id) → Names image (sector_bytes Empty) → ⊥
empty_unnamed image names = let e : Some Empty ≡ Some (Lease names.0) = sym (sector_back Empty tt) ∙ names.1 in cc

-- it is emptied
pub unnamed_after : (image : Id) (slot : ℕ) (f : File) → IsOnlyAt image slot f → IsUnnamedIn image (exchanged slot (sector_bytes Empty) f)
unnamed_after image slot f only k slot_is names = go (k == slot) refl
  where
    go : (b : Bool) → (k == slot) ≡ b → ⊥
    go true is = empty_unnamed image (subst (λ (b : Bool). Names image (if b then sector_bytes Empty else f.stable k)) is names)
    go false is = false≢true (sym is ∙ eq-eqb k slot (only k slot_is (subst (λ (b : Bool). Names image (if b then sector_bytes Empty else f.stable k)) is names)))

pub area_after : (slot : ℕ) (bytes : List ℕ) (f : File) → IsArea f → IsArea (exchanged slot bytes f)
area_after slot bytes f area = record { size = area.size; settled = exchanged_settled slot bytes f area.settled }
