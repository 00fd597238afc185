-- The fields of a lease and the bytes of its sector.
use Rattle.std.proofs.Common.{◌≡◌, ℕ, ◌<◌, ◌^◌, ◌&&◌, Bool, true, false, List, [], ◌∷◌, ◌++◌, Option, Some, None, take, drop, replicate, refl, sym, ap, ◌∙◌, arith, append_assoc, nat_lt, slice_index, codes, eq-eqb}
use Rattle.std.proofs.lemmas.Slice.Eq.{bytes_eq-Decides}
use Rattle.std.proofs.lemmas.List.{append-nil}
use Rattle.std.proofs.lemmas.Bool.Decides.{nat_tests}
use Rattle.std.specs.Str.{bytes_eq}
use Rattle.byteorder.specs.Endian.{big_bytes, big_number}
use Rattle.byteorder.specs.Numbers.{big_number-reads_back}
use Rattle.byte_parts.proofs.Parts.{middle}
use Rattle.lease_area.specs.Record.{IsOwner}
use Rattle.lease_area.specs.Sector.{IsRecord, IsSector, fields_of, is_owner, kind_code, kind_of, record_bytes, record_in, record_with, sector_bytes, sector_in}
use Rattle.lease_area.specs.declared.sector.Kind.{Kind}
use Rattle.lease_area.specs.declared.sector.Kind.TheVariants.{Free, Guest, Task}
use Rattle.lease_area.specs.declared.sector.LeaseRecord.{LeaseRecord}
use Rattle.lease_area.specs.declared.sector.Sector.{Sector}
use Rattle.lease_area.specs.declared.sector.Sector.TheVariants.{Empty, Lease}
use Rattle.std.specs.Prelude.{option_map, if◌then◌else◌}

kind_back : (k : Kind) → kind_of (kind_code k) ≡ Some k
kind_back Free = refl
kind_back Guest = refl
kind_back Task = refl

owner_fits : (k : Kind) (owner : ℕ) → IsOwner k owner → is_owner k owner ≡ true
owner_fits Free owner is = eq-eqb owner 0 is
owner_fits Guest owner is = grind (arith, nat_tests, is)
owner_fits Task owner is = grind (arith, nat_tests, is)

-- the fields stand at their places
module _ (r : LeaseRecord) (is : IsRecord r) where
  head : List ℕ
  head = codes "LEAS" ++ kind_code r.kind ∷ r.owner ∷ replicate 2 0

  code_back : slice_index (record_bytes r) 4 ≡ kind_code r.kind
  unfolding record_bytes
  code_back = refl

  owner_back : slice_index (record_bytes r) 5 ≡ r.owner
  unfolding record_bytes
  owner_back = refl

  version_back : take 8 (drop 8 (record_bytes r)) ≡ big_bytes 8 r.version
  unfolding record_bytes head
  version_back = middle head (big_bytes 8 r.version) (r.image.0 ++ replicate 480 0) 8 8 refl refl

  image_back : take 16 (drop 16 (record_bytes r)) ≡ r.image.0
  unfolding record_bytes head
  image_back = ap (λ (l : List ℕ). take 16 (drop 16 l)) (append_assoc head (big_bytes 8 r.version) (r.image.0 ++ replicate 480 0)) ∙ middle (head ++ big_bytes 8 r.version) r.image.0 (replicate 480 0) 16 16 refl is.image.sixteen

number_back : (x : ℕ) (bytes : List ℕ) → x < 2 ^ 63 → bytes ≡ big_bytes 8 x → big_number 8 bytes ≡ x
number_back x bytes h e = ap (big_number 8) (e ∙ sym (append-nil (big_bytes 8 x))) ∙ big_number-reads_back 8 x [] (omega (arith, h))

same_record : (a b : LeaseRecord) → a.kind ≡ b.kind → a.owner ≡ b.owner → a.version ≡ b.version → a.image.0 ≡ b.image.0 → a ≡ b
same_record a b p q r s = λ i. record { kind = p i; owner = q i; version = r i; image = record { 0 = s i } }

pub fields_back : (r : LeaseRecord) → IsRecord r → fields_of (record_bytes r) r.kind ≡ r
fields_back r is = same_record (fields_of (record_bytes r) r.kind) r refl (owner_back r is) (number_back r.version _ is.version (version_back r is)) (image_back r is)

lt_passes : (a b : ℕ) → a < b → nat_lt a b ≡ true
lt_passes a b h = grind (arith, nat_tests)

-- a lease that is one passes the tests
passes : (r : LeaseRecord) (bytes : List ℕ) → IsRecord r → bytes ≡ record_bytes r → (is_owner r.kind r.owner && (nat_lt r.version (2 ^ 63) && bytes_eq (record_bytes r) bytes)) ≡ true
passes r bytes is e = rw (owner_fits r.kind r.owner is.owner, lt_passes r.version (2 ^ 63) is.version, (bytes_eq-Decides (record_bytes r) bytes).1 (sym e)) refl

-- the lease, where the tests pass
abbrev if_some : Bool → LeaseRecord → Option LeaseRecord
if_some t f = if t then Some f else None

pub record_back : (r : LeaseRecord) → IsRecord r → record_in (record_bytes r) ≡ Some r
record_back r is =
    ap (λ (k : Option Kind). record_with (record_bytes r) k) (ap kind_of (code_back r is) ∙ kind_back r.kind)
    ∙ ap (λ (f : LeaseRecord). if_some (is_owner r.kind f.owner && (nat_lt f.version (2 ^ 63) && bytes_eq (record_bytes f) (record_bytes r))) f) (fields_back r is)
    ∙ rw (passes r (record_bytes r) is refl) refl

-- a lease isn't zeros
magic : (r : LeaseRecord) → slice_index (record_bytes r) 0 ≡ 76
unfolding record_bytes
magic r = refl

not_zeros : (r : LeaseRecord) (t : Bool) → bytes_eq (record_bytes r) (replicate 512 0) ≡ t → t ≡ false
not_zeros r false t = refl
not_zeros r true t = absurd (differ (sym (magic r) ∙ ap (λ (l : List ℕ). slice_index l 0) ((bytes_eq-Decides (record_bytes r) (replicate 512 0)).0 t)))
  where
    differ : ◌≡◌ {A = ℕ} 76 0 → ⊥
    differ e = omega (arith, e)

pub sector_back : (s : Sector) → IsSector s → sector_in (sector_bytes s) ≡ Some s
sector_back Empty is = refl
sector_back (Lease r) is = rw (not_zeros r (bytes_eq (record_bytes r) (replicate 512 0)) refl) (ap (λ (o : Option LeaseRecord). option_map Lease o) (record_back r is))
