-- Lease sectors that others keep.
use Rattle.std.proofs.Common.{◌≡◌, ℕ, List, Option, Some, None, refl, sym, ap, ◌∙◌, inl, inr}
use Rattle.std.specs.Option.{option_map}
use Rattle.std.specs.Str.{bytes_eq}
use Rattle.std.specs.Prelude.{Bool, true, false, replicate, if◌then◌else◌}
use Rattle.std.proofs.lemmas.Option.{none-some}
use Rattle.std.proofs.lemmas.Slice.Eq.{bytes_eq-Decides}
use Rattle.sd_names.specs.declared.id.Id.{Id}
use Rattle.shared_disk.specs.Content.{File}
use Rattle.lease_area.specs.Sector.{record_in, sector_bytes, sector_in}
use Rattle.lease_area.specs.declared.sector.LeaseRecord.{LeaseRecord}
use Rattle.lease_area.specs.declared.sector.Sector.{Sector}
use Rattle.lease_area.specs.declared.sector.Sector.TheVariants.{Empty, Lease}
use Rattle.image_creating.specs.Sectors.{IsArea, IsEmpty, IsLeastEmptyIn, IsSectorKept, IsUnnamedIn, KeepsSectors, Names}

-- the image that a sector names; where it names none, this one
image_in : Id → Option Sector → Id
image_in other None = other
image_in other (Some Empty) = other
image_in other (Some (Lease r)) = r.image

-- one sector names one image
same_image : (r s : LeaseRecord) (o : Option Sector) → o ≡ Some (Lease r) → o ≡ Some (Lease s) → r.image ≡ s.image
unfolding image_in
same_image r s o first second = ap (λ (x : Option Sector). image_in r.image x) (sym first ∙ second)

not_empty : (r : LeaseRecord) (o : Option Sector) → o ≡ Some (Lease r) → o ≡ Some Empty → ⊥
not_empty r o first second = let e : Some (Lease r) ≡ Some Empty = sym first ∙ second in cc

-- ---- one sector

pub names_kept : (image : Id) (a b : List ℕ) → IsSectorKept a b → Names image a → Names image b
names_kept image a b (inl same) names = (names.0, ap sector_in same ∙ names.1, names.2)
names_kept image a b (inr w) names = (w.1, w.3, w.4 ∙ same_image w.0 names.0 (sector_in a) w.2 names.1 ∙ names.2)

pub names_back : (image : Id) (a b : List ℕ) → IsSectorKept a b → Names image b → Names image a
names_back image a b (inl same) names = (names.0, ap sector_in (sym same) ∙ names.1, names.2)
names_back image a b (inr w) names = (w.0, w.2, sym w.4 ∙ same_image w.1 names.0 (sector_in b) w.3 names.1 ∙ names.2)

pub empty_kept : (a b : List ℕ) → IsSectorKept a b → IsEmpty a → IsEmpty b
empty_kept a b (inl same) is = ap sector_in same ∙ is
empty_kept a b (inr w) is = absurd (not_empty w.0 (sector_in a) w.2 is)

pub empty_back : (a b : List ℕ) → IsSectorKept a b → IsEmpty b → IsEmpty a
empty_back a b (inl same) is = ap sector_in (sym same) ∙ is
empty_back a b (inr w) is = absurd (not_empty w.1 (sector_in b) w.3 is)

kept_both : (a b c : List ℕ) → IsSectorKept a b → IsSectorKept b c → IsSectorKept a c
kept_both a b c (inl first) (inl second) = inl (second ∙ first)
kept_both a b c (inl first) (inr w) = inr (w.0, w.1, ap sector_in (sym first) ∙ w.2, w.3, w.4)
kept_both a b c (inr v) (inl second) = inr (v.0, v.1, v.2, ap sector_in second ∙ v.3, v.4)
kept_both a b c (inr v) (inr w) = inr (v.0, w.1, v.2, w.3, w.4 ∙ sym (same_image v.1 w.0 (sector_in b) v.3 w.2) ∙ v.4)

-- ---- a file's sectors

pub keeps_itself : (f : File) → KeepsSectors f f
keeps_itself f = record { size = refl; settled = λ is. is; each = λ k. inl refl; held = λ k r is kind. refl }

pub keeps_both : (f g h : File) → KeepsSectors f g → KeepsSectors g h → KeepsSectors f h
keeps_both f g h first second = record {
  size = second.size ∙ first.size;
  settled = λ is. second.settled (first.settled is);
  each = λ k. kept_both (f.stable k) (g.stable k) (h.stable k) (first.each k) (second.each k);
  held = λ k r is kind. let same = first.held k r is kind in second.held k r (same ∙ is) kind ∙ same;
}

pub area_kept : (f g : File) → KeepsSectors f g → IsArea f → IsArea g
area_kept f g keeps area = record { size = keeps.size ∙ area.size; settled = keeps.settled area.settled }

pub unnamed_kept : (image : Id) (f g : File) → KeepsSectors f g → IsUnnamedIn image f → IsUnnamedIn image g
unnamed_kept image f g keeps none = λ k slot names. none k slot (names_back image (f.stable k) (g.stable k) (keeps.each k) names)

pub least_kept : (slot : ℕ) (f g : File) → KeepsSectors f g → IsLeastEmptyIn slot f → IsLeastEmptyIn slot g
least_kept slot f g keeps least = record {
  empty = empty_kept (f.stable slot) (g.stable slot) (keeps.each slot) least.empty;
  least = λ k slot_is below empty. least.least k slot_is below (empty_back (f.stable k) (g.stable k) (keeps.each k) empty);
}

-- ---- the bytes of an empty sector

no_lease : (o : Option LeaseRecord) → option_map Lease o ≡ Some Empty → ⊥
no_lease None is = none-some Empty is
no_lease (Some r) is = let e : Some (Lease r) ≡ Some Empty = is in cc

empty_case : (bytes zeros : List ℕ) (t : Bool) → bytes_eq bytes zeros ≡ t → (if t then Some Empty else option_map Lease (record_in bytes)) ≡ Some Empty → bytes ≡ zeros
empty_case bytes zeros true t is = (bytes_eq-Decides bytes zeros).0 t
empty_case bytes zeros false t is = absurd (no_lease (record_in bytes) is)

pub empty_bytes : (bytes : List ℕ) → IsEmpty bytes → bytes ≡ sector_bytes Empty
empty_bytes bytes is = empty_case bytes (replicate 512 0) (bytes_eq bytes (replicate 512 0)) refl is
