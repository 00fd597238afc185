-- One sector more of what a scan has seen.
use Rattle.std.proofs.Common.{◌≡◌, ℕ, suc, ◌+◌, List, Option, Some, None, refl, ap, ◌∙◌, arith}
use Rattle.sd_names.specs.declared.id.Id.{Id}
use Rattle.shared_disk.specs.Content.{sector_of}
use Rattle.lease_area.specs.Noted.{empty_at, first_of, lease_at, noted, noted_one, or_else}
use Rattle.lease_area.specs.Sector.{sector_in}
use Rattle.lease_area.specs.declared.scanned.Scanned.{Scanned}

or_else_assoc : {A : Type 0} → (a b c : Option A) → or_else (or_else a b) c ≡ or_else a (or_else b c)
or_else_assoc None b c = refl
or_else_assoc (Some x) b c = refl

noted_suc : (image : Id) (from : ℕ) (room : List ℕ) (k : ℕ) (s : Scanned) → noted_one image (from + k) (sector_in (sector_of room k)) (noted image from room k s) ≡ noted image from room (suc k) s
noted_suc image from room k s = λ i. record {
  found = or_else_assoc s.found (first_of (lease_at image from room) k) (lease_at image from room k) i;
  empty = or_else_assoc s.empty (first_of (empty_at from room) k) (empty_at from room k) i;
}

pub noted_next : (image : Id) (from : ℕ) (room : List ℕ) (k : ℕ) (s : Scanned) → noted_one image (from + k) (sector_in (sector_of room k)) (noted image from room k s) ≡ noted image from room (k + 1) s
noted_next image from room k s = noted_suc image from room k s ∙ ap (λ (n : ℕ). noted image from room n s) (suc_is k)
  where
    suc_is : (k : ℕ) → suc k ≡ k + 1
    suc_is k = omega arith
