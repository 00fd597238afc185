-- What is taken is an allowed move.
use Rattle.std.proofs.Common.{◌≡◌, ◌≢◌, ◌⊎◌, ℕ, ◌==◌, ◌&&◌, Bool, true, false, Option, Some, None, unwrap_or, refl, sym, ap, inl, inr, arith}
use Rattle.std.proofs.lemmas.Option.{none-some}
use Rattle.std.proofs.lemmas.Bool.{and_parts}
use Rattle.std.proofs.lemmas.Bool.Decides.{nat_tests}
use Rattle.std.specs.Prelude.{if◌then◌else◌}
use Rattle.sd_names.specs.UpSet.{Hosts}
use Rattle.sd_names.specs.declared.id.Id.{Id}
use Rattle.shared_disk.specs.Places.{id_is}
use Rattle.lease_area.specs.Move.{IsFreed, IsTaken, LeaseMove, RoleMove, TaskMove, image_taken, is_open, is_task, may_take, owner_of, role_taken, taken_by}
use Rattle.lease_area.specs.declared.sector.Kind.{Kind}
use Rattle.lease_area.specs.declared.sector.Kind.TheVariants.{Free, Guest, Task}
use Rattle.lease_area.specs.declared.sector.LeaseRecord.{LeaseRecord}
use Rattle.lease_area.specs.declared.sector.Sector.{Sector}
use Rattle.lease_area.specs.declared.sector.Sector.TheVariants.{Empty, Lease}

some_is : (t : Bool) (new r : LeaseRecord) → (if t then Some new else None) ≡ Some r → (t ≡ true) × (r ≡ new)
some_is true new r is = (refl, sym (ap (λ (o : Option LeaseRecord). unwrap_or o r) is))
some_is false new r is = absurd (none-some r is)

pub role_moves : (up : Hosts) (host : ℕ) (s : Sector) (r : LeaseRecord) → role_taken up host s ≡ Some r → RoleMove up host s (Lease r)
role_moves up host s r is =
    let new = some_is (is_open up host (owner_of s)) (taken_by host Guest s) r is in
    inl (new.0, ap (λ (x : LeaseRecord). Lease x) new.1)

image_moves : (up : Hosts) (host : ℕ) (kind : Kind) (image : Id) (q r : LeaseRecord) → image_taken up host kind image (Lease q) ≡ Some r → IsTaken up host kind (Lease q) (Lease r)
image_moves up host kind image q r is =
    let new = some_is (id_is q.image image && may_take up host q.kind q.owner) (taken_by host kind (Lease q)) r is in
    (q, refl, (and_parts (id_is q.image image) (may_take up host q.kind q.owner) new.0).1, ap (λ (x : LeaseRecord). Lease x) new.1)

slot_moves : (up : Hosts) (host : ℕ) (kind : Kind) (image : Id) (s : Sector) (r : LeaseRecord) → kind ≢ Free → image_taken up host kind image s ≡ Some r
    → IsTaken up host Guest s (Lease r) ⊎ (IsFreed host Guest s (Lease r) ⊎ ((is_task kind ≡ true) × TaskMove up host s (Lease r)))
slot_moves up host Free image s r held is = absurd (held refl)
slot_moves up host Guest image Empty r held is = absurd (none-some r is)
slot_moves up host Guest image (Lease q) r held is = inl (image_moves up host Guest image q r is)
slot_moves up host Task image Empty r held is = inr (inr (refl, inr (inl (refl, image, ap (λ (o : Option LeaseRecord). Lease (unwrap_or o r)) (sym is)))))
slot_moves up host Task image (Lease q) r held is = inr (inr (refl, inl (image_moves up host Task image q r is)))

pub not_zero : (slot : ℕ) → slot ≢ 0 → (slot == 0) ≡ false
not_zero slot apart = grind (arith, nat_tests, apart)

pub image_slot_moves : (up : Hosts) (host slot : ℕ) (kind : Kind) (image : Id) (s : Sector) (r : LeaseRecord) → slot ≢ 0 → kind ≢ Free → image_taken up host kind image s ≡ Some r
    → LeaseMove up host (is_task kind) slot s (Lease r)
image_slot_moves up host slot kind image s r apart held new = rw (not_zero slot apart) (slot_moves up host kind image s r held new)
