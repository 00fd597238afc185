-- A sector that was freed isn't held for a task.
use Rattle.std.proofs.Common.{◌≡◌, ◌≢◌, ℕ, ◌+◌, ◌<◌, ◌==◌, Bool, true, false, List, Some, refl, sym, ap, ◌∙◌, slice_index, arith}
use Rattle.std.proofs.lemmas.Bool.Decides.{nat_tests}
use Rattle.sd_names.specs.declared.id.Id.{Id}
use Rattle.shared_disk.specs.Changes.{exchanged}
use Rattle.shared_disk.specs.Content.{Content, File}
use Rattle.shared_disk.proofs.AtPlace.{one_file}
use Rattle.shared_disk.proofs.Toolkit.{exchanged_settled}
use Rattle.lease_area.specs.Hold.{IsMoved, leases_of}
use Rattle.lease_area.specs.Move.{freed}
use Rattle.lease_area.specs.Sector.{kind_code, record_bytes, sector_bytes, sector_in}
use Rattle.lease_area.specs.declared.sector.Kind.TheVariants.{Task}
use Rattle.lease_area.specs.declared.sector.LeaseRecord.{LeaseRecord}
use Rattle.lease_area.specs.declared.sector.Sector.TheVariants.{Lease}
use Rattle.image_clearing.proofs.Spelled.{spelled}
use Rattle.sector_freeing.specs.Knowing.{HasNoneBelow, NoneBelow}

code_is : (r : LeaseRecord) → slice_index (record_bytes r) 4 ≡ kind_code r.kind
unfolding record_bytes
code_is r = refl

free_again : (r q : LeaseRecord) → sector_in (sector_bytes (Lease (freed r))) ≡ Some (Lease q) → q.kind ≢ Task
free_again r q is held =
    let same : record_bytes (freed r) ≡ record_bytes q = spelled (sector_bytes (Lease (freed r))) q is in
    differ (sym (code_is (freed r)) ∙ ap (λ (l : List ℕ). slice_index l 4) same ∙ code_is q ∙ ap kind_code held)
  where
    differ : ◌≡◌ {A = ℕ} 0 2 → ⊥
    differ e = omega (arith, e)

-- the sector there is the freed one, and those below it are as they were
freed_none : (slot : ℕ) (r : LeaseRecord) (f : File) → NoneBelow slot f → NoneBelow (slot + 1) (exchanged slot (sector_bytes (Lease (freed r))) f)
freed_none slot r f none k q is_slot below is = go (k == slot) refl
  where
    sooner : (k slot : ℕ) → (k == slot) ≡ false → k < slot + 1 → k < slot
    sooner k slot apart below = grind (arith, nat_tests, apart, below)

    go : (t : Bool) → (k == slot) ≡ t → q.kind ≢ Task
    go true same = free_again r q (rw same at is)
    go false apart = none k q is_slot (sooner k slot apart below) (rw apart at is)

pub moved_none : (sd : Id) (slot : ℕ) (r : LeaseRecord) (d e : Content) → HasNoneBelow sd slot d → IsMoved d sd slot (Lease (freed r)) e → HasNoneBelow sd (slot + 1) e
moved_none sd slot r d e none moved =
    let same : moved.0 ≡ none.file = one_file moved.0 none.file (d.file (leases_of sd)) moved.1 none.there in
    record {
      file = exchanged slot (sector_bytes (Lease (freed r))) none.file;
      there = moved.2.here ∙ ap (λ (f : File). Some (exchanged slot (sector_bytes (Lease (freed r))) f)) same;
      area = record { size = none.area.size; settled = exchanged_settled slot (sector_bytes (Lease (freed r))) none.file none.area.settled };
      none = freed_none slot r none.file none.none;
    }
