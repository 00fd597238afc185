-- What an exchange put there is there on each outcome.
use Rattle.std.proofs.Common.{◌≡◌, ◌<◌, ℕ, List, eq-eqb, refl, subst}
use Rattle.sd_names.specs.declared.id.Id.{Id}
use Rattle.shared_disk.specs.Changes.{exchanged}
use Rattle.shared_disk.specs.Content.{Content, File}
use Rattle.shared_disk.specs.Crash.{IsOutcome, IsSettled}
use Rattle.shared_disk.proofs.AtPlace.{one_file, settled_stays}
use Rattle.shared_disk.proofs.Toolkit.{exchanged_settled}
use Rattle.lease_area.specs.Hold.{IsMoved, Stands, leases_of}
use Rattle.lease_area.specs.Sector.{sector_bytes}
use Rattle.lease_area.specs.declared.sector.Sector.{Sector}

pub survives : (d e o : Content) (sd : Id) (slot : ℕ) (bytes : List ℕ) (new : Sector) → Stands d sd slot bytes → IsMoved d sd slot new e → IsOutcome e o → Stands o sd slot (sector_bytes new)
survives d e o sd slot bytes new stands moved out =
    let same : stands.file ≡ moved.0 = one_file stands.file moved.0 (d.file (leases_of sd)) stands.there moved.1 in
    let g : File = exchanged slot (sector_bytes new) moved.0 in
    let settled : IsSettled g = exchanged_settled slot (sector_bytes new) moved.0 (subst IsSettled same stands.settled) in
    record {
      file = g;
      there = settled_stays e o (leases_of sd) g moved.2.here settled out;
      within = subst (λ (f : File). slot < f.size) same stands.within;
      settled = settled;
      bytes_are = rw (eq-eqb slot slot refl) refl;
    }
