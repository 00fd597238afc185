-- What a step leaves that reads sectors.
use Rattle.std.proofs.Common.{◌≡◌, ◌⊎◌, ℕ, ◌+◌, List, length, Option, Some, None, refl, sym, ap, ◌∙◌, subst, inl, inr, arith}
use Rattle.sd_names.specs.UpSet.{Hosts}
use Rattle.sd_names.specs.declared.id.Id.{Id}
use Rattle.sd_names.specs.declared.refusal.Refusal.{Refusal}
use Rattle.sd_names.specs.declared.refusal.Refusal.TheVariants.{DiskFault, NoImage}
use Rattle.sd_names.specs.declared.turn.Turn.{Turn}
use Rattle.sd_names.specs.declared.turn.Turn.TheVariants.{More, Done, Ended}
use Rattle.shared_disk.specs.Calls.{IsSame}
use Rattle.shared_disk.specs.Content.{Content}
use Rattle.shared_disk.specs.Refusal.{refusal_of}
use Rattle.shared_disk.specs.declared.disk.DiskAnswer.TheVariants.{NoFile}
use Rattle.shared_disk.proofs.AtPlace.{no_file}
use Rattle.lease_area.specs.Hold.{leases_of}
use Rattle.lease_area.specs.Scan.{Looks, ScanSteps, scan_domain, scan_image, seen_by, steps_made}
use Rattle.lease_area.specs.declared.scan.Scan.{Scan}
use Rattle.lease_area.specs.declared.scanned.Scanned.{Scanned}
use Rattle.lease_area.specs.declared.sector.LeaseRecord.{LeaseRecord}
use Rattle.image_creating.specs.Inner.{IsScanOn}
use Rattle.image_creating.specs.Knowing.{IsReadSince}
use Rattle.image_creating.proofs.Reading.{found_at, none_found, read_more}
use Rattle.image_deleting.specs.Calls.{IsScanned, SeenBy}
use Rattle.image_deleting.specs.Deleting.{DeleteTurn}
use Rattle.image_deleting.specs.Knowing.{IsFresh, IsScanning, IsTaking}
use Rattle.image_deleting.specs.RemovalTask.{domain_of, image_of}
use Rattle.image_deleting.specs.Steps.{After, StepsIn}
use Rattle.image_deleting.specs.declared.deleting.Stage.TheVariants.{Scanning, Taking}
use Rattle.image_deleting.specs.declared.removal_task.RemovalTask.{RemovalTask}
use Rattle.image_deleting.proofs.Apart.{apart_same}
use Rattle.image_deleting.proofs.Standing.{stands_on_each}
use Rattle.image_deleting.proofs.Turns.{after_ended, after_more}

module _ (t : RemovalTask) (s : Scan) (host faults : ℕ) (up : Hosts) (turn : DeleteTurn) (d e : Content) (known : IsScanning t s host d) where
  scanned : IsSame d e → After turn (Scanning s) t host up faults d e → StepsIn (Scanning s) t host up faults turn d e
  scanned same after = record { apart = apart_same t host d e same; stays = same; leaves = stands_on_each (Scanning s) t host e tt; after = after }

  leases_same : IsSame d e → e.file (leases_of (domain_of t)) ≡ d.file (leases_of (domain_of t))
  leases_same same = ap (λ (c : Content). c.file (leases_of (domain_of t))) same

  abbrev LooksNow : List ℕ → List ℕ → Scanned → Type 0
  LooksNow before room new = Looks (scan_domain s) (scan_image s) (steps_made s) host before room (seen_by s) new d

  read_on : (before room : List ℕ) (new : Scanned) → length before ≡ 65536 → LooksNow before room new → IsReadSince (steps_made s + 1) host (domain_of t) (image_of t) new known.file
  read_on before room new len looks =
      read_more (steps_made s) host (domain_of t) (image_of t) (seen_by s) new known.file d before room known.read known.there known.area len
      (subst (λ (i : Id). Looks (domain_of t) i (steps_made s) host before room (seen_by s) new d) known.image
      (subst (λ (q : Id). Looks q (scan_image s) (steps_made s) host before room (seen_by s) new d) known.domain looks))

  scan_next : (next : Scan) (before room : List ℕ) → length before ≡ 65536 → IsSame d e → LooksNow before room (seen_by next) → IsScanOn s (More next) → IsScanning t next host e
  scan_next next before room len same looks on = record {
    fresh = subst (λ (c : Content). IsFresh t c) (sym same) known.fresh;
    domain = on.sd ∙ known.domain;
    image = on.image ∙ known.image;
    file = known.file;
    there = leases_same same ∙ known.there;
    area = known.area;
    once = known.once;
    read = subst (λ (n : ℕ). IsReadSince n host (domain_of t) (image_of t) (seen_by next) known.file) (sym on.further) (read_on before room (seen_by next) len looks);
  }

  found_in : (a : ℕ × LeaseRecord) (seen : Scanned) → IsReadSince 8 host (domain_of t) (image_of t) seen known.file → seen.found ≡ Some a → IsSame d e → IsTaking t a.0 a.1 e
  found_in a seen read found same =
      let at = found_at host (domain_of t) (image_of t) seen known.file read a found in
      record {
        fresh = subst (λ (c : Content). IsFresh t c) (sym same) known.fresh;
        file = known.file;
        there = leases_same same ∙ known.there;
        area = known.area;
        only = λ k slot names. known.once k a.0 slot at.0 names at.1;
        names = at.1;
        found_is = at.2;
      }

  seen_all : (seen : Scanned) (found : Option (ℕ × LeaseRecord)) → seen.found ≡ found → IsReadSince 8 host (domain_of t) (image_of t) seen known.file → IsSame d e → SeenBy t found turn
      → StepsIn (Scanning s) t host up faults turn d e
  seen_all seen (Some a) found_is read same by = scanned same (after_more t (Scanning s) (Taking a.0 a.1) host up faults turn d e by (found_in a seen read found_is same))
  seen_all seen None found_is read same by =
      scanned same (after_ended t (Scanning s) host up faults turn NoImage d e by (known.file, known.there, known.area, none_found host (domain_of t) (image_of t) seen known.file read found_is))

  eighth : (n : ℕ) → n ≡ 7 → n + 1 ≡ 8
  eighth n is = omega (arith, is)

  pub scan_step : (step : Turn Scan Scanned (Unit {0})) (before room : List ℕ) → length before ≡ 65536 → ScanSteps s host faults before room step d e → IsScanOn s step → IsScanned t step turn
      → StepsIn (Scanning s) t host up faults turn d e
  scan_step (More next) before room len call on by =
      scanned call.0 (after_more t (Scanning s) (Scanning next) host up faults turn d e by (scan_next next before room len call.0 call.1 on))
  scan_step (Done seen) before room len call on by =
      seen_all seen seen.found refl
      (subst (λ (n : ℕ). IsReadSince n host (domain_of t) (image_of t) seen known.file) (eighth (steps_made s) on) (read_on before room seen len call.1)) call.0 by
  scan_step (Ended u refusal) before room len call on by = ended call.1
    where
      ended : (refusal ≡ DiskFault faults) ⊎ ((refusal ≡ refusal_of NoFile faults) × (d.file (leases_of (scan_domain s)) ≡ None)) → StepsIn (Scanning s) t host up faults turn d e
      ended (inl is) = scanned call.0 (after_ended t (Scanning s) host up faults turn (DiskFault faults) d e (by ∙ ap (λ (r : Refusal). Ended tt r) is) refl)
      ended (inr w) = absurd (no_file known.file (d.file (leases_of (domain_of t))) (ap (λ (q : Id). d.file (leases_of q)) (sym known.domain) ∙ w.1) known.there)
