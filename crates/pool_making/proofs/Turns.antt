-- What a turn tells, and what a step leaves, from what its call did.
use Rattle.std.proofs.Common.{◌≡◌, ℕ, true, Option, refl, sym, ap, subst, ◌∙◌, inl, inr}
use Rattle.sd_names.specs.declared.id.Id.{Id}
use Rattle.sd_names.specs.declared.place.Place.{Place}
use Rattle.sd_names.specs.declared.refusal.Refusal.{Refusal}
use Rattle.sd_names.specs.declared.refusal.Refusal.TheVariants.{DiskFault}
use Rattle.sd_names.specs.declared.turn.Turn.{Turn}
use Rattle.sd_names.specs.declared.turn.Turn.TheVariants.{More, Done, Ended}
use Rattle.shared_disk.specs.Calls.{IsDirPut, IsPut, IsSame}
use Rattle.shared_disk.specs.Content.{Content, File}
use Rattle.shared_disk.specs.Step.{GoesOn}
use Rattle.domain_meta.specs.Text.{domain_text}
use Rattle.domain_meta.specs.declared.record.DomainRecord.{DomainRecord}
use Rattle.pool_making.proofs.Parts.{dirs_kept}
use Rattle.pool_making.specs.Layout.{IsOwn, area_place, folder_of}
use Rattle.pool_making.specs.Making.{IsAt, domain_of, record_of, stage_of, text_of}
use Rattle.pool_making.specs.Steps.{After, Counts, IsApart, IsReady, IsRefused, Knows, MakeSteps}
use Rattle.pool_making.specs.declared.layout.Area.{Area}
use Rattle.pool_making.specs.declared.layout.Area.TheVariants as area
use Rattle.pool_making.specs.declared.layout.Folder.{Folder}
use Rattle.pool_making.specs.declared.making.MakePool.{MakePool}
use Rattle.pool_making.specs.declared.making.Stage.{Stage}

-- what the next stage knows
pub goes_on : (m next : MakePool) (s : Stage) (host : ℕ) (e : Content) → record_of next ≡ record_of m → stage_of next ≡ s → IsReady s (domain_of m) (text_of m) host e → Knows next host e
goes_on m next s host e same now ready =
    subst (λ (r : DomainRecord). IsReady (stage_of next) r.sduuid (domain_text r) host e) (sym same)
    (subst (λ (x : Stage). IsReady x (domain_of m) (text_of m) host e) (sym now) ready)

pub after_more : (m : MakePool) (s : Stage) (host faults : ℕ) (turn : Turn MakePool (Unit {0}) (Unit {0})) (d e : Content) → GoesOn (IsAt m s) turn → IsReady s (domain_of m) (text_of m) host e
    → After turn m host faults d e
after_more m s host faults (More next) d e at ready = goes_on m next s host e at.same at.now_in ready
after_more m s host faults (Done u) d e at ready = absurd at
after_more m s host faults (Ended u refusal) d e at ready = absurd at

pub after_refusal : (m : MakePool) (host faults : ℕ) (turn : Turn MakePool (Unit {0}) (Unit {0})) (refusal : Refusal) (d e : Content) → turn ≡ Ended tt refusal
    → IsRefused refusal (domain_of m) faults d → After turn m host faults d e
after_refusal m host faults turn refusal d e is why = subst (λ (t : Turn MakePool (Unit {0}) (Unit {0})). After t m host faults d e) (sym is) why

pub after_fault : (m : MakePool) (host faults : ℕ) (turn : Turn MakePool (Unit {0}) (Unit {0})) (d e : Content) → turn ≡ Ended tt (DiskFault faults) → After turn m host faults d e
after_fault m host faults turn d e is = after_refusal m host faults turn (DiskFault faults) d e is refl

-- a step of a stage
pub step_in : (s : Stage) (m : MakePool) (host faults : ℕ) (turn : Turn MakePool (Unit {0}) (Unit {0})) (d e : Content) → stage_of m ≡ s → IsApart (domain_of m) d e
    → Counts s (domain_of m) (text_of m) d e → After turn m host faults d e → MakeSteps m host faults turn d e
step_in s m host faults turn d e is apart counts after = record {
  apart = apart;
  counts = subst (λ (x : Stage). Counts x (domain_of m) (text_of m) d e) (sym is) counts;
  after = after;
}

-- nothing has changed, or a folder, or a file of zeros
pub apart_same : (sd : Id) (d e : Content) → IsSame d e → IsApart sd d e
apart_same sd d e same = record {
  dirs = λ q _. ap (λ (c : Content). c.dir q) same;
  kept = λ q there. ap (λ (c : Content). c.dir q) same ∙ there;
  files = λ q _. ap (λ (c : Content). c.file q) same;
}

pub apart_dir : (sd : Id) (f : Folder) (d e : Content) → IsDirPut d (folder_of sd f) true e → IsApart sd d e
apart_dir sd f d e put = record {
  dirs = λ q apart. put.others q (λ same. apart (f, same));
  kept = dirs_kept f sd d e put;
  files = λ q _. put.files q;
}

pub own_area : (sd : Id) (a : Area) (q : Place) → q ≡ area_place sd a → IsOwn sd q
own_area sd area.Leases q is = inl is
own_area sd area.Inbox q is = inr (inl is)
own_area sd area.Outbox q is = inr (inr (inl is))

pub apart_area : (sd : Id) (a : Area) (d e : Content) (new : Option File) → IsPut d (area_place sd a) new e → IsApart sd d e
apart_area sd a d e new put = record {
  dirs = λ q _. put.dirs q;
  kept = λ q there. put.dirs q ∙ there;
  files = λ q apart. put.others q (λ same. apart (own_area sd a q same));
}
