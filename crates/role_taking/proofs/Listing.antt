-- The last step of a taking: the list of domains is read behind the exchange.
use Rattle.std.proofs.Common.{◌≡◌, ℕ, true, List, Option, Some, Result, Ok, Err, sym, ap, subst, ◌∙◌}
use Rattle.std.specs.Prelude.{Contains, OnOk}
use Rattle.sd_names.specs.UpSet.{Hosts}
use Rattle.sd_names.specs.declared.id.Id.{Id}
use Rattle.sd_names.specs.declared.refusal.Refusal.{Refusal}
use Rattle.sd_names.specs.declared.turn.Turn.{Turn}
use Rattle.sd_names.specs.declared.turn.Turn.TheVariants.{Done, Ended}
use Rattle.shared_disk.specs.Calls.{IsSame}
use Rattle.shared_disk.specs.Content.{Content}
use Rattle.domain_meta.specs.Values.{is_rising}
use Rattle.domain_meta.specs.declared.record.DomainRecord.{DomainRecord}
use Rattle.lease_area.specs.Hold.{record_of}
use Rattle.lease_area.specs.declared.lease.Lease.{Lease as Held}
use Rattle.lease_area.specs.declared.sector.Sector.TheVariants.{Lease}
use Rattle.spm_role.specs.List.{IsListed, IsSameManager, ListsPool}
use Rattle.spm_role.specs.Spm.{domains_of, master_of}
use Rattle.spm_role.specs.declared.spm.Spm.{Spm}
use Rattle.pool_model.specs.Kept.{StillKept}
use Rattle.pool_model.specs.Marks.{recovery}
use Rattle.pool_model.specs.Pool.{Pool}
use Rattle.pool_model.specs.Rules.{here, text_of}
use Rattle.pool_model.specs.Standing.{Stands}
use Rattle.pool_model.specs.State.{HostState, Kept}
use Rattle.role_taking.specs.Asked.{Asked}
use Rattle.role_taking.specs.Knows.{KnowsDomains, KnowsLed}
use Rattle.role_taking.specs.Taking.{Stepped, TakesRole}
use Rattle.role_taking.specs.declared.taking.RoleTaking.{RoleTaking}
use Rattle.role_taking.specs.declared.taking.RoleTaking.TheVariants.{Taken}
use Rattle.role_taking.proofs.Domains.{rising_sorted}
use Rattle.role_taking.proofs.Leading.{lists_here, master_reads}
use Rattle.role_taking.proofs.Passing.{on_turn}
use Rattle.role_taking.proofs.Steps.{listed_ends, read_ok, same_step}
use Rattle.role_taking.proofs.Texts.{Reads, text_reads}

-- the turn, by what the reading answered
abbrev pub turn_by : Result (Unit {0}) Refusal → Spm → Turn RoleTaking Spm (Unit {0})
turn_by (Ok _) spm = Done spm
turn_by (Err e) spm = Ended tt e

ok_err : (e : Refusal) → ◌≡◌ {A = Result (Unit {0}) Refusal} (Ok tt) (Err e) → ⊥
ok_err e is = cc

err_ok : (e : Refusal) → ◌≡◌ {A = Result (Unit {0}) Refusal} (Ok tt) (Err e) → ⊥
err_ok e is = cc

same_err : (e f : Refusal) → ◌≡◌ {A = Result (Unit {0}) Refusal} (Err e) (Err f) → e ≡ f
same_err e f is = cc

same_record : (r s : DomainRecord) → ◌≡◌ {A = Result DomainRecord Refusal} (Ok r) (Ok s) → r ≡ s
same_record r s is = cc

same_said : (o : Option DomainRecord) (r s : DomainRecord) → o ≡ Some r → o ≡ Some s → r ≡ s
same_said o r s e f = cc

-- the same lease, by the same manager
led_still : (h : ℕ) (spm next : Spm) (p : Pool) → IsSameManager spm next → KnowsLed h spm p → KnowsLed h next p
led_still h spm next p same knows = record {
  master = knows.master ∙ ap (λ (i : Id). Some i) (sym same.master);
  lease = ap (λ (i : Id). p.sector i 0) same.master ∙ knows.lease ∙ ap (λ (l : Held). Lease (record_of l)) (sym same.lease);
  owner = ap (λ (l : Held). (record_of l).owner) same.lease ∙ knows.owner;
}

module _ (h : ℕ) (up : Hosts) (k l : Kept) (still : StillKept k l) (steps : ℕ) (x : HostState) (d e : Content) (p : Pool) (stands : Stands up d p) (spm next : Spm) (a : Asked) (faults : ℕ)
    (asked : master_of spm ≡ a.sd) (knows : KnowsLed h spm p) (same_spm : IsSameManager spm next) where
  master : p.master ≡ Some a.sd
  master = knows.master ∙ ap (λ (i : Id). Some i) asked

  -- the domains that the master's record lists are those of the pool
  listed : (r : DomainRecord) → p.domain a.sd ≡ Some r → (ids : List Id) → ids ≡ r.domains → is_rising ids ≡ true → KnowsDomains ids p
  listed r is ids same rising =
      let lists = lists_here up d p a.sd stands master in
      let record_is : lists.is ≡ r = same_said (p.domain a.sd) lists.is r lists.listed is in
      let domains : lists.is.domains ≡ ids = ap (λ (y : DomainRecord). y.domains) record_is ∙ sym same in record {
        rising = rising_sorted ids rising;
        are = λ sd among. (lists.lists sd).0 (subst (λ (l : List Id). Contains l sd) (sym domains) among);
        all = λ sd s there. subst (λ (l : List Id). Contains l sd) domains ((lists.lists sd).1 (s, there));
      }

  by_answer : (found : Result DomainRecord Refusal) (result : Result (Unit {0}) Refusal) → Reads faults (text_of p a.sd) found → IsSame d e
      → IsListed found result (domains_of spm) (domains_of next) → OnOk result (is_rising (domains_of next) ≡ true)
      → Stepped h up a k l steps x recovery (turn_by result next) d p e
  by_answer (Ok r) (Ok u) reads same (is, listed_is) rising =
      let read = master_reads up d p a.sd stands master in
      let told : read.0 ≡ r = same_record read.0 r (sym read.1 ∙ read_ok faults (text_of p a.sd) r reads) in
      same_step h up a k l still steps x d e p stands recovery (Done next) (on_turn h up a k steps x p recovery recovery p l still here)
      (led_still h spm next p same_spm knows, listed r (read.2 ∙ ap (λ (y : DomainRecord). Some y) told) (domains_of next) listed_is rising) same
  by_answer (Ok r) (Err f) reads same (is, listed_is) rising = absurd (ok_err f (sym is))
  by_answer (Err f) (Ok u) reads same (is, listed_is) rising = absurd (err_ok f is)
  by_answer (Err f) (Err g) reads same (is, listed_is) rising =
      let read = master_reads up d p a.sd stands master in
      subst (λ (r : Refusal). Stepped h up a k l steps x recovery (Ended tt r) d p e) (sym (same_err g f is))
      (listed_ends h up a k l still steps x d e p stands recovery faults read.0 f read.1 reads same)

pub list_steps : (h : ℕ) (up : Hosts) (spm next : Spm) (result : Result (Unit {0}) Refusal) (faults : ℕ) (d e : Content) → IsSameManager spm next
    → OnOk result (is_rising (domains_of next) ≡ true) → ListsPool h (master_of spm) faults result (domains_of spm) (domains_of next) d e
    → TakesRole h up (Taken spm) (turn_by result next) d e
list_steps h up spm next result faults d e same rising (found, reads, listed) a k l steps x p still asked stands knows =
    let told = text_reads up d e p (master_of spm) h faults found stands reads in
    by_answer h up k l still steps x d e p stands spm next a faults asked.master knows same found result
    (subst (λ (i : Id). Reads faults (text_of p i) found) asked.master told.1) told.0 listed rising
