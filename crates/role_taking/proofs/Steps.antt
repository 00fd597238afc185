-- Each step of a start, on a disk that stands for a pool, is a turn of the pool's machine.
use Rattle.std.proofs.Common.{◌≡◌, ℕ, ◌≤◌, false, List, Option, Some, None, Result, Ok, Err, refl, sym, ap, subst, ◌∙◌, inl, inr, ◌⊎◌}
use Rattle.std.specs.Prelude.{MatchResult}
use Rattle.sd_names.specs.UpSet.{Hosts, is_up}
use Rattle.sd_names.specs.declared.id.Id.{Id}
use Rattle.sd_names.specs.declared.refusal.Refusal.{Refusal}
use Rattle.sd_names.specs.declared.refusal.Refusal.TheVariants.{DiskFault, OutOfMemory}
use Rattle.sd_names.specs.declared.turn.Turn.{Turn}
use Rattle.sd_names.specs.declared.turn.Turn.TheVariants.{Done, Ended, More}
use Rattle.shared_disk.specs.Calls.{IsSame}
use Rattle.shared_disk.specs.Content.{Content}
use Rattle.shared_disk.specs.Step.{GoesOn}
use Rattle.domain_meta.specs.declared.record.DomainRecord.{DomainRecord}
use Rattle.lease_area.specs.Hold.{IsMoved, Takes}
use Rattle.lease_area.specs.Move.{taken_by}
use Rattle.lease_area.specs.Sector.{IsSector, sector_bytes}
use Rattle.lease_area.specs.declared.sector.Kind.TheVariants.{Guest}
use Rattle.lease_area.specs.declared.sector.LeaseRecord.{LeaseRecord}
use Rattle.lease_area.specs.declared.sector.Sector.{Sector}
use Rattle.lease_area.specs.declared.sector.Sector.TheVariants.{Lease}
use Rattle.spm_role.specs.Asked.{owner_kept, version_kept}
use Rattle.spm_role.specs.Look.{look_answer}
use Rattle.spm_role.specs.Start.{EndsBy, EndsWith, HasRead, IsAt, IsManager, IsManagerBy, StartsBy, domain_of, lver_of, prev_of, stage_of}
use Rattle.spm_role.specs.declared.spm.Spm.{Spm}
use Rattle.spm_role.specs.declared.start.SpmStart.{SpmStart}
use Rattle.spm_role.specs.declared.start.Stage.{Stage}
use Rattle.spm_role.specs.declared.start.Stage.TheVariants.{Begun, Known, Listed, Seen}
use Rattle.pool_model.specs.Laws.{with_role}
use Rattle.pool_model.specs.Kept.{StillKept}
use Rattle.pool_model.specs.Marks.{Mark, recovery}
use Rattle.pool_model.specs.Pool.{Pool}
use Rattle.pool_model.specs.Rules.{Passing, here, text_of}
use Rattle.pool_model.specs.Standing.{Stands}
use Rattle.pool_model.specs.State.{HostState, Kept}
use Rattle.pool_model.specs.Turns.{HostTurns, more, refused}
use Rattle.pool_model.proofs.Kept.{standing_keeps}
use Rattle.pool_model.proofs.OneDomain.{Said, master_of as master_by_text}
use Rattle.pool_model.proofs.Roles.{nothing_changed, nothing_owned}
use Rattle.role_taking.specs.Asked.{Asked, IsAsked}
use Rattle.role_taking.specs.Knows.{KnowsAfter, KnowsSector, KnowsStage}
use Rattle.role_taking.specs.Marks.{all_marks, answer_of, next_steps, role_marks, running_after, running_with, runs, stage_marks, verb_of}
use Rattle.role_taking.specs.Taking.{Stepped, TakesRole}
use Rattle.role_taking.specs.declared.taking.RoleTaking.{RoleTaking}
use Rattle.role_taking.specs.declared.taking.RoleTaking.TheVariants.{Starting, Taken}
use Rattle.role_taking.proofs.Leading.{leases_here, led_sector, look_reads, master_reads, moved_to, sector_stands}
use Rattle.role_taking.proofs.Passing.{by, faulty_turn, lacking_turn, on_turn, role_passes, run, sector_refused, sector_told, text_passes, text_refused, text_told}
use Rattle.role_taking.proofs.Sectors.{exchange_answers, taken_as}
use Rattle.role_taking.proofs.Texts.{Reads, master_read, text_reads}

-- the turn of a taking, by that of its start
abbrev pub turn_of : Turn SpmStart Spm (Unit {0}) → Turn RoleTaking Spm (Unit {0})
turn_of (More next) = More (Starting next)
turn_of (Done spm) = More (Taken spm)
turn_of (Ended b e) = Ended tt e

abbrev pub asked_of : SpmStart → Asked
asked_of s = record { sd = domain_of s; prev = prev_of s; lver = lver_of s }

ok_err : {A : Type 0} (r : A) (e : Refusal) → ◌≡◌ {A = Result A Refusal} (Ok r) (Err e) → ⊥
ok_err r e is = cc

err_ok : {A : Type 0} (r : A) (e : Refusal) → ◌≡◌ {A = Result A Refusal} (Err e) (Ok r) → ⊥
err_ok r e is = cc

same_err : {A : Type 0} (e f : Refusal) → ◌≡◌ {A = Result A Refusal} (Err e) (Err f) → e ≡ f
same_err e f is = cc

same_ok : {A : Type 0} (a b : A) → ◌≡◌ {A = Result A Refusal} (Ok a) (Ok b) → a ≡ b
same_ok a b is = cc

-- what was read, where something was
pub read_ok : (faults : ℕ) (o : Option Said) (r : DomainRecord) → Reads faults o (Ok r) → master_read o ≡ Ok r
read_ok faults o r (inl is) = sym is
read_ok faults o r (inr (inl lacks)) = absurd (ok_err r OutOfMemory lacks)
read_ok faults o r (inr (inr failed)) = absurd (ok_err r (DiskFault faults) failed)

-- the record that a taking of what stands there gives
taken_ok : (h : ℕ) (l : Result Sector Refusal) (new : LeaseRecord) → taken_as h l ≡ Ok new → (z : Sector) × (l ≡ Ok z) × (taken_by h Guest z ≡ new)
taken_ok h (Ok z) new is = (z, refl, same_ok (taken_by h Guest z) new is)
taken_ok h (Err e) new is = absurd (err_ok new e is)

taken_err : (h : ℕ) (l : Result Sector Refusal) (e : Refusal) → taken_as h l ≡ Err e → l ≡ Err e
taken_err h (Ok z) e is = absurd (ok_err (taken_by h Guest z) e is)
taken_err h (Err f) e is = ap (λ (g : Refusal). Err g) (same_err f e is)

module _ (h : ℕ) (up : Hosts) (a : Asked) (k l : Kept) (still : StillKept k l) (steps : ℕ) (x : HostState) (d e : Content) (p : Pool) (stands : Stands up d p) where
  -- nothing has changed
  pub same_step : (ms : List Mark) (turn : Turn RoleTaking Spm (Unit {0}))
      → HostTurns h up (runs x (Some (running_with a k steps ms))) p (answer_of turn) (runs x (running_after a l steps turn)) p → KnowsAfter h turn p → IsSame d e
      → Stepped h up a k l steps x ms turn d p e
  same_step ms turn turns knows same = subst (λ (c : Content). Stepped h up a k l steps x ms turn d p c) (sym same) (record {
    pool = p;
    turns = turns;
    stands = stands;
    knows = knows;
    keeps = standing_keeps up d p stands;
    owned = nothing_owned h up (verb_of a) p d;
    changes = nothing_changed h up p;
    only = inl refl;
  })

  -- the start goes on in this stage
  next_step : (ms : List Mark) (stage : Stage) (next : SpmStart) → stage_of next ≡ stage → domain_of next ≡ a.sd → Passing (by h up a k steps x p ms) ms 0 p (stage_marks a stage) 0 p
      → KnowsStage stage a.sd p → IsSame d e → Stepped h up a k l steps x ms (More (Starting next)) d p e
  next_step ms stage next now domain passing knows same = same_step ms (More (Starting next))
      (subst (λ (s : Stage). HostTurns h up (runs x (Some (running_with a k steps ms))) p more (runs x (Some (running_with a l (next_steps steps) (stage_marks a s)))) p)
      (sym now) (on_turn h up a k steps x p ms (stage_marks a stage) p l still passing))
      (subst (λ (s : Stage). KnowsStage s (domain_of next) p) (sym now) (subst (λ (i : Id). KnowsStage stage i p) (sym domain) knows)) same

  -- it ends by a refusal, and nothing has changed
  pub ended_step : (ms : List Mark) (refusal : Refusal) → HostTurns h up (runs x (Some (run h up a k steps x p ms))) p (refused refusal) (runs x None) p → IsSame d e
      → Stepped h up a k l steps x ms (Ended tt refusal) d p e
  ended_step ms refusal turns same = same_step ms (Ended tt refusal) turns tt same

  pub lacking_step : (ms : List Mark) (refusal : Refusal) → refusal ≡ OutOfMemory → IsSame d e → Stepped h up a k l steps x ms (Ended tt refusal) d p e
  lacking_step ms refusal is same = subst (λ (r : Refusal). Stepped h up a k l steps x ms (Ended tt r) d p e) (sym is)
      (ended_step ms OutOfMemory (lacking_turn h up a k steps x p ms) same)

  pub faulty_step : (ms : List Mark) (faults : ℕ) (refusal : Refusal) → refusal ≡ DiskFault faults → IsSame d e → Stepped h up a k l steps x ms (Ended tt refusal) d p e
  faulty_step ms faults refusal is same = subst (λ (r : Refusal). Stepped h up a k l steps x ms (Ended tt r) d p e) (sym is)
      (ended_step ms (DiskFault faults) (faulty_turn h up a k steps x p faults ms ms p here) same)

  -- a text that reads as a master's is answered so, but for want of memory and a fault
  pub listed_ends : (ms : List Mark) (faults : ℕ) (r : DomainRecord) (refusal : Refusal) → master_read (text_of p a.sd) ≡ Ok r → Reads faults (text_of p a.sd) (Err refusal) → IsSame d e
      → Stepped h up a k l steps x ms (Ended tt refusal) d p e
  listed_ends ms faults r refusal reads (inl is) same = absurd (err_ok r refusal (is ∙ reads))
  listed_ends ms faults r refusal reads (inr (inl lacks)) same = lacking_step ms refusal (same_err refusal OutOfMemory lacks) same
  listed_ends ms faults r refusal reads (inr (inr failed)) same = faulty_step ms faults refusal (same_err refusal (DiskFault faults) failed) same

module _ (h : ℕ) (up : Hosts) (k l : Kept) (still : StillKept k l) (steps : ℕ) (x : HostState) (d e : Content) (p : Pool) (stands : Stands up d p) (s : SpmStart) (faults : ℕ) where
  abbrev a : Asked
  a = asked_of s

  abbrev Went : List Mark → Turn SpmStart Spm (Unit {0}) → Type 0
  Went ms turn = Stepped h up a k l steps x ms (turn_of turn) d p e

  ended : (ms : List Mark) (turn : Turn SpmStart Spm (Unit {0})) (refusal : Refusal) → EndsBy turn refusal → Stepped h up a k l steps x ms (Ended tt refusal) d p e → Went ms turn
  ended ms turn refusal is step = subst (λ (t : Turn SpmStart Spm (Unit {0})). Went ms t) (sym is) step

  -- the text is read
  begun : (turn : Turn SpmStart Spm (Unit {0})) (read : Result DomainRecord Refusal) → Reads faults (text_of p a.sd) read
      → MatchResult read (λ _. GoesOn (IsAt s Known) turn) (EndsBy turn) → IsSame d e → Went (all_marks a) turn
  begun (More next) (Ok r) reads at same =
      let told = text_told h up a k steps x p (text_of p a.sd) r refl (read_ok faults (text_of p a.sd) r reads) in
      next_step h up a k l still steps x d e p stands (all_marks a) Known next at.now_in at.same.domain
      (text_passes h up a k steps x p r told.0 told.1 told.2) (master_by_text up d p a.sd r stands told.0 told.2) same
  begun (Done spm) (Ok r) reads at same = absurd at
  begun (Ended b f) (Ok r) reads at same = absurd at
  begun turn (Err refusal) reads ends same = ended (all_marks a) turn refusal ends (by_answer reads)
    where
      by_answer : Reads faults (text_of p a.sd) (Err refusal) → Stepped h up a k l steps x (all_marks a) (Ended tt refusal) d p e
      by_answer (inl is) = ended_step h up a k l still steps x d e p stands (all_marks a) refusal
          (text_refused h up a k steps x p (text_of p a.sd) refusal refl (sym is)) same
      by_answer (inr (inl lacks)) = lacking_step h up a k l still steps x d e p stands (all_marks a) refusal (same_err refusal OutOfMemory lacks) same
      by_answer (inr (inr failed)) = faulty_step h up a k l still steps x d e p stands (all_marks a) faults refusal (same_err refusal (DiskFault faults) failed) same

  abbrev first : Sector
  first = p.sector a.sd 0

  -- sector 0 is read
  known : (turn : Turn SpmStart Spm (Unit {0})) (found : Result Sector Refusal) → p.master ≡ Some a.sd
      → (found ≡ look_answer up h a.prev a.lver (Some first)) ⊎ (found ≡ Err (DiskFault faults))
      → MatchResult found (λ z. GoesOn (IsAt s (Seen z)) turn) (EndsBy turn) → IsSame d e → Went (role_marks a) turn
  known (More next) (Ok z) master (inl is) at same =
      let told = sector_told h up a k steps x p z (sym is) in
      let leases = leases_here up d p a.sd stands master in
      next_step h up a k l still steps x d e p stands (role_marks a) (Seen z) next at.now_in at.same.domain here
      (record { master = master; fits = subst (λ (w : Sector). IsSector w) told.3 (leases.fits 0); role = λ r is. leases.role r (told.3 ∙ is); comes = inl told.3 }) same
  known (More next) (Ok z) master (inr failed) at same = absurd (ok_err z (DiskFault faults) failed)
  known (Done spm) (Ok z) master is at same = absurd at
  known (Ended b f) (Ok z) master is at same = absurd at
  known turn (Err refusal) master (inl is) ends same = ended (role_marks a) turn refusal ends
      (ended_step h up a k l still steps x d e p stands (role_marks a) refusal (sector_refused h up a k steps x p refusal (sym is)) same)
  known turn (Err refusal) master (inr failed) ends same = ended (role_marks a) turn refusal ends
      (faulty_step h up a k l still steps x d e p stands (role_marks a) faults refusal (same_err refusal (DiskFault faults) failed) same)

  -- the text is read again
  seen : (z : Sector) (turn : Turn SpmStart Spm (Unit {0})) (read : Result DomainRecord Refusal) → KnowsSector z a.sd p → Reads faults (text_of p a.sd) read
      → MatchResult read (λ r. GoesOn (HasRead s z r) turn) (EndsBy turn) → IsSame d e → Went (role_marks a) turn
  seen z (More next) (Ok r) knows reads at same =
      next_step h up a k l still steps x d e p stands (role_marks a) (Listed z r.pool) next at.now_in at.same.domain here knows same
  seen z (Done spm) (Ok r) knows reads at same = absurd at
  seen z (Ended b f) (Ok r) knows reads at same = absurd at
  seen z turn (Err refusal) knows reads ends same = ended (role_marks a) turn refusal ends
      (let master = master_reads up d p a.sd stands knows.master in
      listed_ends h up a k l still steps x d e p stands (role_marks a) faults master.0 refusal master.1 reads same)

  -- sector 0 is exchanged
  module _ (host : (1 ≤ h) × (h ≤ 250)) (nobody : is_up up 0 ≡ false) (master : p.master ≡ Some a.sd) where
    abbrev new : LeaseRecord
    new = taken_by h Guest first

    abbrev looks : Result Sector Refusal
    looks = look_answer up h a.prev a.lver (Some first)

    -- the exchange is done
    moved_step : (turn : Turn RoleTaking Spm (Unit {0})) (z : Sector) → looks ≡ Ok z → IsMoved d a.sd 0 (Lease new) e
        → HostTurns h up (runs x (Some (running_with a k steps (role_marks a)))) p (answer_of turn) (runs x (running_after a l steps turn)) (with_role p a.sd new)
        → KnowsAfter h turn (with_role p a.sd new) → Stepped h up a k l steps x (role_marks a) turn d p e
    moved_step turn z is moved turns knows =
        let told = sector_told h up a k steps x p z is in
        let to = moved_to h up a d e p stands host nobody master told.0 moved in
        record {
          pool = with_role p a.sd new;
          turns = turns;
          stands = to.stands;
          knows = knows;
          keeps = to.keeps;
          owned = to.owned;
          changes = to.changes;
          only = inr (new, refl);
        }

    passes : (z : Sector) → looks ≡ Ok z → Passing (by h up a k steps x p (role_marks a)) (role_marks a) 0 p recovery 0 (with_role p a.sd new)
    passes z is = let told = sector_told h up a k steps x p z is in role_passes h up a k steps x p master told.0 told.1 told.2

    -- the new lease is that of what stands there
    new_is : (z : Sector) (r : LeaseRecord) → looks ≡ Ok z → taken_by h Guest z ≡ r → new ≡ r
    new_is z r is made = let told = sector_told h up a k steps x p z is in ap (λ (w : Sector). taken_by h Guest w) told.3 ∙ made

    taken : (turn : Turn SpmStart Spm (Unit {0})) (result : Result LeaseRecord Refusal) → EndsWith (IsManager s h) turn
        → Takes a.sd 0 (taken_as h looks) faults result d e → MatchResult result (IsManagerBy turn) (EndsBy turn) → Went (role_marks a) turn
    taken (More next) (Ok r) manages (ans, moved) is = absurd is
    taken (Ended b f) (Ok r) manages (ans, moved) is = absurd is
    taken (Done spm) (Ok r) manages (ans, moved) is =
        let found = taken_ok h looks r ans in
        let same = new_is found.0 r found.1 found.2 in
        moved_step (More (Taken spm)) found.0 found.1 (subst (λ (y : LeaseRecord). IsMoved d a.sd 0 (Lease y) e) (sym same) moved)
        (on_turn h up a k steps x p (role_marks a) recovery (with_role p a.sd new) l still (passes found.0 found.1))
        (record { master = master ∙ ap (λ (i : Id). Some i) (sym manages.master); lease = ap (λ (i : Id). (with_role p a.sd new).sector i 0) manages.master ∙ led_sector p a.sd new ∙ ap (λ (y : LeaseRecord). Lease y) (same ∙ sym is); owner = manages.host })
    taken turn (Err refusal) manages (inl (ans, same)) ends = ended (role_marks a) turn refusal ends
        (ended_step h up a k l still steps x d e p stands (role_marks a) refusal (sector_refused h up a k steps x p refusal (taken_err h looks refusal ans)) same)
    taken turn (Err refusal) manages (inr (fault, inl same)) ends = ended (role_marks a) turn refusal ends
        (faulty_step h up a k l still steps x d e p stands (role_marks a) faults refusal fault same)
    taken turn (Err refusal) manages (inr (fault, inr (r, ans, moved))) ends =
        let found = taken_ok h looks r ans in
        let same = new_is found.0 r found.1 found.2 in
        ended (role_marks a) turn refusal ends (subst (λ (f : Refusal). Stepped h up a k l steps x (role_marks a) (Ended tt f) d p e) (sym fault)
        (moved_step (Ended tt (DiskFault faults)) found.0 found.1 (subst (λ (y : LeaseRecord). IsMoved d a.sd 0 (Lease y) e) (sym same) moved)
        (faulty_turn h up a k steps x p faults (role_marks a) recovery (with_role p a.sd new) (passes found.0 found.1)) tt))

  -- ---- the whole

  -- the step of each stage
  by_stage : (stage : Stage) (turn : Turn SpmStart Spm (Unit {0})) → (1 ≤ h) × (h ≤ 250) → is_up up 0 ≡ false → owner_kept stage (prev_of s) ≡ prev_of s
      → version_kept stage (lver_of s) ≡ lver_of s → EndsWith (IsManager s h) turn → KnowsStage stage a.sd p → StartsBy stage s h up faults turn d e
      → Went (stage_marks a stage) turn
  by_stage Begun turn host nobody owner version manages knows (read, reads, follows) =
      let told = text_reads up d e p a.sd h faults read stands reads in begun turn read told.1 follows told.0
  by_stage Known turn host nobody owner version manages knows (found, looks, follows) =
      let told = look_reads up d p a.sd stands knows h a.prev a.lver faults found e looks in known turn found knows told.1 follows told.0
  by_stage (Seen z) turn host nobody owner version manages knows (read, reads, follows) =
      let told = text_reads up d e p a.sd h faults read stands reads in seen z turn read knows told.1 follows told.0
  by_stage (Listed z pool) turn host nobody owner version manages knows (result, by, takes, follows) =
      let leases = leases_here up d p a.sd stands knows.master in
      taken host nobody knows.master turn result manages
      (subst (λ (r : Result LeaseRecord Refusal). Takes a.sd 0 r faults result d e)
      (exchange_answers up h z first knows.fits (leases.fits 0) knows.role leases.role knows.comes a.prev a.lver owner version)
      (takes (sector_bytes first) (sector_stands up d p a.sd stands knows.master))) follows

-- the same for whatever was asked
same_asked : (s : SpmStart) (b : Asked) → IsAsked b (Starting s) → asked_of s ≡ b
same_asked s b is =
    ap (λ (i : Id). record { sd = i; prev = prev_of s; lver = lver_of s }) is.domain_is
    ∙ ap (λ (n : ℕ). record { sd = b.sd; prev = n; lver = lver_of s }) is.prev_is
    ∙ ap (λ (n : ℕ). record { sd = b.sd; prev = b.prev; lver = n }) is.lver_is

pub start_steps : (h : ℕ) (up : Hosts) (s : SpmStart) (turn : Turn SpmStart Spm (Unit {0})) (faults : ℕ) (d e : Content) → (1 ≤ h) × (h ≤ 250) → is_up up 0 ≡ false
    → owner_kept (stage_of s) (prev_of s) ≡ prev_of s → version_kept (stage_of s) (lver_of s) ≡ lver_of s → EndsWith (IsManager s h) turn
    → StartsBy (stage_of s) s h up faults turn d e → TakesRole h up (Starting s) (turn_of turn) d e
start_steps h up s turn faults d e host nobody owner version manages starts wanted k l steps x p still asked stands knows =
    subst (λ (b : Asked). Stepped h up b k l steps x (stage_marks b (stage_of s)) (turn_of turn) d p e) (same_asked s wanted asked)
    (by_stage h up k l still steps x d e p stands s faults (stage_of s) turn host nobody owner version manages knows starts)
