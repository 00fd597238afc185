-- The begin of a verb.
use Rattle.std.proofs.Common.{◌≡◌, ℕ, false, List, Option, Some, None, Result, Err, refl, sym, ap, subst, ◌∙◌, inl, inr, arith}
use Rattle.std.proofs.lemmas.Bool.{false≢true}
use Rattle.std.specs.Option.{is_some}
use Rattle.sd_names.specs.UpSet.{Hosts}
use Rattle.sd_names.specs.declared.fault.DomainFault.{DomainFault}
use Rattle.sd_names.specs.declared.id.Id.{Id}
use Rattle.sd_names.specs.declared.refusal.Refusal.{Refusal}
use Rattle.sd_names.specs.declared.refusal.Refusal.TheVariants.{NotSpm, TaskOpen}
use Rattle.sd_names.specs.declared.verb.Verb.{Verb as Said}
use Rattle.sd_names.specs.declared.verb.Verb.TheVariants as said
use Rattle.domain_meta.specs.declared.record.DomainRecord.{DomainRecord}
use Rattle.pool_model.specs.Bars.{Bars, Begins, FirstBar, IsBegun, bars_of, leading, none_begun, role_begun}
use Rattle.pool_model.specs.Kept.{IsKept}
use Rattle.pool_model.specs.Marks.{HasMarks}
use Rattle.pool_model.specs.Measured.{no_sizes}
use Rattle.pool_model.specs.Most.{WithinMost}
use Rattle.pool_model.specs.Pool.{Pool, no_pool}
use Rattle.pool_model.specs.State.{HostState, Kept, Opened}
use Rattle.pool_model.specs.Verb.{IsBuilt, Verb, verb_said}
use Rattle.pool_model.specs.Verb as verb
use Rattle.host_core.specs.Bars.{BarsAsk, IsBarred, IsReady}
use Rattle.host_core.specs.Knows.{HostKnows}
use Rattle.host_core.specs.Memory.{IsClearing, IsFit, IsStopping, Leader, Memory}
use Rattle.host_core.specs.State.{IsHosted, marks_of, role_by, state_of, verb_of}
use Rattle.host_core.specs.declared.work.Work.{Work}
use Rattle.host_core.specs.declared.work.Work.TheVariants as work
use Rattle.host_core.proofs.Knowing.{makes_none}

abbrev Text : Type 0
Text = Result DomainRecord DomainFault

nothing_open : (o : Opened) → ◌≡◌ {A = Option Opened} None (Some o) → ⊥
nothing_open o e = cc

-- ---- no check before the begin gives a refusal

-- whatever the pool: the checks of this verb ask the host alone
pub some_kept : Kept
some_kept = record { named = λ sd i. 0; foreign = λ sd i. 0; texts = λ sd. false; sizes = no_sizes }

pub some_pool : Pool
some_pool = no_pool (record { named = λ sd i. 0; foreign = λ sd i h. 0 })

module _ (h : ℕ) (up : Hosts) (x : Memory) (k : Kept) (p : Pool) where
  abbrev with : Option Leader → HostState
  with o = state_of k (record x { leading = o })

  pub stopping : (o : Option Leader) → IsBarred h up (with o) leading p None → IsBarred h up (with o) none_begun p None → IsStopping o
  stopping None led rests = led NotSpm (refl, refl)
  stopping (Some l) led rests = go l.begun refl
    where
      go : (t : Option Id) → l.begun ≡ t → l.begun ≡ None
      go None e = e
      go (Some t) e = absurd (rests (TaskOpen t) (record { master = l.master; version = l.lease.version; begun = l.begun }, (t, refl, e, refl)))

-- ---- a refusal

stop_refused : (h : ℕ) (up : Hosts) (moment : ℕ) (x : HostState) (p : Pool) (e : Refusal) → FirstBar h up x (bars_of verb.spm_stop) e p
    → Begins h up moment verb.spm_stop x p (Err e) x
stop_refused h up moment x p e (inl (role, is)) =
    subst (λ (r : Refusal). Begins h up moment verb.spm_stop x p (Err r) x) (sym is) (tt, inl (role, refl), refl)
stop_refused h up moment x p e (inr (free, inl (m, (t, role, begun, is)))) =
    subst (λ (r : Refusal). Begins h up moment verb.spm_stop x p (Err r) x) (sym is) (tt, inr (still, inl (m, (t, role, begun, refl))), refl)
  where
    still : (other : Refusal) → Bars h up x leading other p → ⊥
    still other barred = free other barred
stop_refused h up moment x p e (inr (free, inr (none_open, none))) = absurd none

clear_refused : (h : ℕ) (up : Hosts) (moment : ℕ) (x : HostState) (p : Pool) (t : Id) (e : Refusal) → FirstBar h up x (bars_of (verb.clear_task t)) e p
    → Begins h up moment (verb.clear_task t) x p (Err e) x
clear_refused h up moment x p t e (inl (role, is)) =
    subst (λ (r : Refusal). Begins h up moment (verb.clear_task t) x p (Err r) x) (sym is) (tt, inl (role, refl), refl)
clear_refused h up moment x p t e (inr (free, inl (m, (u, role, begun, is)))) =
    subst (λ (r : Refusal). Begins h up moment (verb.clear_task t) x p (Err r) x) (sym is) (tt, inr (free, inl (m, (u, role, begun, refl))), refl)
clear_refused h up moment x p t e (inr (free, inr (rests, inl (none, is)))) =
    subst (λ (r : Refusal). Begins h up moment (verb.clear_task t) x p (Err r) x) (sym is) (tt, inr (free, inr (rests, inl (none, refl))), refl)
clear_refused h up moment x p t e (inr (free, inr (rests, inr none))) = absurd none.1

tasks_refused : (h : ℕ) (up : Hosts) (moment : ℕ) (x : HostState) (p : Pool) (e : Refusal) → FirstBar h up x (bars_of verb.tasks) e p
    → Begins h up moment verb.tasks x p (Err e) x
tasks_refused h up moment x p e (inl (role, is)) =
    subst (λ (r : Refusal). Begins h up moment verb.tasks x p (Err r) x) (sym is) (tt, inl (role, refl), refl)
tasks_refused h up moment x p e (inr (free, none)) = absurd none

pub begin_refused : (h : ℕ) (up : Hosts) (moment : ℕ) (x : HostState) (p : Pool) (v : Said) (e : Refusal) → IsHosted v
    → FirstBar h up x (bars_of (verb_said v)) e p → Begins h up moment (verb_said v) x p (Err e) x
begin_refused h up moment x p said.SpmStop e hosted first = stop_refused h up moment x p e first
begin_refused h up moment x p (said.ClearTask t) e hosted first = clear_refused h up moment x p t e first
begin_refused h up moment x p said.Tasks e hosted first = tasks_refused h up moment x p e first
begin_refused h up moment x p _ e hosted first = absurd hosted

-- what the checks ask of the pool, a host knows
pub asked : (v : Said) (k : Kept) (x : Memory) (p : Pool) → IsHosted v → HostKnows k x p → BarsAsk v k x p
asked said.SpmStop k x p hosted knows = tt
asked (said.ClearTask t) k x p hosted knows = knows
asked said.Tasks k x p hosted knows = tt
asked _ k x p hosted knows = absurd hosted

-- ---- the verb runs

-- the host's memory is as the steps of this work need it
pub fit_of : (v : Said) (w : Work) (o : Option Leader) → IsHosted v → verb_of w ≡ verb_said v → IsReady v o → IsFit (Some w) o
fit_of said.SpmStop work.Stop o hosted same ready = ready
fit_of said.SpmStop (work.Clear t) o hosted same ready = absurd (apart same)
  where
    apart : verb.clear_task t ≡ verb.spm_stop → ⊥
    apart e = cc
fit_of (said.ClearTask t) (work.Clear u) o hosted same ready = subst (λ (a : Id). IsClearing a o) (sym (one same)) ready
  where
    one : verb.clear_task u ≡ verb.clear_task t → u ≡ t
    one e = cc
fit_of (said.ClearTask t) work.Stop o hosted same ready = absurd (apart same)
  where
    apart : verb.spm_stop ≡ verb.clear_task t → ⊥
    apart e = cc
fit_of said.SpmStop work.Tasks o hosted same ready = absurd (apart same)
  where
    apart : verb.tasks ≡ verb.spm_stop → ⊥
    apart e = cc
fit_of (said.ClearTask t) work.Tasks o hosted same ready = absurd (apart same)
  where
    apart : verb.tasks ≡ verb.clear_task t → ⊥
    apart e = cc
fit_of said.Tasks work.Tasks o hosted same ready = ready
fit_of said.Tasks work.Stop o hosted same ready = absurd (apart same)
  where
    apart : verb.spm_stop ≡ verb.tasks → ⊥
    apart e = cc
fit_of said.Tasks (work.Clear t) o hosted same ready = absurd (apart same)
  where
    apart : verb.clear_task t ≡ verb.tasks → ⊥
    apart e = cc
fit_of _ w o hosted same ready = absurd hosted

have_marks : (moment : ℕ) (w : Work) (o : Option Leader) → IsFit (Some w) o → HasMarks moment (role_by o) (verb_of w) (marks_of w o)
have_marks moment work.Stop None fit = absurd fit
have_marks moment work.Stop (Some l) fit = refl
have_marks moment (work.Clear t) o fit = refl
have_marks moment work.Tasks o fit = refl

role_kept : (w : Work) (o : Option Leader) → role_by o ≡ role_begun (verb_of w) (role_by o)
role_kept work.Stop None = refl
role_kept work.Stop (Some l) = refl
role_kept (work.Clear t) None = refl
role_kept (work.Clear t) (Some l) = refl
role_kept work.Tasks None = refl
role_kept work.Tasks (Some l) = refl

within_most : (h : ℕ) (w : Work) (k : Kept) (p : Pool) → WithinMost h (verb_of w) k p 0
within_most h work.Stop k p = omega arith
within_most h (work.Clear t) k p = omega arith
within_most h work.Tasks k p = omega arith

module _ (id moment steps : ℕ) (bytes room : List ℕ) (before : Option Work) (w : Work) (k : Kept) (p : Pool) (keeps : IsKept id p k) where
  abbrev was : Option Leader → Memory
  was o = record { id = id; moment = moment; leading = o; work = before; steps = steps; bytes = bytes }

  abbrev is : Option Leader → Memory
  is o = record { id = id; moment = moment; leading = o; work = Some w; steps = 0; bytes = room }

  work_begun : (o : Option Leader) → IsFit (Some w) o → IsBegun id moment (verb_of w) (state_of k (was o)) p (state_of k (is o))
  work_begun o fit = record {
    marks = marks_of w o;
    kept = k;
    have = have_marks moment w o fit;
    keeps = keeps;
    running = refl;
    role = role_kept w o;
    opened = λ s. refl;
  }

  pub verb_begun : (o : Option Leader) (v : Said) → verb_of w ≡ verb_said v → IsFit (Some w) o
      → IsBegun id moment (verb_said v) (state_of k (was o)) p (state_of k (is o))
  verb_begun o v same fit = subst (λ (u : Verb). IsBegun id moment u (state_of k (was o)) p (state_of k (is o))) same (work_begun o fit)

  pub work_known : (o : Option Leader) → HostKnows k (was o) p → HostKnows k (is o) p
  work_known o knows = record {
    machine = record {
      role = knows.machine.role;
      opened = λ s x low there. absurd (nothing_open x there);
      once = λ sd i s r x y at to. absurd (nothing_open x at.there);
      torn = λ sd i m t guest there cut. let at = knows.machine.torn sd i m t guest there cut in absurd (nothing_open at.1.0 at.1.1.there);
      making = λ r e. absurd (makes_none k (is o) (Some w) r e);
      texts = λ sd had none. false≢true (sym (ap (λ (t : Option Text). is_some t) none) ∙ sym (keeps.texts sd) ∙ had);
    };
    lease = knows.lease;
    lists = knows.lists;
    boxes = knows.boxes;
    steps = within_most id w k p;
  }

pub hosted_built : (v : Said) → IsHosted v → IsBuilt (verb_said v)
hosted_built said.SpmStop hosted = tt
hosted_built (said.ClearTask t) hosted = tt
hosted_built said.Tasks hosted = tt
hosted_built _ hosted = absurd hosted
