-- The first check that gives a refusal, from the checks one by one.
use Rattle.std.proofs.Common.{◌≡◌, ◌≢◌, ◌⊎◌, ◌||◌, ℕ, Bool, true, false, List, [], ◌∷◌, Option, Some, None, refl, sym, ap, subst, ◌∙◌, inl, inr}
use Rattle.std.proofs.lemmas.Bool.{false≢true}
use Rattle.std.specs.List.{list_any}
use Rattle.std.specs.Prelude.{Contains}
use Rattle.sd_names.specs.UpSet.{Hosts}
use Rattle.sd_names.specs.declared.id.Id.{Id}
use Rattle.sd_names.specs.declared.refusal.Refusal.{Refusal}
use Rattle.sd_names.specs.declared.refusal.Refusal.TheVariants.{NoTask}
use Rattle.sd_names.specs.declared.task_state.TaskState.{TaskState}
use Rattle.sd_names.specs.declared.verb.Verb.{Verb as Said}
use Rattle.sd_names.specs.declared.verb.Verb.TheVariants as said
use Rattle.shared_disk.specs.Places.{id_is}
use Rattle.shared_disk.proofs.Outcomes.{cons_cases, contains_here, contains_more, nothing_in}
use Rattle.shared_disk.proofs.Places.{id_is-itself, id_is-same}
use Rattle.task_store.specs.declared.task.Task.{Task}
use Rattle.pool_model.specs.Bars.{Bar, Bars, NoBar, bars_of, has_task, leading, none_begun}
use Rattle.pool_model.specs.Knows.{KnowsLists}
use Rattle.pool_model.specs.Pool.{Pool}
use Rattle.pool_model.specs.Role.{Role, leads, outside}
use Rattle.pool_model.specs.State.{HostState, Kept}
use Rattle.pool_model.specs.Verb.{clear_task}
use Rattle.host_core.specs.Bars.{AreBarred, IsBarred, IsDecided}
use Rattle.host_core.specs.Knows.{HostKnows, KnowsPool}
use Rattle.host_core.specs.Memory.{Leader, Listed, Memory}
use Rattle.host_core.specs.State.{IsHosted, role_by, state_of}

none_of : (h : ℕ) (up : Hosts) (x : HostState) (b : Bar) (bs : List Bar) (p : Pool) → IsBarred h up x b p None → NoBar h up x bs p → NoBar h up x (b ∷ bs) p
none_of h up x b bs p free rest a among e barred = go (cons_cases b a bs among)
  where
    go : (b ≡ a) ⊎ Contains bs a → ⊥
    go (inl same) = free e (subst (λ (c : Bar). Bars h up x c e p) (sym same) barred)
    go (inr more) = rest a more e barred

pub next_bar : (h : ℕ) (up : Hosts) (x : HostState) (b : Bar) (bs : List Bar) (p : Pool) (o : Option Refusal) → IsBarred h up x b p None
    → AreBarred h up x bs p o → AreBarred h up x (b ∷ bs) p o
next_bar h up x b bs p None free rest = none_of h up x b bs p free rest
next_bar h up x b bs p (Some e) free rest = inr (free, rest)

pub last_bar : (h : ℕ) (up : Hosts) (x : HostState) (b : Bar) (p : Pool) (o : Option Refusal) → IsBarred h up x b p o → AreBarred h up x (b ∷ []) p o
last_bar h up x b p None free = none_of h up x b [] p free (λ a among. absurd (nothing_in a among))
last_bar h up x b p (Some e) is = inl is

pub hosted_decided : (v : Said) → IsHosted v → IsDecided v
hosted_decided said.SpmStop is = tt
hosted_decided (said.ClearTask t) is = tt
hosted_decided said.Tasks is = tt
hosted_decided _ is = absurd is

-- ---- whether a task is there, by the manager's list

-- a task that is among some is in their list
pub in_list : (t : Id) (s : TaskState) (ts : List Listed) → Contains ts (t, s) → list_any (λ (a : Listed). id_is a.0 t) ts ≡ true
in_list t s [] among = absurd (nothing_in (t, s) among)
in_list t s (a ∷ ts) among = here_or_further (cons_cases a (t, s) ts among) (in_list t s ts)
  where
    here_is : (b c : Bool) → b ≡ true → (b || c) ≡ true
    here_is true c e = refl
    here_is false c e = absurd (false≢true e)

    further : (b c : Bool) → c ≡ true → (b || c) ≡ true
    further true c e = refl
    further false c e = e

    here_or_further : (a ≡ (t, s)) ⊎ Contains ts (t, s) → (Contains ts (t, s) → list_any (λ (x : Listed). id_is x.0 t) ts ≡ true)
        → list_any (λ (x : Listed). id_is x.0 t) (a ∷ ts) ≡ true
    here_or_further (inl same) rest =
        here_is (id_is a.0 t) (list_any (λ (x : Listed). id_is x.0 t) ts) (ap (λ (x : Listed). id_is x.0 t) same ∙ id_is-itself t)
    here_or_further (inr more) rest = further (id_is a.0 t) (list_any (λ (x : Listed). id_is x.0 t) ts) (rest more)

-- the task of this identifier is in the list
pub listed_task : (t : Id) (ts : List Listed) → list_any (λ (a : Listed). id_is a.0 t) ts ≡ true → (s : TaskState) × Contains ts (t, s)
listed_task t [] e = absurd (false≢true e)
listed_task t (a ∷ ts) e = go (id_is a.0 t) refl (listed_task t ts)
  where
    go : (b : Bool) → id_is a.0 t ≡ b → (list_any (λ (x : Listed). id_is x.0 t) ts ≡ true → (s : TaskState) × Contains ts (t, s))
        → (s : TaskState) × Contains (a ∷ ts) (t, s)
    go true is rest = (a.1, subst (λ (u : Id). Contains (a ∷ ts) (u, a.1)) (id_is-same a.0 t is) (contains_here a ts))
    go false out rest =
        let found = rest (sym (ap (λ (b : Bool). b || list_any (λ (x : Listed). id_is x.0 t) ts) out) ∙ e) in
        (found.0, contains_more a (t, found.0) ts found.1)

pub none_is : (u : Id) → ◌≢◌ {A = Option Id} None (Some u)
none_is u e = cc

-- no task of this identifier is there, where the list of a manager that has begun none has none
pub not_there : (t : Id) (domains : List Id) (ts : List Listed) (p : Pool) → KnowsLists domains ts None p
    → list_any (λ (a : Listed). id_is a.0 t) ts ≡ false → p.task t ≡ None
not_there t domains ts p knows none = go (p.task t) refl
  where
    go : (o : Option Task) → p.task t ≡ o → p.task t ≡ None
    go None e = e
    go (Some x) e = absurd (false≢true (sym none ∙ in_list t x.state ts (knows.all_tasks t x (none_is t) e)))

no_task : (o : Option Task) (y : Task) → o ≡ None → o ≡ Some y → ⊥
no_task o y e f = cc

-- ---- the checks before a task is cleared

abbrev begun_in : Role → Option Id
begun_in outside = None
begun_in (leads m) = m.begun

module _ (h : ℕ) (up : Hosts) (x : Memory) (k : Kept) (p : Pool) (l : Leader) (held : x.leading ≡ Some l) (rests : l.begun ≡ None) (t : Id) where
  role : role_by x.leading ≡ leads (record { master = l.master; version = l.lease.version; begun = l.begun })
  role = ap (λ (o : Option Leader). role_by o) held

  led : IsBarred h up (state_of k x) leading p None
  led e barred = apart (sym role ∙ barred.0)
    where
      apart : leads (record { master = l.master; version = l.lease.version; begun = l.begun }) ≡ outside → ⊥
      apart same = cc

  idle : IsBarred h up (state_of k x) none_begun p None
  idle e (m, (u, is, begun, said)) =
      none_is u (sym rests ∙ ap (λ (r : Role). begun_in r) (sym role ∙ is) ∙ begun)

  lists : HostKnows k x p → KnowsLists l.domains l.tasks None p
  lists knows =
      subst (λ (o : Option Id). KnowsLists l.domains l.tasks o p) rests (subst (λ (o : Option Leader). KnowsPool o p) held knows.lists)

  all_bars : (o : Option Refusal) → IsBarred h up (state_of k x) (has_task t) p o → AreBarred h up (state_of k x) (bars_of (clear_task t)) p o
  all_bars o last =
      next_bar h up (state_of k x) leading (none_begun ∷ has_task t ∷ []) p o led
      (next_bar h up (state_of k x) none_begun (has_task t ∷ []) p o idle (last_bar h up (state_of k x) (has_task t) p o last))

  -- a task in the list may be cleared
  pub clear_begins : list_any (λ (a : Listed). id_is a.0 t) l.tasks ≡ true → HostKnows k x p
      → AreBarred h up (state_of k x) (bars_of (clear_task t)) p None
  clear_begins has knows = all_bars None (λ e barred. there barred.0)
    where
      there : p.task t ≡ None → ⊥
      there none =
          let at = listed_task t l.tasks has in
          let is = (lists knows).tasks_are t at.0 (none_is t) at.1 in
          no_task (p.task t) is.0 none is.1

  -- one that isn't in it is refused
  pub clear_barred : list_any (λ (a : Listed). id_is a.0 t) l.tasks ≡ false → HostKnows k x p
      → AreBarred h up (state_of k x) (bars_of (clear_task t)) p (Some NoTask)
  clear_barred none knows = all_bars (Some NoTask) (not_there t l.domains l.tasks p (lists knows) none, refl)
