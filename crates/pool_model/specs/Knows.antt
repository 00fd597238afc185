-- What a host's memory has to say truly of the pool, as far as that is said of pool and host alone.
-- Claim: it is true after each step of the host, and stays true under each owned change and each crash of another.
use Rattle.std.specs.Prelude.{◌≡◌, ◌≢◌, ◌⊎◌, ℕ, ◌<◌, true, List, [], ◌∷◌, Contains, Option, Some, None}
use Rattle.std.specs.List.Sorted.{IsStrictlySortedBy}
use Rattle.sd_names.specs.declared.id.Id.{Id}
use Rattle.sd_names.specs.declared.task_state.TaskState.{TaskState}
use Rattle.domain_meta.specs.declared.record.DomainRecord.{DomainRecord}
use Rattle.task_store.specs.declared.task.Task.{Task}
use Rattle.chain_model.specs.Opening.{id_cmp}
use Rattle.pool_model.specs.Leases.{IsGuest, IsTasked}
use Rattle.pool_model.specs.Marks.{change, make_master}
use Rattle.pool_model.specs.Pool.{Image, Pool, Torn}
use Rattle.pool_model.specs.Role.{Manager, Role, leads, outside}
use Rattle.pool_model.specs.Rules.{IsHeldAt, text_of}
use Rattle.pool_model.specs.State.{HostState, OpenAt, Opened, Running, places}
use Rattle.pool_model.specs.Tasks.{IsOpen, NoneOpen}
use Rattle.pool_model.specs.Verb as verb

-- ---- the role

-- Sector 0 of the master names the host, with the version that it keeps. No task is open but the one that it has begun, and
-- without one no image is held for a task.
pub record KnowsManager (h : ℕ) (m : Manager) (p : Pool) : Type 0 where
  pub master : p.master ≡ Some m.master
  pub held : IsHeldAt (p.sector m.master 0) h m.version
  pub none_open : m.begun ≡ None → NoneOpen p
  pub none_held : m.begun ≡ None → (sd i : Id) → IsTasked p sd i → ⊥
  pub one_open : (t u : Id) (x : Task) → m.begun ≡ Some t → IsOpen p u x → u ≡ t

abbrev pub KnowsRole : ℕ → Role → Pool → Type 0
KnowsRole h outside p = Unit {0}
KnowsRole h (leads m) p = KnowsManager h m p

-- The lists that a manager keeps: the domains of the pool, and its tasks, but for the one that it has begun.
pub record KnowsLists (domains : List Id) (tasks : List (Id × TaskState)) (begun : Option Id) (p : Pool) : Type 0 where
  pub rising : IsStrictlySortedBy id_cmp domains
  pub domains_are : (sd : Id) → Contains domains sd → (r : DomainRecord) × (p.domain sd ≡ Some r)
  pub all_domains : (sd : Id) (r : DomainRecord) → p.domain sd ≡ Some r → Contains domains sd
  pub order : IsStrictlySortedBy (λ (a b : Id × TaskState). id_cmp a.0 b.0) tasks
  pub tasks_are : (t : Id) (s : TaskState) → begun ≢ Some t → Contains tasks (t, s) → (x : Task) × (p.task t ≡ Some x) × (x.state ≡ s)
  pub all_tasks : (t : Id) (x : Task) → begun ≢ Some t → p.task t ≡ Some x → Contains tasks (t, x.state)

-- ---- open images

-- the running verb writes the image
abbrev pub Writes : Option Running → Id → Id → Type 0
Writes None sd i = ⊥
Writes (Some run) sd i = (at : ℕ) × ((bytes : List ℕ) × (run.verb ≡ verb.write sd i at bytes))

-- Its domain is listed and its sector is the host's as a guest. It can be opened; a write is mixed in only where one runs, or
-- where a fault has broken it.
pub record KnowsOpened (h : ℕ) (run : Option Running) (o : Opened) (p : Pool) : Type 0 where
  pub listed : (r : DomainRecord) × (p.domain o.sd ≡ Some r)
  pub guest : IsGuest p o.sd o.image h
  pub image : Image
  pub there : p.image o.sd o.image ≡ Some image
  pub sound : image.fault ≡ None
  pub quiet : o.broken ≡ None → (Writes run o.sd o.image → ⊥) → image.torn ≡ None

-- an image that the host is the guest of, and in which a write was cut, is open here: a write runs, or broke it
abbrev pub KnowsTorn : ℕ → HostState → Pool → Type 0
KnowsTorn h x p = (sd i : Id) (m : Image) (t : Torn) → IsGuest p sd i h → p.image sd i ≡ Some m → m.torn ≡ Some t
    → (s : ℕ) × ((o : Opened) × OpenAt x sd i s o × (Writes x.running sd i ⊎ ((n : ℕ) × (o.broken ≡ Some n))))

-- no image is open in two places
abbrev pub OpensOnce : HostState → Type 0
OpensOnce x = (sd i : Id) (s r : ℕ) (o q : Opened) → OpenAt x sd i s o → OpenAt x sd i r q → s ≡ r

-- ---- the running verb

-- a pool that is about to be made: once no text was found, none is there until the verb's own
abbrev pub KnowsMaking : Option Running → Pool → Type 0
KnowsMaking None p = Unit {0}
KnowsMaking (Some run) p = (r : DomainRecord) → run.marks ≡ change (make_master r) ∷ [] → p.master ≡ None

-- the texts that were there when the verb began still are
abbrev pub KnowsTexts : Option Running → Pool → Type 0
KnowsTexts None p = Unit {0}
KnowsTexts (Some run) p = (sd : Id) → run.kept.texts sd ≡ true → text_of p sd ≢ None

pub record Knows (h : ℕ) (x : HostState) (p : Pool) : Type 0 where
  pub role : KnowsRole h x.role p
  pub opened : (s : ℕ) (o : Opened) → s < places → x.opened s ≡ Some o → KnowsOpened h x.running o p
  pub once : OpensOnce x
  pub torn : KnowsTorn h x p
  pub making : KnowsMaking x.running p
  pub texts : KnowsTexts x.running p
