-- One step of a running verb, by its answer.
-- Claim: each step makes some of the verb's marks that were still to come, and what it answers belongs to them.
use Rattle.std.specs.Prelude.{◌≡◌, ◌⊎◌, ℕ, ◌+◌, ◌/◌, ◌-◌, ◌^◌, min, Bool, true, false, List, [], ◌∷◌, length, Some, None}
use Rattle.std.specs.List.{list_any}
use Rattle.sd_names.specs.UpSet.{Hosts}
use Rattle.sd_names.specs.declared.id.Id.{Id}
use Rattle.sd_names.specs.declared.refusal.Refusal.{Refusal}
use Rattle.sd_names.specs.declared.refusal.Refusal.TheVariants.{DiskFault, OutOfMemory, Vanished}
use Rattle.sd_names.specs.declared.verb.Payload.{Payload}
use Rattle.sd_names.specs.declared.verb.Payload.TheVariants as payload
use Rattle.volume_meta.specs.declared.record.VolumeRecord.{VolumeRecord}
use Rattle.lease_area.specs.declared.sector.Kind.TheVariants as kind
use Rattle.pool_model.specs.Kept.{StillKept}
use Rattle.pool_model.specs.Marks.{Check, Mark, begin_task, change, check, choose, make_master, openable, release, take}
use Rattle.pool_model.specs.Pool.{Image, Pool, Volume}
use Rattle.pool_model.specs.Reading.{AreBytesOf, ReadsAs}
use Rattle.pool_model.specs.Role.{Role, leads, outside}
use Rattle.pool_model.specs.Rules.{Changes, IsHeldAt, Maker, Passing, Refuses}
use Rattle.pool_model.specs.State.{Breaks, Closes, HostState, Kept, Opens, Running, SameOpen}
use Rattle.pool_model.specs.Tasks.{AreTasks}
use Rattle.pool_model.specs.Verb.{Verb}
use Rattle.pool_model.specs.Verb as verb

-- what a step answers: more is to do; the verb is done, with its payload and the bytes that were read; or it was refused
pub data Answer : Type 0 where
  more : Answer
  done : Payload → List ℕ → Answer
  refused : Refusal → Answer

abbrev pub maker : ℕ → Hosts → Running → Maker
maker h up run = record { host = h; up = up; kept = run.kept }

-- ---- marks that are still to come

abbrev pub is_take : Mark → Bool
is_take (change (take held sd i)) = true
is_take _ = false

-- a change of the verb's own, beside its lease and the settling of the image
abbrev pub is_effect : Mark → Bool
is_effect (change (begin_task x)) = true
is_effect (change (make_master r)) = true
is_effect _ = false

abbrev pub is_opening : Mark → Bool
is_opening (check (openable sd i)) = true
is_opening _ = false

-- Want of memory comes in a step only before the verb's own first change, and before an image's settling. Recovery and the
-- list of tasks may meet it at any mark.
abbrev pub MayLackMemory : Verb → List Mark → Type 0
MayLackMemory (verb.make_pool pool sd version text) ns = list_any is_effect ns ≡ true
MayLackMemory (verb.create t sd i v format alloc capacity text) ns = list_any is_effect ns ≡ true
MayLackMemory (verb.delete_image t sd i) ns = list_any is_effect ns ≡ true
MayLackMemory (verb.open_image sd i) ns = list_any is_opening ns ≡ true
MayLackMemory (verb.spm_start sd prev lver) ns = Unit {0}
MayLackMemory verb.tasks ns = Unit {0}
MayLackMemory verb.recover ns = Unit {0}
MayLackMemory _ ns = ⊥

-- ---- the lease that a verb takes for itself

abbrev pub OwnLease : Maker → Verb → Pool → Pool → Type 0
OwnLease c (verb.open_image sd i) p q = Changes c (release kind.Guest sd i) p q
OwnLease c (verb.delete_image t sd i) p q = Changes c (release kind.Task sd i) p q
OwnLease c _ p q = q ≡ p

abbrev pub FreedUnless : Bool → Maker → Verb → Pool → Pool → Type 0
FreedUnless true c v p q = q ≡ p
FreedUnless false c v p q = OwnLease c v p q

-- it is given back, where these marks are left and the verb had taken it
abbrev pub GivesBack : Maker → Verb → List Mark → Pool → Pool → Type 0
GivesBack c v ns p q = FreedUnless (list_any is_take ns) c v p q

-- ---- how the host stands afterwards

-- the host is as before, but that its task is no longer open
abbrev pub ended_role : Role → Role
ended_role outside = outside
ended_role (leads m) = leads (record m { begun = None })

pub record IsIdle (x y : HostState) (role : Role) : Type 0 where
  pub role_is : y.role ≡ role
  pub opened : SameOpen x y

-- A refusal: the task that the verb was to begin isn't open, and a manager that found its role gone has none.
abbrev pub role_refused : Verb → Role → Role
role_refused (verb.create t sd i v format alloc capacity text) role = ended_role role
role_refused (verb.delete_image t sd i) role = ended_role role
role_refused verb.spm_stop role = outside
role_refused _ role = role

-- An answer ok: the payload, and how the host stands. The verbs that aren't built answer nothing.
abbrev pub Ends : ℕ → Verb → ℕ → HostState → Pool → Payload → List ℕ → HostState → Type 0
Ends h (verb.make_pool pool sd version text) n x q payload.MakePool bytes y = IsIdle x y x.role
Ends h (verb.spm_start sd prev lver) n x q (payload.SpmStart version) bytes y =
    IsHeldAt (q.sector sd 0) h version × IsIdle x y (leads (record { master = sd; version = version; begun = None }))
Ends h verb.spm_stop n x q payload.SpmStop bytes y = IsIdle x y outside
Ends h (verb.create t sd i v format alloc capacity text) n x q payload.Create bytes y = IsIdle x y (ended_role x.role)
Ends h (verb.delete_image t sd i) n x q payload.DeleteImage bytes y = IsIdle x y (ended_role x.role)
Ends h (verb.open_image sd i) n x q (payload.Open reading capacity) bytes y =
    (m : Image) × ((v : Volume) × ((r : VolumeRecord) × (q.image sd i ≡ Some m) × ReadsAs m reading v r × (capacity ≡ r.capacity)
    × (y.role ≡ x.role) × Opens sd i x y))
Ends h (verb.close_image sd i) n x q payload.Close bytes y = (y.role ≡ x.role) × Closes sd i x y
Ends h (verb.read sd i at count) n x q (payload.Read got) bytes y =
    (m : Image) × ((v : Id) × ((w : Volume) × ((r : VolumeRecord) × (q.image sd i ≡ Some m) × ReadsAs m v w r × (got ≡ count)
    × AreBytesOf w.flat (at / 512) (count / 512) bytes × IsIdle x y x.role)))
Ends h (verb.write sd i at laid) n x q payload.Write bytes y = IsIdle x y x.role
Ends h verb.tasks n x q (payload.Tasks listed) bytes y = AreTasks q listed × IsIdle x y x.role
Ends h (verb.clear_task t) n x q payload.ClearTask bytes y = IsIdle x y x.role
Ends h verb.recover n x q (payload.Recover count) bytes y = (count ≡ n) × IsIdle x y (ended_role x.role)
Ends h v n x q reply bytes y = ⊥

-- the manager has a task that may be there or not: until it has recovered it begins no verb that asks for one
abbrev pub doubted_role : Id → Role → Role
doubted_role t outside = outside
doubted_role t (leads m) = leads (record m { begun = Some t })

-- A fault of the disk, at this count, with these marks left. A verb with a task leaves it open, and so does one that clears a
-- task, which may be gone or not; one on an open image breaks it; a close that had not chosen yet leaves its image open, and
-- one that had does not.
abbrev pub Cut : Verb → List Mark → ℕ → HostState → HostState → Type 0
Cut (verb.close_image sd i) (change (choose domain image) ∷ ns) n x y = (y.role ≡ x.role) × Breaks sd i n x y
Cut (verb.close_image sd i) ns n x y = (y.role ≡ x.role) × Closes sd i x y
Cut (verb.read sd i at count) ns n x y = (y.role ≡ x.role) × Breaks sd i n x y
Cut (verb.write sd i at bytes) ns n x y = (y.role ≡ x.role) × Breaks sd i n x y
Cut verb.spm_stop ns n x y = IsIdle x y outside
Cut (verb.clear_task t) ns n x y = IsIdle x y (doubted_role t x.role)
Cut v ns n x y = IsIdle x y x.role

-- ---- the answers

-- More is to do: some marks came to pass, and the verb runs on with those that are left.
pub record RunsOn (c : Maker) (run : Running) (x : HostState) (p : Pool) (y : HostState) (q : Pool) : Type 0 where
  pub marks : List Mark
  pub tally : ℕ
  pub kept : Kept
  pub passing : Passing c run.marks run.tally p marks tally q
  pub keeps : StillKept run.kept kept
  pub running : y.running ≡ Some (record { verb = run.verb; marks = marks; tally = tally; steps = min (run.steps + 1) (2 ^ 64 - 1); kept = kept })
  pub idle : IsIdle x y x.role

-- bytes are given by a read alone
abbrev pub GivesBytes : Payload → List ℕ → Type 0
GivesBytes (payload.Read count) bytes = length bytes ≡ count
GivesBytes _ bytes = bytes ≡ []

-- The verb is done: no mark is left.
pub record IsDone (c : Maker) (run : Running) (x : HostState) (p : Pool) (reply : Payload) (bytes : List ℕ) (y : HostState) (q : Pool) : Type 0 where
  pub tally : ℕ
  pub passing : Passing c run.marks run.tally p [] tally q
  pub running : y.running ≡ None
  pub ends : Ends c.host run.verb tally x q reply bytes y
  pub gives : GivesBytes reply bytes

-- A check refuses, in the pool of its moment. The verb's own lease is given back; nothing else changes.
pub record IsRefused (c : Maker) (run : Running) (x : HostState) (p : Pool) (e : Refusal) (y : HostState) (q : Pool) : Type 0 where
  pub at : Check
  pub marks : List Mark
  pub tally : ℕ
  pub pool : Pool
  pub passing : Passing c run.marks run.tally p (check at ∷ marks) tally pool
  pub refuses : Refuses c at e pool
  pub gives : GivesBack c run.verb marks pool q
  pub running : y.running ≡ None
  pub idle : IsIdle x y (role_refused run.verb x.role)

-- There is no memory: likewise.
pub record LacksMemory (c : Maker) (run : Running) (x : HostState) (p : Pool) (y : HostState) (q : Pool) : Type 0 where
  pub marks : List Mark
  pub tally : ℕ
  pub pool : Pool
  pub passing : Passing c run.marks run.tally p marks tally pool
  pub may : MayLackMemory run.verb marks
  pub gives : GivesBack c run.verb marks pool q
  pub running : y.running ≡ None
  pub idle : IsIdle x y (role_refused run.verb x.role)

-- The disk failed: the change under way is done or not, and so is the giving back of the lease for a refusal or want of memory.
pub record IsFaulty (c : Maker) (run : Running) (x : HostState) (p : Pool) (n : ℕ) (y : HostState) (q : Pool) : Type 0 where
  pub marks : List Mark
  pub tally : ℕ
  pub pool : Pool
  pub passing : Passing c run.marks run.tally p marks tally pool
  pub gives : (q ≡ pool) ⊎ (MayLackMemory run.verb marks × GivesBack c run.verb marks pool q)
  pub running : y.running ≡ None
  pub cut : Cut run.verb marks n x y

-- That something has vanished is answered in no pool that the disk stands for.
abbrev pub Refused : Maker → Running → HostState → Pool → Refusal → HostState → Pool → Type 0
Refused c run x p (DiskFault n) y q = IsFaulty c run x p n y q
Refused c run x p (Vanished word) y q = ⊥
Refused c run x p OutOfMemory y q = LacksMemory c run x p y q
Refused c run x p e y q = IsRefused c run x p e y q

abbrev pub Turns : Maker → Running → HostState → Pool → Answer → HostState → Pool → Type 0
Turns c run x p more y q = RunsOn c run x p y q
Turns c run x p (done reply bytes) y q = IsDone c run x p reply bytes y q
Turns c run x p (refused e) y q = Refused c run x p e y q

-- a step of a host that runs a verb
abbrev pub HostTurns : ℕ → Hosts → HostState → Pool → Answer → HostState → Pool → Type 0
HostTurns h up x p answer y q = (run : Running) × (x.running ≡ Some run) × Turns (maker h up run) run x p answer y q
