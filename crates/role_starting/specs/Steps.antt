-- One step of a start, on a disk that stands for a pool.
-- Claim: it is a turn of the pool's machine, in the verb `spm-start`.
use Rattle.std.specs.Prelude.{◌≡◌, ℕ, ◌≤◌, List, true, Some}
use Rattle.sd_names.specs.Turn.{MatchTurn}
use Rattle.sd_names.specs.UpSet.{Hosts, is_up}
use Rattle.sd_names.specs.declared.id.Id.{Id}
use Rattle.shared_disk.specs.Content.{Content}
use Rattle.pool_model.specs.Covered.{Keeps}
use Rattle.pool_model.specs.Kept.{StillKept}
use Rattle.pool_model.specs.Leases.{IsGuest}
use Rattle.pool_model.specs.Marks.{Mark}
use Rattle.pool_model.specs.Owned.{OwnedChange, OwnedPool}
use Rattle.pool_model.specs.Pool.{Image, Pool, Side}
use Rattle.pool_model.specs.Standing.{Stands}
use Rattle.pool_model.specs.State.{HostState, Kept}
use Rattle.pool_model.specs.Turns.{HostTurns}
use Rattle.role_taking.specs.Asked.{Asked}
use Rattle.role_taking.specs.Marks.{running_with, runs, verb_of}
use Rattle.task_settling.specs.Knowing.{HaveIds}
use Rattle.role_starting.specs.Knowing.{Knows, KnowsStarted}
use Rattle.role_starting.specs.Marks.{answer_of, marks_left, running_after}
use Rattle.role_starting.specs.Starting.{IsAsked, StartTurn}
use Rattle.role_starting.specs.declared.starting.RoleStarting.{RoleStarting}

-- What a start leaves: the boxes, and of images nobody becomes a guest, and what there is is what there was.
pub record LeavesGuests (p q : Pool) : Type 0 where
  pub boxes : (side : Side) (sd : Id) (g : ℕ) → q.box side sd g ≡ p.box side sd g
  pub guests : (sd i : Id) (g : ℕ) → 1 ≤ g → IsGuest q sd i g → IsGuest p sd i g
  pub images : (sd i : Id) (m : Image) → q.image sd i ≡ Some m → p.image sd i ≡ Some m

abbrev pub After : ℕ → StartTurn → Content → Pool → Type 0
After h turn e q = MatchTurn turn (λ next. Knows h next e q) (λ end. KnowsStarted h end.0 q) (λ _ _. Unit {0})

-- A step took the disk from d, which stands for p, to e: that stands for a pool that a turn of the machine reaches, which fits
-- the answer. What the host keeps is true of it, and nothing was changed that isn't the host's to change. `x` is the host, but
-- for the verb that it runs; `ms` are the marks that were to come, `steps` is how many steps it had made, `k` what it kept, and `l`
-- what it keeps from now on: the same, but that what the bound on steps counts may be taken anew.
pub record Stepped (h : ℕ) (up : Hosts) (a : Asked) (k l : Kept) (steps : ℕ) (x : HostState) (ms : List Mark) (turn : StartTurn) (d : Content) (p : Pool) (e : Content) : Type 0 where
  pub pool : Pool
  pub turns : HostTurns h up (runs x (Some (running_with a k steps ms))) p (answer_of turn) (runs x (running_after a l steps turn)) pool
  pub stands : Stands up e pool
  pub after : After h turn e pool
  pub keeps : Keeps up e pool
  pub owned : OwnedChange h up (verb_of a) p d e
  pub changes : OwnedPool h up p pool
  pub leaves : LeavesGuests p pool

abbrev pub StartsRole : ℕ → Hosts → RoleStarting → StartTurn → Content → Content → Type 0
StartsRole h up s turn d e =
    (a : Asked) (k l : Kept) (steps : ℕ) (x : HostState) (p : Pool) → StillKept k l → IsAsked a s → is_up up h ≡ true → Stands up d p → HaveIds d → Knows h s d p
    → Stepped h up a k l steps x (marks_left a s) turn d p e
