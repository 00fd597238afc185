-- One step of a taking, on a disk that stands for a pool.
-- Claim: it is a turn of the pool's machine, in the verb `spm-start`.
use Rattle.std.specs.Prelude.{◌≡◌, ◌⊎◌, ℕ, List, Some}
use Rattle.sd_names.specs.UpSet.{Hosts}
use Rattle.sd_names.specs.declared.id.Id.{Id}
use Rattle.sd_names.specs.declared.turn.Turn.{Turn}
use Rattle.shared_disk.specs.Content.{Content}
use Rattle.lease_area.specs.declared.sector.LeaseRecord.{LeaseRecord}
use Rattle.spm_role.specs.declared.spm.Spm.{Spm}
use Rattle.pool_model.specs.Covered.{Keeps}
use Rattle.pool_model.specs.Kept.{StillKept}
use Rattle.pool_model.specs.Laws.{with_role}
use Rattle.pool_model.specs.Marks.{Mark}
use Rattle.pool_model.specs.Owned.{OwnedChange, OwnedPool}
use Rattle.pool_model.specs.Pool.{Pool}
use Rattle.pool_model.specs.Standing.{Stands}
use Rattle.pool_model.specs.State.{HostState, Kept}
use Rattle.pool_model.specs.Turns.{HostTurns}
use Rattle.role_taking.specs.Asked.{Asked, IsAsked}
use Rattle.role_taking.specs.Knows.{KnowsAfter, KnowsTaking}
use Rattle.role_taking.specs.Marks.{answer_of, marks_left, running_after, running_with, runs, verb_of}
use Rattle.role_taking.specs.declared.taking.RoleTaking.{RoleTaking}

-- the pool is as it was, but for sector 0 of this domain
abbrev pub IsRoleChange : Id → Pool → Pool → Type 0
IsRoleChange sd p q = (q ≡ p) ⊎ ((r : LeaseRecord) × (q ≡ with_role p sd r))

-- A step took the disk from d, which stands for p, to e: that stands for a pool that a turn of the machine reaches, which fits
-- the answer. What the host keeps is true of it, and nothing was changed that isn't the host's to change. `x` is the host, but
-- for the verb that it runs; `ms` are the marks that were to come, `steps` is how many steps it had made, `k` what it kept, and `l`
-- what it keeps from now on: the same, but that what the bound on steps counts may be taken anew.
pub record Stepped (h : ℕ) (up : Hosts) (a : Asked) (k l : Kept) (steps : ℕ) (x : HostState) (ms : List Mark) (turn : Turn RoleTaking Spm (Unit {0}))
    (d : Content) (p : Pool) (e : Content) : Type 0 where
  pub pool : Pool
  pub turns : HostTurns h up (runs x (Some (running_with a k steps ms))) p (answer_of turn) (runs x (running_after a l steps turn)) pool
  pub stands : Stands up e pool
  pub knows : KnowsAfter h turn pool
  pub keeps : Keeps up e pool
  pub owned : OwnedChange h up (verb_of a) p d e
  pub changes : OwnedPool h up p pool
  pub only : IsRoleChange a.sd p pool

abbrev pub TakesRole : ℕ → Hosts → RoleTaking → Turn RoleTaking Spm (Unit {0}) → Content → Content → Type 0
TakesRole h up t turn d e =
    (a : Asked) (k l : Kept) (steps : ℕ) (x : HostState) (p : Pool) → StillKept k l → IsAsked a t → Stands up d p → KnowsTaking h t p → Stepped h up a k l steps x (marks_left a t) turn d p e
