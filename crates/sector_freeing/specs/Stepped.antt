-- One step of a freeing, on a disk that stands for a pool.
-- Claim: what it changes are changes of the mark `liberate` of the pool's machine, for which nothing is left to do at `Done` where
-- the pool has no other domain.
use Rattle.std.specs.Prelude.{◌≡◌, ◌⊎◌, ℕ, List, ◌∷◌}
use Rattle.sd_names.specs.UpSet.{Hosts}
use Rattle.sd_names.specs.declared.id.Id.{Id}
use Rattle.sd_names.specs.declared.refusal.Refusal.TheVariants.{DiskFault}
use Rattle.sd_names.specs.declared.turn.Turn.TheVariants.{More, Done, Ended}
use Rattle.shared_disk.specs.Content.{Content}
use Rattle.lease_area.specs.Move.{freed}
use Rattle.lease_area.specs.Record.{IsImageSlot}
use Rattle.lease_area.specs.declared.sector.Kind.TheVariants.{Task}
use Rattle.lease_area.specs.declared.sector.LeaseRecord.{LeaseRecord}
use Rattle.lease_area.specs.declared.sector.Sector.{Sector}
use Rattle.lease_area.specs.declared.sector.Sector.TheVariants.{Lease}
use Rattle.pool_model.specs.Covered.{Keeps}
use Rattle.pool_model.specs.Marks.{Mark, liberate, repeat}
use Rattle.pool_model.specs.Owned.{OwnedChange, OwnedPool}
use Rattle.pool_model.specs.Pool.{Pool}
use Rattle.pool_model.specs.Rules.{Maker, Passing, Spent}
use Rattle.pool_model.specs.Standing.{Stands}
use Rattle.pool_model.specs.Verb.{Verb}
use Rattle.task_settling.specs.Knowing.{HaveIds}
use Rattle.sector_freeing.specs.Freeing.{FreeTurn, domain_of}
use Rattle.sector_freeing.specs.Managing.{IsOnly, KnowsDomain, KnowsPool, NoneTasked}
use Rattle.sector_freeing.specs.declared.freeing.SectorFreeing.{SectorFreeing}

-- Of any verb whose next mark frees, with these marks behind it: some sectors are freed, and the mark stays, since there may be
-- other domains. Where nothing is left to do for it in the pool it passes.
pub record Passes (p q : Pool) : Type 0 where
  pub stays : (c : Maker) (ms : List Mark) (n : ℕ) → Passing c (repeat liberate ∷ ms) n p (repeat liberate ∷ ms) n q
  pub ends : Spent liberate q → (c : Maker) (ms : List Mark) (n : ℕ) → Passing c (repeat liberate ∷ ms) n p ms n q

-- At its end no image of the domain is held for a task, and none of the pool where it has no other domain. No refusal but the
-- disk's fault can come.
abbrev pub After : ℕ → Id → ℕ → FreeTurn → Content → Pool → Type 0
After h sd faults (More next) e q = KnowsPool h next e q
After h sd faults (Done _) e q = KnowsDomain h sd q × (NoneTasked sd q × (IsOnly sd q → Spent liberate q))
After h sd faults (Ended _ refusal) e q = refusal ≡ DiskFault faults

-- a sector stays, or it is one of an image of the domain that was held for a task, and is free now, with its version
abbrev pub FreesOnly : Id → Id → ℕ → Sector → Sector → Type 0
FreesOnly sd a k old new = (new ≡ old) ⊎ ((a ≡ sd) × (IsImageSlot k × ((r : LeaseRecord) × ((old ≡ Lease r) × ((r.kind ≡ Task) × (new ≡ Lease (freed r)))))))

-- A step took the disk from d, which stands for p, to e: that stands for a pool which moves of the machine reach, and which fits the
-- answer. What the host keeps is true of it, and nothing was changed that isn't the host's to change, whatever verb it runs.
pub record Stepped (h : ℕ) (up : Hosts) (sd : Id) (faults : ℕ) (turn : FreeTurn) (d : Content) (p : Pool) (e : Content) : Type 0 where
  pub pool : Pool
  pub passes : Passes p pool
  pub stands : Stands up e pool
  pub after : After h sd faults turn e pool
  pub keeps : Keeps up e pool
  pub owned : (v : Verb) → OwnedChange h up v p d e
  pub changes : OwnedPool h up p pool
  pub sectors : (a : Id) (k : ℕ) → FreesOnly sd a k (p.sector a k) (pool.sector a k)
  pub images : (a i : Id) → pool.image a i ≡ p.image a i
  pub tasks : (t : Id) → pool.task t ≡ p.task t

abbrev pub FreesInPool : SectorFreeing → ℕ → ℕ → FreeTurn → Content → Content → Type 0
FreesInPool s h faults turn d e = (up : Hosts) (p : Pool) → Stands up d p → HaveIds d → KnowsPool h s d p → Stepped h up (domain_of s) faults turn d p e
