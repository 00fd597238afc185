-- Becoming the manager of a pool: what each step asks the disk, and what follows from the answer.
use Rattle.std.specs.Prelude.{◌≡◌, ℕ, false, List, [], Result, MatchResult}
use Rattle.sd_names.specs.Turn.{MatchTurn}
use Rattle.sd_names.specs.UpSet.{Hosts}
use Rattle.sd_names.specs.declared.id.Id.{Id}
use Rattle.sd_names.specs.declared.refusal.Refusal.{Refusal}
use Rattle.sd_names.specs.declared.refusal.Refusal.TheVariants.{DomainCorrupt, LeaseCorrupt, LverMismatch, NoDomain, NoPool, OutOfMemory, PrevMismatch, SpmHeld, WrongVersion}
use Rattle.sd_names.specs.declared.turn.Turn.{Turn}
use Rattle.sd_names.specs.declared.turn.Turn.TheVariants.{Ended}
use Rattle.shared_disk.specs.Content.{Content}
use Rattle.shared_disk.specs.Step.{GoesOn, IsDiskRefusal}
use Rattle.domain_meta.specs.declared.record.DomainRecord.{DomainRecord}
use Rattle.lease_area.specs.Hold.{ByOneExchange, Stands, Takes, role_answer, role_answer_to}
use Rattle.lease_area.specs.Move.{LeaseMove, next_sector, next_version, role_taken}
use Rattle.lease_area.specs.declared.lease.Lease.{Lease}
use Rattle.lease_area.specs.declared.sector.Kind.TheVariants.{Guest}
use Rattle.lease_area.specs.declared.sector.LeaseRecord.{LeaseRecord}
use Rattle.lease_area.specs.declared.sector.Sector.{Sector}
use Rattle.lease_area.specs.declared.sector.Sector.TheVariants as sector
use Rattle.spm_role.specs.Look.{Looks}
use Rattle.spm_role.specs.Master.{ReadsMaster}
use Rattle.spm_role.specs.Spm.{domains_of, host_of, lease_of, master_of, pool_of, role_of, tasks_of, version_of as role_version}
use Rattle.spm_role.specs.declared.spm.Spm.{Spm}
use Rattle.spm_role.specs.declared.start.SpmStart.{SpmStart}
use Rattle.spm_role.specs.declared.start.Stage.{Stage}
use Rattle.spm_role.specs.declared.start.Stage.TheVariants.{Begun, Known, Seen, Listed}

-- a start: in which domain, from which owner and at which version, how far it is, and which domains it has read
abbrev pub domain_of : SpmStart → Id
domain_of s = s.sd

abbrev pub prev_of : SpmStart → ℕ
prev_of s = s.prev

abbrev pub lver_of : SpmStart → ℕ
lver_of s = s.lver

abbrev pub stage_of : SpmStart → Stage
stage_of s = s.stage

abbrev pub read_of : SpmStart → List Id
read_of s = s.domains

-- a start of the same host's role
pub record IsSameStart (s next : SpmStart) : Type 0 where
  pub domain : domain_of next ≡ domain_of s
  pub prev : prev_of next ≡ prev_of s
  pub lver : lver_of next ≡ lver_of s

-- the same start in another stage
pub record IsAt (s : SpmStart) (stage : Stage) (next : SpmStart) : Type 0 where
  pub same : IsSameStart s next
  pub now_in : stage_of next ≡ stage

-- the same start, which knows a sector as asked; and which has read what a master lists
abbrev pub IsInSeen : SpmStart → SpmStart → Type 0
IsInSeen s next = (x : Sector) × IsAt s (Seen x) next

abbrev pub IsInListed : SpmStart → Sector → SpmStart → Type 0
IsInListed s x next = IsSameStart s next × (pool : Id) × (stage_of next ≡ Listed x pool)

-- the same start, which has read what a master lists
pub record HasRead (s : SpmStart) (found : Sector) (r : DomainRecord) (next : SpmStart) : Type 0 where
  pub same : IsSameStart s next
  pub now_in : stage_of next ≡ Listed found r.pool
  pub read : read_of next ≡ r.domains

-- how many more steps a start takes at the most
abbrev pub left_of : Stage → ℕ
left_of Begun = 4
left_of Known = 3
left_of (Seen s) = 2
left_of (Listed s pool) = 1

abbrev pub start_left : SpmStart → ℕ
start_left s = left_of (stage_of s)

-- the refusals of a start
abbrev pub IsStartRefusal : Refusal → Type 0
IsStartRefusal NoDomain = Unit {0}
IsStartRefusal NoPool = Unit {0}
IsStartRefusal (DomainCorrupt fault) = Unit {0}
IsStartRefusal (WrongVersion version) = Unit {0}
IsStartRefusal (LeaseCorrupt slot) = slot ≡ 0
IsStartRefusal (SpmHeld owner version) = Unit {0}
IsStartRefusal (PrevMismatch asked owner) = Unit {0}
IsStartRefusal (LverMismatch asked version) = Unit {0}
IsStartRefusal OutOfMemory = Unit {0}
IsStartRefusal refusal = IsDiskRefusal refusal

-- the manager of a lease, with the lists of a start
pub record IsMade (s : SpmStart) (from : Id) (held : Lease) (spm : Spm) : Type 0 where
  pub master : master_of spm ≡ domain_of s
  pub pool : pool_of spm ≡ from
  pub domains : domains_of spm ≡ read_of s
  pub tasks : tasks_of spm ≡ []
  pub lease : lease_of spm ≡ held

-- The manager that a start ends with: of the domain, by this host, at the version behind the one that was asked, with the
-- pool and the domains that were read and no tasks.
pub record IsManagerOf (s : SpmStart) (from : Id) (taker : ℕ) (spm : Spm) : Type 0 where
  pub master : master_of spm ≡ domain_of s
  pub pool : pool_of spm ≡ from
  pub domains : domains_of spm ≡ read_of s
  pub tasks : tasks_of spm ≡ []
  pub host : host_of spm ≡ taker
  pub kind : (role_of spm).kind ≡ Guest
  pub version : role_version spm ≡ next_version (lver_of s)

-- only the last stage, which knows the pool, ends so
abbrev pub IsPoolKnown : Stage → Id → Type 0
IsPoolKnown (Listed x pool) found = found ≡ pool
IsPoolKnown _ found = ⊥

pub record IsManager (s : SpmStart) (taker : ℕ) (spm : Spm) : Type 0 where
  pub pool : IsPoolKnown (stage_of s) (pool_of spm)
  pub master : master_of spm ≡ domain_of s
  pub domains : domains_of spm ≡ read_of s
  pub tasks : tasks_of spm ≡ []
  pub host : host_of spm ≡ taker
  pub kind : (role_of spm).kind ≡ Guest
  pub version : role_version spm ≡ next_version (lver_of s)

-- a start ends with a manager only
abbrev pub EndsWith : (Spm → Type 0) → Turn SpmStart Spm (Unit {0}) → Type 0
EndsWith P turn = MatchTurn turn (λ _. Unit {0}) P (λ _ _. Unit {0})

-- The role was taken by a move that the rules allow.
abbrev pub IsAllowed : Stage → Hosts → ℕ → Spm → Type 0
IsAllowed (Listed s pool) up host spm = LeaseMove up host false 0 s (sector.Lease (role_of spm))
IsAllowed _ up host spm = ⊥

-- a turn that a refusal ends
abbrev pub EndsBy : Turn SpmStart Spm (Unit {0}) → Refusal → Type 0
EndsBy turn refusal = turn ≡ Ended tt refusal

-- the text is read: whether it is a master's
abbrev pub Checks : SpmStart → ℕ → ℕ → Turn SpmStart Spm (Unit {0}) → Content → Content → Type 0
Checks s host faults turn d e =
    (read : Result DomainRecord Refusal) × ReadsMaster host (domain_of s) faults read d e × MatchResult read (λ _. GoesOn (IsAt s Known) turn) (EndsBy turn)

-- sector 0 is read: whether it is as asked
abbrev pub LooksAt : SpmStart → ℕ → Hosts → ℕ → Turn SpmStart Spm (Unit {0}) → Content → Content → Type 0
LooksAt s host up faults turn d e =
    (found : Result Sector Refusal) × Looks host up (domain_of s) (prev_of s) (lver_of s) faults found d e
    × MatchResult found (λ x. GoesOn (IsAt s (Seen x)) turn) (EndsBy turn)

-- the text is read again: which domains it lists
abbrev pub Lists : SpmStart → Sector → ℕ → ℕ → Turn SpmStart Spm (Unit {0}) → Content → Content → Type 0
Lists s x host faults turn d e =
    (read : Result DomainRecord Refusal) × ReadsMaster host (domain_of s) faults read d e × MatchResult read (λ r. GoesOn (HasRead s x r) turn) (EndsBy turn)

-- there is nothing more to do: this host is the manager, by the lease of this record
abbrev pub IsManagerBy : Turn SpmStart Spm (Unit {0}) → LeaseRecord → Type 0
IsManagerBy turn r = MatchTurn turn (λ _. ⊥) (λ spm. role_of spm ≡ r) (λ _ _. ⊥)

-- Sector 0 is exchanged for this host's: the manager comes exactly where the exchange was done and the role could be taken.
-- Where the leases file is settled, the sector is this host's then, and each refusal is that of the bytes that stand there.
abbrev pub TakesRole : SpmStart → Sector → ℕ → Hosts → ℕ → Turn SpmStart Spm (Unit {0}) → Content → Content → Type 0
TakesRole s x host up faults turn d e =
    (taken : Result LeaseRecord Refusal)
    × ByOneExchange host (domain_of s) 0 x (next_sector (role_taken up host x) x) (role_answer_to up host x faults) taken d e
    × ((bytes : List ℕ) → Stands d (domain_of s) 0 bytes → Takes (domain_of s) 0 (role_answer up host x bytes) faults taken d e)
    × MatchResult taken (IsManagerBy turn) (EndsBy turn)

-- The step of each stage: one call, whose answer decides the turn, whatever stands in the folder.
abbrev pub StartsBy : Stage → SpmStart → ℕ → Hosts → ℕ → Turn SpmStart Spm (Unit {0}) → Content → Content → Type 0
StartsBy Begun s host up faults turn d e = Checks s host faults turn d e
StartsBy Known s host up faults turn d e = LooksAt s host up faults turn d e
StartsBy (Seen x) s host up faults turn d e = Lists s x host faults turn d e
StartsBy (Listed x pool) s host up faults turn d e = TakesRole s x host up faults turn d e
