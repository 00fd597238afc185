-- What a host may change, place by place: each difference that a step of it makes is one of these.
-- Claim: of every step of every host, on a disk that stands for a pool.
use Rattle.std.specs.Prelude.{◌≡◌, ◌≢◌, ◌⊎◌, ℕ, ◌/◌, ◌≤◌, Bool, true, List, Contains, Option, Some, None, Ok}
use Rattle.sd_names.specs.UpSet.{Hosts}
use Rattle.sd_names.specs.declared.id.Id.{Id}
use Rattle.sd_names.specs.declared.place.Dir.{Dir}
use Rattle.sd_names.specs.declared.place.Dir.TheVariants as dir
use Rattle.sd_names.specs.declared.place.Name.{Name}
use Rattle.sd_names.specs.declared.place.Name.TheVariants as name
use Rattle.sd_names.specs.declared.place.Place.{Place}
use Rattle.shared_disk.specs.Content.{Content, File, Loose}
use Rattle.shared_disk.specs.Crash.{IsAlso, IsSettled}
use Rattle.domain_meta.specs.declared.record.DomainRecord.{DomainRecord}
use Rattle.lease_area.specs.Move.{LeaseMove}
use Rattle.lease_area.specs.Record.{IsImageSlot}
use Rattle.lease_area.specs.Sector.{sector_bytes}
use Rattle.lease_area.specs.declared.sector.LeaseRecord.{LeaseRecord}
use Rattle.lease_area.specs.declared.sector.Sector.{Sector}
use Rattle.lease_area.specs.declared.sector.Sector.TheVariants.{Empty, Lease}
use Rattle.chain_model.specs.Growth.{MayGrow}
use Rattle.pool_model.specs.Leases.{Holds, IsUnnamed, Leads}
use Rattle.pool_model.specs.Pool.{Image, Pool, Side, Torn, Volume, Writing}
use Rattle.pool_model.specs.Rules.{IsListed, text_of}
use Rattle.pool_model.specs.Standing.{HasDomainText, metadata_of}
use Rattle.pool_model.specs.Verb.{Verb}
use Rattle.pool_model.specs.Verb as verb

-- The host runs the verb that makes this domain, which isn't listed: a pool where there is none, or for its manager a domain more.
abbrev pub MayMake : ℕ → Verb → Pool → Id → Type 0
MayMake h (verb.make_pool pool made version text) p sd = (made ≡ sd) × (p.master ≡ None)
MayMake h (verb.add_domain task made version text) p sd = (made ≡ sd) × Leads p h × (p.domain sd ≡ None)
MayMake h _ p sd = ⊥

-- ---- files

-- one sector of the leases moves as a host may move it; one that was empty then names an image that had no sector
pub record IsSectorMove (h : ℕ) (up : Hosts) (p : Pool) (sd : Id) (k : ℕ) (bytes : List ℕ) : Type 0 where
  pub new : Sector
  pub spm : Bool
  pub leads : spm ≡ true → Leads p h
  pub move : LeaseMove up h spm k (p.sector sd k) new
  pub fresh : (r : LeaseRecord) → IsImageSlot k → p.sector sd k ≡ Empty → new ≡ Lease r → IsUnnamed p sd r.image
  pub is : bytes ≡ sector_bytes new

pub record IsLeasesChange (h : ℕ) (up : Hosts) (p : Pool) (sd : Id) (f g : File) : Type 0 where
  pub at : ℕ
  pub settled : IsSettled g
  pub size : g.size ≡ f.size
  pub here : IsSectorMove h up p sd at (g.stable at)
  pub others : (k : ℕ) → k ≢ at → g.stable k ≡ f.stable k

-- a host's own box of an inbox, of eight sectors
pub record IsBoxChange (h : ℕ) (f g : File) : Type 0 where
  pub size : g.size ≡ f.size
  pub fresh : g.fresh ≡ f.fresh
  pub stable : (k : ℕ) → k / 8 ≢ h → g.stable k ≡ f.stable k
  pub loose : (l : Loose) → Contains g.loose l → Contains f.loose l ⊎ ((l.host ≡ h) × (l.sector / 8 ≡ h))
  pub kept : (l : Loose) → Contains f.loose l → Contains g.loose l ⊎ (l.sector / 8 ≡ h)

-- in dom_md of a listed domain: leases sector by sector, a box of its own, and the manager all else
abbrev pub MayChangeListed : ℕ → Hosts → Pool → Id → Name → Option File → Option File → Type 0
MayChangeListed h up p sd name.Leases before after = IsAlso (IsLeasesChange h up p sd) before after
MayChangeListed h up p sd name.Inbox before after = IsAlso (IsBoxChange h) before after
MayChangeListed h up p sd _ before after = Leads p h

-- in an image's folder: what the host that holds the image likes; and the manager may make a volume's file longer with zeros
abbrev pub MayChangeImage : ℕ → Pool → Id → Id → Name → Option File → Option File → Type 0
MayChangeImage h p sd i (name.Volume v) before after = Holds p h sd i ⊎ (Leads p h × IsAlso MayGrow before after)
MayChangeImage h p sd i _ before after = Holds p h sd i

abbrev pub MayChange : ℕ → Hosts → Verb → Pool → Dir → Name → Option File → Option File → Type 0
MayChange h up v p (dir.Image sd i) n before after = MayChangeImage h p sd i n before after
MayChange h up v p (dir.Removed sd i) n before after = Holds p h sd i
MayChange h up v p (dir.DomMd sd) n before after = (IsListed p sd × MayChangeListed h up p sd n before after) ⊎ MayMake h v p sd
MayChange h up v p (dir.Tasks sd) n before after = (p.master ≡ Some sd) × Leads p h
MayChange h up v p _ n before after = ⊥

abbrev pub MayChangeDir : ℕ → Verb → Pool → Dir → Type 0
MayChangeDir h v p dir.Root = ⊥
MayChangeDir h v p (dir.Image sd i) = Holds p h sd i
MayChangeDir h v p (dir.Removed sd i) = Holds p h sd i
MayChangeDir h v p (dir.Domain sd) = MayMake h v p sd
MayChangeDir h v p (dir.DomMd sd) = MayMake h v p sd
MayChangeDir h v p (dir.Images sd) = MayMake h v p sd
MayChangeDir h v p (dir.Master sd) = MayMake h v p sd
MayChangeDir h v p (dir.Tasks sd) = MayMake h v p sd

-- ---- the whole

-- A domain leaves the master's list only where no sector of it names an image.
abbrev pub IsLeftEmpty : Pool → Id → Type 0
IsLeftEmpty p sd = (k : ℕ) → IsImageSlot k → p.sector sd k ≡ Empty

-- A step of the host, which runs this verb, took the disk from d, which stands for the pool, to e.
pub record OwnedChange (h : ℕ) (up : Hosts) (v : Verb) (p : Pool) (d e : Content) : Type 0 where
  pub files : (q : Place) → (e.file q ≡ d.file q) ⊎ MayChange h up v p q.dir q.name (d.file q) (e.file q)
  pub dirs : (q : Dir) → (e.dir q ≡ d.dir q) ⊎ MayChangeDir h v p q
  -- no domain's text is ever taken away
  pub texts : (sd : Id) (f : File) → d.file (metadata_of sd) ≡ Some f → (g : File) × (e.file (metadata_of sd) ≡ Some g)
  pub lists : (m sd : Id) (r s : DomainRecord) → HasDomainText d m (Ok r) → HasDomainText e m (Ok s) → Contains r.domains sd
      → (Contains s.domains sd → ⊥) → IsLeftEmpty p sd

-- ---- the same for the pool's images

-- the file of a volume may be longer, and its room with it; all else is as it was
abbrev pub IsLongerLength : Option ℕ → Option ℕ → Type 0
IsLongerLength None None = Unit {0}
IsLongerLength None (Some m) = ⊥
IsLongerLength (Some n) None = ⊥
IsLongerLength (Some n) (Some m) = n ≤ m

pub record IsLongerVolume (x y : Volume) : Type 0 where
  pub says : y.says ≡ x.says
  pub flat : y.flat ≡ x.flat
  pub length : IsLongerLength x.length y.length

abbrev pub MayBeLonger : Option Volume → Option Volume → Type 0
MayBeLonger None None = Unit {0}
MayBeLonger None (Some y) = ⊥
MayBeLonger (Some x) None = ⊥
MayBeLonger (Some x) (Some y) = IsLongerVolume x y

-- a write that runs or was cut lays the same bytes
abbrev pub LaysAlike : Option Torn → Option Torn → Type 0
LaysAlike None None = Unit {0}
LaysAlike None (Some u) = ⊥
LaysAlike (Some t) None = ⊥
LaysAlike (Some t) (Some u) = (u.at ≡ t.at) × (u.bytes ≡ t.bytes)

pub record IsLongerImage (m n : Image) : Type 0 where
  pub fault : n.fault ≡ m.fault
  pub torn : LaysAlike m.torn n.torn
  pub volumes : (v : Id) → MayBeLonger (m.volume v) (n.volume v)

abbrev pub AlsoLonger : Option Image → Option Image → Type 0
AlsoLonger None None = Unit {0}
AlsoLonger None (Some n) = ⊥
AlsoLonger (Some m) None = ⊥
AlsoLonger (Some m) (Some n) = IsLongerImage m n

-- Each image that the step changed in the pool is one that the host holds, or one of which the manager made a file longer.
abbrev pub OwnedImages : ℕ → Pool → Pool → Type 0
OwnedImages h p q = (sd i : Id) → (q.image sd i ≡ p.image sd i) ⊎ (Holds p h sd i ⊎ (Leads p h × AlsoLonger (p.image sd i) (q.image sd i)))

-- ---- the same for the rest of the pool

-- a sector stays, or makes a move that the host may make
abbrev pub OwnedSector : ℕ → Hosts → Pool → Id → ℕ → Sector → Type 0
OwnedSector h up p sd k new = (new ≡ p.sector sd k) ⊎ ((spm : Bool) × ((spm ≡ true → Leads p h) × LeaseMove up h spm k (p.sector sd k) new))

-- A step of the host changed the pool from p to q. Domains and tasks are the manager's, or of a host that makes the pool;
-- sectors move one by one, those of a domain that joins the list too: what its leases file held before doesn't count.
pub record OwnedPool (h : ℕ) (up : Hosts) (p q : Pool) : Type 0 where
  pub sectors : (sd : Id) (k : ℕ) → OwnedSector h up p sd k (q.sector sd k)
  pub tasks : ((t : Id) → q.task t ≡ p.task t) ⊎ Leads p h
  pub master : (q.master ≡ p.master) ⊎ (p.master ≡ None)
  pub domains : ((sd : Id) → q.domain sd ≡ p.domain sd) ⊎ (Leads p h ⊎ (p.master ≡ None))
  pub lists : (sd : Id) (r : DomainRecord) → p.domain sd ≡ Some r → ((s : DomainRecord) × (q.domain sd ≡ Some s)) ⊎ IsLeftEmpty p sd
  pub texts : (sd : Id) → text_of p sd ≢ None → text_of q sd ≢ None
  pub boxes : (side : Side) (sd : Id) (g : ℕ) (w : Writing) → Contains (q.box side sd g).writings w → Contains (p.box side sd g).writings w ⊎ (w.host ≡ h)
  pub images : OwnedImages h p q
