-- What each check refuses, and what each change does, in the pool of its moment.
-- Claim: a refusal is given in a moment in which its condition holds, and the verb goes on in one in which it doesn't. One
-- condition speaks of the past too, and may do both: that an image was missing since the verb began.
use Rattle.std.specs.Prelude.{◌≡◌, ◌≢◌, ◌⊎◌, ℕ, ◌%◌, ◌<◌, Bool, true, false, List, ◌∷◌, length, Contains, Option, Some, None, Result, Ok, Err}
use Rattle.std.specs.declared.cmp.Ordering.TheVariants.{Less}
use Rattle.sd_names.specs.Id.{IsIdBytes}
use Rattle.sd_names.specs.UpSet.{Hosts}
use Rattle.sd_names.specs.declared.fault.DomainFault.{DomainFault}
use Rattle.sd_names.specs.declared.id.Id.{Id}
use Rattle.sd_names.specs.declared.kinds.Role.TheVariants.{Master}
use Rattle.sd_names.specs.declared.refusal.Refusal.{Refusal}
use Rattle.sd_names.specs.declared.refusal.Refusal.TheVariants.{DomainCorrupt, DomainExists, ImageExists, ImageHeld, LeaseAreaFull, LverMismatch, NoDomain, NoImage, NoPool, PoolExists, PrevMismatch, SpmHeld, WrongVersion}
use Rattle.sd_names.specs.declared.task_state.TaskState.TheVariants as state
use Rattle.shared_disk.specs.Places.{id_is}
use Rattle.volume_meta.specs.declared.record.VolumeRecord.{VolumeRecord}
use Rattle.domain_meta.specs.declared.record.DomainRecord.{DomainRecord}
use Rattle.task_store.specs.declared.task.Task.{Task}
use Rattle.lease_area.specs.Move.{freed, is_open, made_by, may_take, owner_of, taken_by, version_of}
use Rattle.lease_area.specs.Record.{IsImageSlot}
use Rattle.lease_area.specs.declared.sector.Kind.{Kind}
use Rattle.lease_area.specs.declared.sector.Kind.TheVariants as kind
use Rattle.lease_area.specs.declared.sector.LeaseRecord.{LeaseRecord}
use Rattle.lease_area.specs.declared.sector.Sector.{Sector}
use Rattle.lease_area.specs.declared.sector.Sector.TheVariants.{Empty, Lease}
use Rattle.chain_model.specs.Chain.{path_of}
use Rattle.chain_model.specs.Opening.{id_cmp}
use Rattle.image_model.specs.Room.{Room}
use Rattle.pool_model.specs.Leases.{IsNamed, IsTasked, IsUnnamed, NamesAt, put_given, put_taken}
use Rattle.pool_model.specs.Marks.{Change, Check, Mark, Repeat, change, check, choose, begin_task, clear, drop_image, drop_sector, end_task, grow, has_room, has_sector, has_text, is_master, known_version, lay, lead, liberate, make_image, make_master, name_image, named, new_domain, no_pool, openable, owner_is, readable, release, repeat, settle, still_leads, take, tear, unheld, unled, unused, version_is, yield}
use Rattle.pool_model.specs.Made.{base_image, grown_image, master_pool}
use Rattle.pool_model.specs.Pool.{Image, Pool, Torn, Volume, put_image, put_sector, put_task}
use Rattle.pool_model.specs.Reading.{IsMixed, IsShort, MayHaveRoom, ReadsAs, done_image, records_in, torn_by}
use Rattle.pool_model.specs.State.{Kept}
use Rattle.pool_model.specs.Tasks.{IsOpen, NoneOpen, Settles, ended_task}

-- who makes a mark: the host, the hosts that are up, and what its verb keeps
pub record Maker : Type 0 where
  pub host : ℕ
  pub up : Hosts
  pub kept : Kept

-- ---- domains

-- what the text of a domain's folder says, where it is there
abbrev pub text_by : Option DomainRecord → Option (Result DomainRecord DomainFault) → Option (Result DomainRecord DomainFault)
text_by (Some r) stray = Some (Ok r)
text_by None stray = stray

abbrev pub text_of : Pool → Id → Option (Result DomainRecord DomainFault)
text_of p sd = text_by (p.domain sd) (p.stray sd)

-- no lesser folder had a text when the verb began, where these had one
abbrev pub IsNoneBelow : (Id → Bool) → Id → Type 0
IsNoneBelow had sd = (lesser : Id) → IsIdBytes lesser.0 → had lesser ≡ true → id_cmp lesser sd ≢ Less

abbrev pub IsListed : Pool → Id → Type 0
IsListed p sd = (r : DomainRecord) × (p.domain sd ≡ Some r)

-- the sector has this owner and version
pub record IsHeldAt (s : Sector) (h version : ℕ) : Type 0 where
  pub lease : LeaseRecord
  pub sector : s ≡ Lease lease
  pub owner : lease.owner ≡ h
  pub version_is : lease.version ≡ version

-- ---- what each check refuses

abbrev pub Refuses : Maker → Check → Refusal → Pool → Type 0
Refuses c no_pool e p =
    (sd : Id) × ((t : Result DomainRecord DomainFault) × (text_of p sd ≡ Some t) × IsNoneBelow c.kept.texts sd × (e ≡ PoolExists sd))
Refuses c (new_domain sd) e p = (IsListed p sd ⊎ (p.shows sd ≡ true)) × (e ≡ DomainExists)
Refuses c (has_text sd) e p = (text_of p sd ≡ None) × (e ≡ NoDomain)
Refuses c (readable sd) e p = (fault : DomainFault) × (text_of p sd ≡ Some (Err fault)) × (e ≡ DomainCorrupt fault)
Refuses c (known_version sd) e p =
    (r : DomainRecord) × (text_of p sd ≡ Some (Ok r)) × (r.version ≢ 4) × (r.version ≢ 5) × (e ≡ WrongVersion r.version)
Refuses c (is_master sd) e p = (r : DomainRecord) × (text_of p sd ≡ Some (Ok r)) × (r.role ≢ Master) × (e ≡ NoPool)
Refuses c (unled sd) e p =
    (is_open c.up c.host (owner_of (p.sector sd 0)) ≡ false) × (e ≡ SpmHeld (owner_of (p.sector sd 0)) (version_of (p.sector sd 0)))
Refuses c (owner_is sd prev) e p = (owner_of (p.sector sd 0) ≢ prev) × (e ≡ PrevMismatch prev (owner_of (p.sector sd 0)))
Refuses c (version_is sd lver) e p = (version_of (p.sector sd 0) ≢ lver) × (e ≡ LverMismatch lver (version_of (p.sector sd 0)))
Refuses c (still_leads sd version) e p =
    (IsHeldAt (p.sector sd 0) c.host version → ⊥) × (e ≡ SpmHeld (owner_of (p.sector sd 0)) (version_of (p.sector sd 0)))
Refuses c (unused sd i) e p = IsNamed p sd i × (e ≡ ImageExists)
Refuses c (has_sector sd) e p = ((k : ℕ) → IsImageSlot k → p.sector sd k ≢ Empty) × (e ≡ LeaseAreaFull)
Refuses c (named sd i) e p = (IsUnnamed p sd i ⊎ (c.kept.named sd i < p.history.named sd i)) × (e ≡ NoImage)
Refuses c (unheld sd i) e p =
    (k : ℕ) × ((r : LeaseRecord) × NamesAt p sd i k r × (may_take c.up c.host r.kind r.owner ≡ false) × (e ≡ ImageHeld r.owner))
Refuses c (openable sd i) e p = (m : Image) × (p.image sd i ≡ Some m) × (m.fault ≡ Some e)
Refuses c (has_room sd i at bytes) e p =
    (m : Image) × ((v : Id) × ((x : Volume) × ((y : VolumeRecord) × (p.image sd i ≡ Some m) × ReadsAs m v x y × IsShort y.format v x at (length bytes) e)))

-- A check goes on where it refuses nothing now. That an image was missing since the verb began may be refused, and needn't be:
-- whoever looks for it after it was made anew finds it.
abbrev pub Passes : Maker → Check → Pool → Type 0
Passes c (named sd i) p = IsUnnamed p sd i → ⊥
Passes c k p = (e : Refusal) → Refuses c k e p → ⊥

-- ---- what each change does

-- sector 0 becomes the host's, with the next version, where it is as it was asked to be
pub record IsLed (c : Maker) (sd : Id) (prev lver : ℕ) (p q : Pool) : Type 0 where
  pub master : p.master ≡ Some sd
  pub opened : is_open c.up c.host (owner_of (p.sector sd 0)) ≡ true
  pub owner : owner_of (p.sector sd 0) ≡ prev
  pub version : version_of (p.sector sd 0) ≡ lver
  pub led : q ≡ put_sector p sd 0 (Lease (taken_by c.host kind.Guest (p.sector sd 0)))

-- the least empty sector names the image, held for a task
pub record IsNameGiven (c : Maker) (sd i : Id) (p q : Pool) : Type 0 where
  pub at : ℕ
  pub slot : IsImageSlot at
  pub empty : p.sector sd at ≡ Empty
  pub least : (k : ℕ) → IsImageSlot k → k < at → p.sector sd k ≢ Empty
  pub new : IsUnnamed p sd i
  pub given : q ≡ put_given c.host p sd i at (Lease (made_by c.host i))

-- the image's sector is taken: the host holds it for this, with the next version
pub record IsTaken (c : Maker) (held : Kind) (sd i : Id) (p q : Pool) : Type 0 where
  pub at : ℕ
  pub old : LeaseRecord
  pub names : NamesAt p sd i at old
  pub may : may_take c.up c.host old.kind old.owner ≡ true
  pub taken : q ≡ put_taken c.host p sd i at (Lease (taken_by c.host held (Lease old)))

-- the host's own lease for this is free, with its version
pub record IsReleased (c : Maker) (held : Kind) (sd i : Id) (p q : Pool) : Type 0 where
  pub at : ℕ
  pub old : LeaseRecord
  pub names : NamesAt p sd i at old
  pub kind_is : old.kind ≡ held
  pub owner : old.owner ≡ c.host
  pub freed_is : q ≡ put_sector p sd at (Lease (freed old))

-- the sector of an image that is gone, which the host holds for a task, is empty
pub record IsEmptied (c : Maker) (sd i : Id) (p q : Pool) : Type 0 where
  pub gone : p.image sd i ≡ None
  pub at : ℕ
  pub old : LeaseRecord
  pub names : NamesAt p sd i at old
  pub kind_is : old.kind ≡ kind.Task
  pub owner : old.owner ≡ c.host
  pub emptied : q ≡ put_sector p sd at Empty

-- ---- the sectors of a write that was cut are chosen

abbrev pub MayBeLaid : Bool → Torn → (ℕ → List ℕ) → (ℕ → List ℕ) → Type 0
MayBeLaid true t old is = IsMixed t old is
MayBeLaid false t old is = is ≡ old

-- volume w, of an image whose reading volume is v: each sector and each part of its room is old or new
pub record IsChosenVolume (v : Id) (t : Torn) (w : Id) (x y : Volume) : Type 0 where
  pub says : y.says ≡ x.says
  pub length : y.length ≡ x.length
  pub room : MayHaveRoom (t.room w) x.room y.room
  pub flat : MayBeLaid (id_is w v) t x.flat y.flat

abbrev pub ChosenAt : Id → Torn → Id → Option Volume → Option Volume → Type 0
ChosenAt v t w None None = Unit {0}
ChosenAt v t w None (Some y) = ⊥
ChosenAt v t w (Some x) None = ⊥
ChosenAt v t w (Some x) (Some y) = IsChosenVolume v t w x y

pub record IsChosen (v : Id) (t : Torn) (m n : Image) : Type 0 where
  pub fault : n.fault ≡ m.fault
  pub torn : n.torn ≡ None
  pub volumes : (w : Id) → ChosenAt v t w (m.volume w) (n.volume w)

abbrev pub ChosenBy : Option Torn → Image → Image → Type 0
ChosenBy None m n = n ≡ m
ChosenBy (Some t) m n = (v : Id) × ((x : Volume) × ((y : VolumeRecord) × ReadsAs m v x y × IsChosen v t m n))

-- nothing is to be chosen where no write was cut
abbrev pub Chosen : Image → Image → Type 0
Chosen m n = ChosenBy m.torn m n

-- ---- each change

abbrev pub Changes : Maker → Change → Pool → Pool → Type 0
Changes c (make_master r) p q = (p.master ≡ None) × (q ≡ master_pool r p)
Changes c (lead sd prev lver) p q = IsLed c sd prev lver p q
Changes c (yield sd version) p q =
    (r : LeaseRecord) × (p.sector sd 0 ≡ Lease r) × (r.owner ≡ c.host) × (r.version ≡ version) × (q ≡ put_sector p sd 0 (Lease (freed r)))
Changes c (begin_task x) p q = (p.task x.id ≡ None) × (q ≡ put_task p x.id (Some x))
Changes c (end_task t) p q = (x : Task) × IsOpen p t x × (q ≡ put_task p t (Some (ended_task state.Done x)))
Changes c (clear t) p q = (x : Task) × (p.task t ≡ Some x) × (q ≡ put_task p t None)
Changes c (name_image sd i) p q = IsNameGiven c sd i p q
Changes c (make_image sd i y v) p q = q ≡ put_image p sd i (Some (base_image y v))
Changes c (drop_image sd i) p q = q ≡ put_image p sd i None
Changes c (drop_sector sd i) p q = IsEmptied c sd i p q
Changes c (take held sd i) p q = IsTaken c held sd i p q
Changes c (release held sd i) p q = IsReleased c held sd i p q
Changes c (choose sd i) p q = (m : Image) × ((n : Image) × (p.image sd i ≡ Some m) × Chosen m n × (q ≡ put_image p sd i (Some n)))
Changes c (tear sd i at bytes) p q =
    (m : Image) × ((v : Id) × ((x : Volume) × ((y : VolumeRecord) × (p.image sd i ≡ Some m) × (m.torn ≡ None) × ReadsAs m v x y
    × (q ≡ put_image p sd i (Some (record m { torn = Some (torn_by v x at bytes) }))))))
Changes c (lay sd i) p q =
    (m : Image) × ((v : Id) × ((x : Volume) × ((y : VolumeRecord) × ((t : Torn) × (p.image sd i ≡ Some m) × ReadsAs m v x y × (m.torn ≡ Some t)
    × (q ≡ put_image p sd i (Some (done_image v t m)))))))

-- ---- what repeats

-- a layer of the path of the image's reading volume whose file ends inside a cluster
pub record IsRagged (p : Pool) (sd i w : Id) (m : Image) (r : Room) : Type 0 where
  pub image : p.image sd i ≡ Some m
  pub reading : Id
  pub volume : Volume
  pub said : VolumeRecord
  pub reads : ReadsAs m reading volume said
  pub inside : Contains (path_of (records_in m) reading reads.below) w
  pub layer : (x : Volume) × (m.volume w ≡ Some x) × (x.room ≡ Some r)
  pub ragged : r.length % r.cluster ≢ 0

-- One change of a mark that repeats, with the number of tasks that were settled before and after it.
abbrev pub Repeated : Repeat → ℕ → Pool → ℕ → Pool → Type 0
Repeated settle n p m q = (t : Id) × Settles t n p m q
Repeated liberate n p m q =
    (sd : Id) × ((i : Id) × ((k : ℕ) × ((r : LeaseRecord) × NamesAt p sd i k r × (r.kind ≡ kind.Task) × (q ≡ put_sector p sd k (Lease (freed r))) × (m ≡ n))))
Repeated (grow sd i) n p m q =
    (w : Id) × ((image : Image) × ((r : Room) × IsRagged p sd i w image r × (q ≡ put_image p sd i (Some (grown_image w r image))) × (m ≡ n)))

-- nothing is left to do for a mark that repeats
abbrev pub Spent : Repeat → Pool → Type 0
Spent settle p = NoneOpen p
Spent liberate p = (sd i : Id) → IsTasked p sd i → ⊥
Spent (grow sd i) p = (w : Id) (m : Image) (r : Room) → IsRagged p sd i w m r → ⊥

-- ---- marks that come to pass

-- Some of a verb's marks come to pass, one after the other, each in the pool that the one before left. The number counts the
-- tasks that were settled.
pub data Passing (c : Maker) : List Mark → ℕ → Pool → List Mark → ℕ → Pool → Type 0 where
  here : {ms : List Mark} {n : ℕ} {p : Pool} → Passing c ms n p ms n p
  passed : {k : Check} {ms ns : List Mark} {n m : ℕ} {p q : Pool} → Passes c k p → Passing c ms n p ns m q
      → Passing c (check k ∷ ms) n p ns m q
  changed : {k : Change} {ms ns : List Mark} {n m : ℕ} {p o q : Pool} → Changes c k p o → Passing c ms n o ns m q
      → Passing c (change k ∷ ms) n p ns m q
  again : {k : Repeat} {ms ns : List Mark} {n l m : ℕ} {p o q : Pool} → Repeated k n p l o → Passing c (repeat k ∷ ms) l o ns m q
      → Passing c (repeat k ∷ ms) n p ns m q
  spent : {k : Repeat} {ms ns : List Mark} {n m : ℕ} {p q : Pool} → Spent k p → Passing c ms n p ns m q
      → Passing c (repeat k ∷ ms) n p ns m q
