-- The moves that lease sectors make.
use Rattle.std.specs.Prelude.{◌≡◌, ◌⊎◌, ℕ, ◌+◌, ◌-◌, ◌^◌, ◌==◌, ◌&&◌, ◌||◌, not, min, Bool, true, false, if◌then◌else◌, MatchBool, Option, Some, None}
use Rattle.sd_names.specs.Id.{zero_id}
use Rattle.sd_names.specs.UpSet.{Hosts, is_up}
use Rattle.sd_names.specs.declared.id.Id.{Id}
use Rattle.shared_disk.specs.Places.{id_is}
use Rattle.lease_area.specs.declared.sector.Kind.{Kind}
use Rattle.lease_area.specs.declared.sector.Kind.TheVariants.{Free, Guest, Task}
use Rattle.lease_area.specs.declared.sector.LeaseRecord.{LeaseRecord}
use Rattle.lease_area.specs.declared.sector.Sector.{Sector}
use Rattle.lease_area.specs.declared.sector.Sector.TheVariants.{Empty, Lease}

-- a sector's owner, version and image; an empty one counts as free with owner 0 and version 0
abbrev pub owner_of : Sector → ℕ
owner_of Empty = 0
owner_of (Lease r) = r.owner

abbrev pub version_of : Sector → ℕ
version_of Empty = 0
version_of (Lease r) = r.version

abbrev pub image_of : Sector → Id
image_of Empty = zero_id
image_of (Lease r) = r.image

-- the next version; the last one, 2^63 - 1, stays
abbrev pub next_version : ℕ → ℕ
next_version version = min (version + 1) (2 ^ 63 - 1)

-- a host may take over from this owner: from nobody, itself, or a host that isn't up
abbrev pub is_open : Hosts → ℕ → ℕ → Bool
is_open up host owner = owner == 0 || (owner == host || not (is_up up owner))

-- a host may take an image's lease of this kind and owner: never one that is held for a task
abbrev pub may_take : Hosts → ℕ → Kind → ℕ → Bool
may_take up host Free owner = true
may_take up host Guest owner = is_open up host owner
may_take up host Task owner = false

-- a sector once a host took it: the image stays, and the version is the next one
abbrev pub taken_by : ℕ → Kind → Sector → LeaseRecord
taken_by host kind s = record { kind = kind; owner = host; version = next_version (version_of s); image = image_of s }

-- a sector for a new image, held for a task
abbrev pub made_by : ℕ → Id → LeaseRecord
made_by host image = record { kind = Task; owner = host; version = 1; image = image }

-- a lease that nobody holds any more: version and image stay
abbrev pub freed : LeaseRecord → LeaseRecord
freed r = record { kind = Free; owner = 0; version = r.version; image = r.image }

-- an image's sector, taken by a host
abbrev pub IsTaken : Hosts → ℕ → Kind → Sector → Sector → Type 0
IsTaken up host kind old new = (r : LeaseRecord) × (old ≡ Lease r) × (may_take up host r.kind r.owner ≡ true) × (new ≡ Lease (taken_by host kind old))

-- a host's lease of this kind, freed
abbrev pub IsFreed : ℕ → Kind → Sector → Sector → Type 0
IsFreed host kind old new = (r : LeaseRecord) × (old ≡ Lease r) × (r.kind ≡ kind) × (r.owner ≡ host) × (new ≡ Lease (freed r))

-- a lease held for a task, freed or emptied, whoever held it
abbrev pub IsEnded : Sector → Sector → Type 0
IsEnded old new = (r : LeaseRecord) × (old ≡ Lease r) × (r.kind ≡ Task) × ((new ≡ Lease (freed r)) ⊎ (new ≡ Empty))

-- a move of sector 0: a host becomes the manager of the pool, or is it no longer
abbrev pub RoleMove : Hosts → ℕ → Sector → Sector → Type 0
RoleMove up host old new =
    ((is_open up host (owner_of old) ≡ true) × (new ≡ Lease (taken_by host Guest old))) ⊎ ((r : LeaseRecord) × (old ≡ Lease r) × (r.owner ≡ host) × (new ≡ Lease (freed r)))

-- a move of an image's sector that only the manager of the pool makes
abbrev pub TaskMove : Hosts → ℕ → Sector → Sector → Type 0
TaskMove up host old new = IsTaken up host Task old new ⊎ (((old ≡ Empty) × (image : Id) × (new ≡ Lease (made_by host image))) ⊎ IsEnded old new)

-- The moves that a host may make of a sector, where these hosts are up; `spm` tells whether it acts as the manager of the
-- pool.
abbrev pub LeaseMove : Hosts → ℕ → Bool → ℕ → Sector → Sector → Type 0
LeaseMove up host spm slot old new =
    MatchBool (slot == 0)
    (RoleMove up host old new)
    (IsTaken up host Guest old new ⊎ (IsFreed host Guest old new ⊎ ((spm ≡ true) × TaskMove up host old new)))

-- the kind is for a task
abbrev pub is_task : Kind → Bool
is_task Task = true
is_task _ = false

-- sector 0 once the host took it, where it may
abbrev pub role_taken : Hosts → ℕ → Sector → Option LeaseRecord
role_taken up host s = if is_open up host (owner_of s) then Some (taken_by host Guest s) else None

-- an image's sector once the host took it, where it may; only for a task is an empty one taken, for a new image
abbrev pub image_taken : Hosts → ℕ → Kind → Id → Sector → Option LeaseRecord
image_taken up host Task image Empty = Some (made_by host image)
image_taken up host _ image Empty = None
image_taken up host kind image (Lease r) = if id_is r.image image && may_take up host r.kind r.owner then Some (taken_by host kind (Lease r)) else None

abbrev pub taken : Hosts → ℕ → ℕ → Kind → Id → Sector → Option LeaseRecord
taken up host slot kind image s = if slot == 0 then role_taken up host s else image_taken up host kind image s

-- what an exchange puts there: the new lease, or the expected sector for itself
abbrev pub next_sector : Option LeaseRecord → Sector → Sector
next_sector (Some r) s = Lease r
next_sector None s = s
