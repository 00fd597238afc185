-- What taking a sector, and giving it up, answer and leave.
use Rattle.std.specs.Prelude.{◌≡◌, ◌≢◌, ◌⊎◌, ℕ, ◌<◌, ◌==◌, not, if◌then◌else◌, MatchBool, List, Option, Some, None, Result, Ok, Err}
use Rattle.std.specs.Str.{bytes_eq}
use Rattle.sd_names.specs.UpSet.{Hosts}
use Rattle.sd_names.specs.declared.id.Id.{Id}
use Rattle.sd_names.specs.declared.place.Dir.TheVariants.{DomMd}
use Rattle.sd_names.specs.declared.place.Name.TheVariants.{Leases}
use Rattle.sd_names.specs.declared.place.Place.{Place}
use Rattle.sd_names.specs.declared.refusal.Refusal.{Refusal}
use Rattle.sd_names.specs.declared.refusal.Refusal.TheVariants.{DiskFault, ImageHeld, LeaseCorrupt, LverMismatch, NoImage, PrevMismatch, SpmHeld}
use Rattle.shared_disk.specs.Calls.{IsPut, IsSame}
use Rattle.shared_disk.specs.Changes.{exchanged}
use Rattle.shared_disk.specs.Content.{Content, File}
use Rattle.shared_disk.specs.Crash.{IsSettled}
use Rattle.shared_disk.specs.Places.{id_is}
use Rattle.shared_disk.specs.Refusal.{refusal_of}
use Rattle.shared_disk.specs.SectorCalls.{Exchanges}
use Rattle.shared_disk.specs.Step.{IsDiskRefusal}
use Rattle.shared_disk.specs.declared.disk.DiskAnswer.{DiskAnswer}
use Rattle.shared_disk.specs.declared.disk.Exchanged.{Exchanged}
use Rattle.shared_disk.specs.declared.disk.Exchanged.TheVariants.{Done, Found}
use Rattle.lease_area.specs.Move.{image_taken, is_open, may_take, owner_of, role_taken, version_of}
use Rattle.lease_area.specs.Sector.{sector_bytes, sector_in}
use Rattle.lease_area.specs.declared.lease.Lease.{Lease as Held}
use Rattle.lease_area.specs.declared.sector.Kind.{Kind}
use Rattle.lease_area.specs.declared.sector.LeaseRecord.{LeaseRecord}
use Rattle.lease_area.specs.declared.sector.Sector.{Sector}
use Rattle.lease_area.specs.declared.sector.Sector.TheVariants.{Lease}

-- the leases file of a domain
abbrev pub leases_of : Id → Place
leases_of sd = record { dir = DomMd sd; name = Leases }

-- a lease that is held: the domain, the sector's number, and what stands there
abbrev pub domain_of : Held → Id
domain_of lease = lease.sd

abbrev pub slot_of : Held → ℕ
slot_of lease = lease.slot

abbrev pub record_of : Held → LeaseRecord
record_of lease = lease.record

-- The leases file is there, with this sector, and nothing in it is unsynced; what stands in the sector.
pub record Stands (d : Content) (sd : Id) (slot : ℕ) (bytes : List ℕ) : Type 0 where
  pub file : File
  pub there : d.file (leases_of sd) ≡ Some file
  pub within : slot < file.size
  pub settled : IsSettled file
  pub bytes_are : file.stable slot ≡ bytes

-- why an image's sector isn't taken: by what stands in it
abbrev pub image_refusal : Hosts → ℕ → Id → Option Sector → Refusal
image_refusal up host image (Some (Lease r)) =
    if id_is r.image image then (if may_take up host r.kind r.owner then ImageHeld host else ImageHeld r.owner) else NoImage
image_refusal up host image _ = NoImage

-- why sector 0 isn't taken: by what stands in it, and what was expected there
abbrev pub role_refusal : Hosts → ℕ → Sector → Option Sector → Refusal
role_refusal up host expect None = LeaseCorrupt 0
role_refusal up host expect (Some s) =
    if not (is_open up host (owner_of s)) then SpmHeld (owner_of s) (version_of s)
    else if not (owner_of s == owner_of expect) then PrevMismatch (owner_of expect) (owner_of s)
    else if not (version_of s == version_of expect) then LverMismatch (version_of expect) (version_of s)
    else SpmHeld host (version_of s)

-- the refusals of taking an image's sector, and of taking sector 0
abbrev pub IsImageRefusal : Refusal → Type 0
IsImageRefusal (ImageHeld owner) = Unit {0}
IsImageRefusal NoImage = Unit {0}
IsImageRefusal refusal = IsDiskRefusal refusal

abbrev pub IsRoleRefusal : Refusal → Type 0
IsRoleRefusal (LeaseCorrupt slot) = slot ≡ 0
IsRoleRefusal (SpmHeld owner version) = Unit {0}
IsRoleRefusal (PrevMismatch asked owner) = Unit {0}
IsRoleRefusal (LverMismatch asked version) = Unit {0}
IsRoleRefusal refusal = IsDiskRefusal refusal

abbrev pub IsTakeRefusal : ℕ → Refusal → Type 0
IsTakeRefusal slot refusal = MatchBool (slot == 0) (IsRoleRefusal refusal) (IsImageRefusal refusal)

-- the sector that was expected stands there: it is taken where it may be
abbrev pub met_answer : Option LeaseRecord → Refusal → Result LeaseRecord Refusal
met_answer (Some new) refusal = Ok new
met_answer None refusal = Err refusal

-- What an exchange that takes a sector answers, by the bytes that stand there: the new lease, where there is one, and the
-- expected sector stands there; else the refusal that belongs to what stands there.
abbrev pub answer_at : Option LeaseRecord → (Option Sector → Refusal) → Sector → List ℕ → Result LeaseRecord Refusal
answer_at new refuse expect bytes = if bytes_eq bytes (sector_bytes expect) then met_answer new (refuse (Some expect)) else Err (refuse (sector_in bytes))

-- the same by what the exchange answered; `faults` is the disk's count after it
abbrev pub answer_to : Option LeaseRecord → (Option Sector → Refusal) → Sector → ℕ → Result Exchanged DiskAnswer → Result LeaseRecord Refusal
answer_to new refuse expect faults (Ok Done) = met_answer new (refuse (Some expect))
answer_to new refuse expect faults (Ok (Found bytes)) = Err (refuse (sector_in bytes))
answer_to new refuse expect faults (Err answer) = Err (refusal_of answer faults)

-- taking sector 0
abbrev pub role_answer : Hosts → ℕ → Sector → List ℕ → Result LeaseRecord Refusal
role_answer up host expect bytes = answer_at (role_taken up host expect) (role_refusal up host expect) expect bytes

abbrev pub role_answer_to : Hosts → ℕ → Sector → ℕ → Result Exchanged DiskAnswer → Result LeaseRecord Refusal
role_answer_to up host expect faults answer = answer_to (role_taken up host expect) (role_refusal up host expect) expect faults answer

-- taking an image's sector
abbrev pub image_answer : Hosts → ℕ → Kind → Id → Sector → List ℕ → Result LeaseRecord Refusal
image_answer up host kind image expect bytes = answer_at (image_taken up host kind image expect) (image_refusal up host image) expect bytes

abbrev pub image_answer_to : Hosts → ℕ → Kind → Id → Sector → ℕ → Result Exchanged DiskAnswer → Result LeaseRecord Refusal
image_answer_to up host kind image expect faults answer = answer_to (image_taken up host kind image expect) (image_refusal up host image) expect faults answer

-- taking either: sector 0 has the role, any other one is an image's
abbrev pub take_answer : Hosts → ℕ → ℕ → Kind → Id → Sector → List ℕ → Result LeaseRecord Refusal
take_answer up host slot kind image expect bytes = if slot == 0 then role_answer up host expect bytes else image_answer up host kind image expect bytes

abbrev pub take_answer_to : Hosts → ℕ → ℕ → Kind → Id → Sector → ℕ → Result Exchanged DiskAnswer → Result LeaseRecord Refusal
take_answer_to up host slot kind image expect faults answer =
    if slot == 0 then role_answer_to up host expect faults answer else image_answer_to up host kind image expect faults answer

-- one exchange put this sector there, and nothing else has changed
abbrev pub IsMoved : Content → Id → ℕ → Sector → Content → Type 0
IsMoved d sd slot new e = (f : File) × (d.file (leases_of sd) ≡ Some f) × IsPut d (leases_of sd) (Some (exchanged slot (sector_bytes new) f)) e

-- What taking a sector leaves, where the first of these is the answer by the bytes that stand there, and the second what
-- was answered; `faults` is the disk's count after it.
abbrev pub Takes : Id → ℕ → Result LeaseRecord Refusal → ℕ → Result LeaseRecord Refusal → Content → Content → Type 0
Takes sd slot answer faults (Ok new) d e = (answer ≡ Ok new) × IsMoved d sd slot (Lease new) e
Takes sd slot answer faults (Err refusal) d e =
    ((answer ≡ Err refusal) × IsSame d e)
    ⊎ ((refusal ≡ DiskFault faults) × (IsSame d e ⊎ ((new : LeaseRecord) × (answer ≡ Ok new) × IsMoved d sd slot (Lease new) e)))

-- what was answered, by what the new lease's sector holds
abbrev pub record_taken : Result Held Refusal → Result LeaseRecord Refusal
record_taken (Ok lease) = Ok (record_of lease)
record_taken (Err refusal) = Err refusal

-- the owner and the version of what was found, 0 and 0 where it is empty or no sector
abbrev pub owner_in : Option Sector → ℕ
owner_in None = 0
owner_in (Some s) = owner_of s

abbrev pub version_in : Option Sector → ℕ
version_in None = 0
version_in (Some s) = version_of s

-- that another sector than the lease's own was found
abbrev pub found_refusal : List ℕ → Refusal
found_refusal bytes = SpmHeld (owner_in (sector_in bytes)) (version_in (sector_in bytes))

-- the refusals of giving a sector up
abbrev pub IsGivingRefusal : Refusal → Type 0
IsGivingRefusal (SpmHeld owner version) = Unit {0}
IsGivingRefusal refusal = IsDiskRefusal refusal

-- What giving a sector up leaves, of a folder in which these bytes stand in it: the new sector where the lease's bytes
-- stand there.
abbrev pub GivesUp : Id → ℕ → LeaseRecord → Sector → ℕ → List ℕ → Result (Unit {0}) Refusal → Content → Content → Type 0
GivesUp sd slot old new faults bytes (Ok _) d e = (bytes ≡ sector_bytes (Lease old)) × IsMoved d sd slot new e
GivesUp sd slot old new faults bytes (Err refusal) d e =
    ((bytes ≢ sector_bytes (Lease old)) × (refusal ≡ found_refusal bytes) × IsSame d e)
    ⊎ ((refusal ≡ DiskFault faults) × (IsSame d e ⊎ ((bytes ≡ sector_bytes (Lease old)) × IsMoved d sd slot new e)))

-- what giving a sector up answers, by what its exchange answered
abbrev pub giving_answer : ℕ → Result Exchanged DiskAnswer → Result (Unit {0}) Refusal
giving_answer faults (Ok Done) = Ok tt
giving_answer faults (Ok (Found bytes)) = Err (found_refusal bytes)
giving_answer faults (Err answer) = Err (refusal_of answer faults)

-- The call is one exchange of a sector, the expected one for the next, whatever stands there; and what the call answers
-- belongs to what the exchange answered.
abbrev pub ByOneExchange : {A : Type 0} → ℕ → Id → ℕ → Sector → Sector → (Result Exchanged DiskAnswer → A) → A → Content → Content → Type 0
ByOneExchange host sd slot expect next answer_for result d e =
    (answer : Result Exchanged DiskAnswer) × Exchanges d host (leases_of sd) slot (sector_bytes expect) (sector_bytes next) answer e × (result ≡ answer_for answer)
