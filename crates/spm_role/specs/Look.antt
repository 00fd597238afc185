-- Looking at sector 0: whether the role may be taken from the owner and at the version that are asked.
use Rattle.std.specs.Prelude.{◌≡◌, ℕ, ◌==◌, not, if◌then◌else◌, List, replicate, Option, Some, None, Result, Ok, Err}
use Rattle.sd_names.specs.UpSet.{Hosts}
use Rattle.sd_names.specs.declared.id.Id.{Id}
use Rattle.sd_names.specs.declared.refusal.Refusal.{Refusal}
use Rattle.sd_names.specs.declared.refusal.Refusal.TheVariants.{LeaseCorrupt, LverMismatch, PrevMismatch, SpmHeld}
use Rattle.shared_disk.specs.Calls.{ReadAt}
use Rattle.shared_disk.specs.Content.{Content}
use Rattle.shared_disk.specs.Refusal.{refusal_of}
use Rattle.shared_disk.specs.declared.disk.DiskAnswer.{DiskAnswer}
use Rattle.lease_area.specs.Hold.{leases_of}
use Rattle.lease_area.specs.Move.{is_open, owner_of, version_of}
use Rattle.lease_area.specs.Sector.{sector_in}
use Rattle.lease_area.specs.declared.sector.Sector.{Sector}

-- the sector, where it may be taken from this owner at this version; else 58, 41, 43 or 42
abbrev pub look_answer : Hosts → ℕ → ℕ → ℕ → Option Sector → Result Sector Refusal
look_answer up host prev lver None = Err (LeaseCorrupt 0)
look_answer up host prev lver (Some s) =
    if not (is_open up host (owner_of s)) then Err (SpmHeld (owner_of s) (version_of s))
    else if not (owner_of s == prev) then Err (PrevMismatch prev (owner_of s))
    else if not (version_of s == lver) then Err (LverMismatch lver (version_of s))
    else Ok s

-- the sector that was read, where a whole one was
abbrev pub sector_read : ℕ → List ℕ → Option Sector
sector_read count bytes = if count == 512 then sector_in bytes else None

-- what looking answers, by what its call answered; `bytes` are in the room after it, and `faults` is the disk's count
abbrev pub look_of : Hosts → ℕ → ℕ → ℕ → ℕ → List ℕ → Result ℕ DiskAnswer → Result Sector Refusal
look_of up host prev lver faults bytes (Ok count) = look_answer up host prev lver (sector_read count bytes)
look_of up host prev lver faults bytes (Err answer) = Err (refusal_of answer faults)

-- One call reads the sector, and what is answered follows from its answer: in this moment.
abbrev pub Looks : ℕ → Hosts → Id → ℕ → ℕ → ℕ → Result Sector Refusal → Content → Content → Type 0
Looks host up sd prev lver faults result d e =
    (bytes : List ℕ) × (answer : Result ℕ DiskAnswer) × ReadAt d host (leases_of sd) 0 (replicate 512 0) bytes answer e
    × (result ≡ look_of up host prev lver faults bytes answer)
