-- What an exchange that takes a sector comes to, before its refusal is known.
use Rattle.std.specs.Prelude.{◌≡◌, ℕ, Option, Some, None, Result, Ok, Err}
use Rattle.shared_disk.specs.Refusal.{IsRisen, refusal_of}
use Rattle.shared_disk.specs.Step.{IsDiskRefusal}
use Rattle.shared_disk.specs.declared.disk.DiskAnswer.{DiskAnswer}
use Rattle.shared_disk.specs.declared.disk.Exchanged.{Exchanged}
use Rattle.shared_disk.specs.declared.disk.Exchanged.TheVariants as exchange
use Rattle.lease_area.specs.Hold.{record_of}
use Rattle.lease_area.specs.Sector.{sector_in}
use Rattle.lease_area.specs.declared.attempt.NotTaken.{NotTaken}
use Rattle.lease_area.specs.declared.attempt.NotTaken.TheVariants.{Found, Refused}
use Rattle.lease_area.specs.declared.lease.Lease.{Lease as Held}
use Rattle.lease_area.specs.declared.sector.LeaseRecord.{LeaseRecord}
use Rattle.lease_area.specs.declared.sector.Sector.{Sector}

-- a refusal of the disk has its cause, and where a sector was found no fault was counted
abbrev pub IsNotTaken : ℕ → ℕ → NotTaken → Type 0
IsNotTaken before after (Found sector) = after ≡ before
IsNotTaken before after (Refused refusal) = IsDiskRefusal refusal × IsRisen before after refusal

-- the expected sector stands there: the new lease, where there is one
abbrev pub met : Option LeaseRecord → Sector → Result LeaseRecord NotTaken
met (Some new) expect = Ok new
met None expect = Err (Found (Some expect))

-- what it comes to, by what the exchange answered; `faults` is the disk's count after it
abbrev pub attempt_answer : Option LeaseRecord → Sector → ℕ → Result Exchanged DiskAnswer → Result LeaseRecord NotTaken
attempt_answer new expect faults (Ok exchange.Done) = met new expect
attempt_answer new expect faults (Ok (exchange.Found bytes)) = Err (Found (sector_in bytes))
attempt_answer new expect faults (Err answer) = Err (Refused (refusal_of answer faults))

-- the same by what was handed out
abbrev pub attempted : Result Held NotTaken → Result LeaseRecord NotTaken
attempted (Ok lease) = Ok (record_of lease)
attempted (Err why) = Err why
