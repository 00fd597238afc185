-- What a disk tells of its own limits, and what a call answers and leaves within them.
use Rattle.std.specs.Prelude.{◌≡◌, ◌⊎◌, ℕ, ◌+◌, ◌-◌, ◌^◌, ◌<◌, ◌≤◌, min, List, Contains, Option, Result, IsErrOf, OnOk, OnErr}
use Rattle.shared_disk.specs.declared.disk.DiskAnswer.{DiskAnswer}
use Rattle.shared_disk.specs.declared.disk.DiskAnswer.TheVariants.{Failed}
use Rattle.shared_disk.specs.Content.{Content}

-- the units in use, how many there is room for, and the numbers of the calls that fail; the first call has the number 0
pub record Limits : Type 0 where
  pub units : ℕ
  pub room : ℕ
  pub failing : List ℕ

-- what a call that did its work does to the units in use: it adds so many, at most so many, or leaves fewer
pub data Use : Type 0 where
  adds : ℕ → Use
  adds_at_most : ℕ → Use
  frees : Use

-- how many more units there must be room for
abbrev pub need_of : Use → ℕ
need_of (adds n) = n
need_of (adds_at_most n) = n
need_of frees = 0

-- the units in use before the call and after it
abbrev pub Uses : Use → ℕ → ℕ → Type 0
Uses (adds n) before after = after ≡ before + n
Uses (adds_at_most n) before after = after ≤ before + n
Uses frees before after = after < before

-- the same room and the same failing calls; never are more units in use than there is room for
pub record IsSameRoom (l m : Limits) : Type 0 where
  pub room : m.room ≡ l.room
  pub failing : m.failing ≡ l.failing
  pub fitted : l.units ≤ l.room
  pub fits : m.units ≤ m.room

-- A call of this number. It fails where the number is listed, and else only where it needs more units than there is room
-- for. A call that fails is counted as a fault, no other is, and it leaves what the disk holds.
pub record KeepsLimits {T : Type 0} (change : Use) (number faults faults_after : ℕ) (content content_after : Option Content) (result : Result T DiskAnswer) (l m : Limits) : Type 0 where
  pub same : IsSameRoom l m
  pub units : OnOk result (Uses change l.units m.units)
  pub refused : OnErr result (m.units ≡ l.units)
  pub listed : Contains l.failing number → IsErrOf result Failed
  pub failed : IsErrOf result Failed → Contains l.failing number ⊎ (l.room < l.units + need_of change)
  pub counted : IsErrOf result Failed → faults_after ≡ min (faults + 1) (2 ^ 64 - 1)
  pub uncounted : (IsErrOf result Failed → ⊥) → faults_after ≡ faults
  pub unchanged : IsErrOf result Failed → content_after ≡ content
