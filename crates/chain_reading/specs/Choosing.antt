-- What a read does next, decided without the disk.
use Rattle.std.specs.Prelude.{◌≡◌, ◌⊎◌, ℕ, ◌+◌, ◌-◌, ◌/◌, ◌<◌, ◌≤◌, false, Some, None}
use Rattle.qcow_format.specs.declared.entry.Entry.{Entry}
use Rattle.qcow_format.specs.declared.entry.Entry.TheVariants.{Absent, Zero, Data}
use Rattle.chain_reading.specs.Asked.{cluster_end, end_in, offset_in}
use Rattle.chain_reading.specs.Laying.{is_missing}
use Rattle.chain_reading.specs.declared.asked.Asked.{Asked}
use Rattle.chain_reading.specs.declared.choosing.Fit as fits
use Rattle.chain_reading.specs.declared.choosing.Fit.TheVariants as fit
use Rattle.chain_reading.specs.declared.choosing.Next as nexts
use Rattle.chain_reading.specs.declared.choosing.Next.TheVariants as next
use Rattle.chain_reading.specs.declared.part.ReadPart.{ReadPart}
use Rattle.chain_reading.specs.declared.running.Run.{Run}

abbrev pub waits : ReadPart → Type 0
waits p = p.run.from < p.run.to

abbrev pub is_free : ReadPart → Type 0
is_free p = p.run.from ≡ p.run.to

-- no sector of the part is missing from the run's end up to this one
abbrev pub NoneMissing : ReadPart → ℕ → Type 0
NoneMissing p at = (j : ℕ) → p.run.to ≤ j → j < at → is_missing p.missing j ≡ false

-- the rest of the part in a raw volume
pub record TakesRaw (p : ReadPart) (a : Asked) (count : ℕ) (r : Run) : Type 0 where
  pub raw : a.cluster ≡ None
  pub free : is_free p
  pub from : p.run.to ≤ r.from
  pub none : NoneMissing p r.from
  pub some : r.from < r.to
  pub to : r.to ≡ end_in a p.first count
  pub sector : r.sector ≡ p.first + r.from

-- the cluster of the first missing sector; the run that waits ends before it, or none waits
pub record LooksNext (p : ReadPart) (a : Asked) (count : ℕ) (r : Run) : Type 0 where
  pub width : ℕ
  pub layer : a.cluster ≡ Some width
  pub from : p.run.to ≤ r.to
  pub none : NoneMissing p r.to
  pub inside : r.to < end_in a p.first count
  pub run : (r ≡ p.run) ⊎ (is_free p × (r.from ≡ r.to))

abbrev pub IsNext : ReadPart → Asked → ℕ → nexts.Next → Type 0
IsNext p a count next.Read = waits p
IsNext p a count next.Pass = is_free p × NoneMissing p (end_in a p.first count)
IsNext p a count (next.Take r) = TakesRaw p a count r
IsNext p a count (next.Look r) = LooksNext p a count r

-- where the cluster ends of the first sector behind the run
abbrev pub past : ReadPart → Asked → ℕ → ℕ
past p a count = cluster_end a.cluster p.first p.run.to (end_in a p.first count)

-- the sector of the file that has that first sector, where the cluster stands at this place
abbrev pub sector_at : ReadPart → Asked → ℕ → ℕ
sector_at p a place = place / 512 + offset_in a.cluster p.first p.run.to

-- a cluster that begins a run, or lengthens the one that waits
pub record TakesCluster (p : ReadPart) (a : Asked) (count place : ℕ) (r : Run) : Type 0 where
  pub to : r.to ≡ past p a count
  pub how : (is_free p × (r.from ≡ p.run.to) × (r.sector ≡ sector_at p a place))
      ⊎ (waits p × (r.from ≡ p.run.from) × (r.sector ≡ p.run.sector) × (sector_at p a place ≡ p.run.sector + (p.run.to - p.run.from)))

abbrev pub IsFit : ReadPart → Asked → ℕ → Entry → fits.Fit → Type 0
IsFit p a count e fit.Read = waits p
IsFit p a count e (fit.Take r) = (place : ℕ) × (e ≡ Data place) × TakesCluster p a count place r
IsFit p a count e (fit.Zeros end) = (place : ℕ) × (e ≡ Zero place) × is_free p × (end ≡ past p a count)
IsFit p a count e (fit.Skip end) = (e ≡ Absent) × is_free p × (end ≡ past p a count)
