-- A refusal that comes of a fault of the disk.
use Rattle.std.specs.Prelude.{◌≡◌, ◌⊎◌, ℕ}
use Rattle.sd_names.specs.declared.refusal.Refusal.{Refusal}
use Rattle.sd_names.specs.declared.refusal.Refusal.TheVariants.{DiskFault}
use Rattle.shared_disk.specs.Content.{Content}
use Rattle.shared_disk.specs.Calls.{IsSame, Rose}

-- the disk's count of faults rose, and the refusal has the new one
abbrev pub IsFault : ℕ → ℕ → Refusal → Type 0
IsFault before after refusal = Rose before after × (refusal ≡ DiskFault after)

-- nothing has changed, or the refusal is a fault and this is so
abbrev pub SameOrFault : Refusal → (Content → Content → Type 0) → Content → Content → Type 0
SameOrFault refusal R d e = IsSame d e ⊎ ((faults : ℕ) × (refusal ≡ DiskFault faults) × R d e)
