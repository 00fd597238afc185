-- The refusal that stands for a disk's answer, at a count of faults.
use Rattle.std.specs.Prelude.{◌≡◌, ℕ}
use Rattle.sd_names.specs.declared.absence.Absence.TheVariants as absence
use Rattle.sd_names.specs.declared.refusal.Refusal.{Refusal}
use Rattle.sd_names.specs.declared.refusal.Refusal.TheVariants.{DiskFault, Vanished}
use Rattle.shared_disk.specs.Calls.{Rose}
use Rattle.shared_disk.specs.declared.disk.DiskAnswer.{DiskAnswer}
use Rattle.shared_disk.specs.declared.disk.DiskAnswer.TheVariants.{NoFile, Exists, OutOfFile, NotEmpty, Failed}

-- 120 with the count, or 122 with the answer's word
abbrev pub refusal_of : DiskAnswer → ℕ → Refusal
refusal_of NoFile faults = Vanished absence.NoFile
refusal_of Exists faults = Vanished absence.Exists
refusal_of OutOfFile faults = Vanished absence.OutOfFile
refusal_of NotEmpty faults = Vanished absence.NotEmpty
refusal_of Failed faults = DiskFault faults

-- a fault is answered only where the count rose, and with the new count; any other refusal leaves the count
abbrev pub IsRisen : ℕ → ℕ → Refusal → Type 0
IsRisen before after (DiskFault n) = Rose before after × (n ≡ after)
IsRisen before after _ = after ≡ before
