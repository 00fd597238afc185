-- Why a call failed, and what a disk that tells its content tells after a call.
use Rattle.std.proofs.Common.{◌≡◌, ℕ, ◌+◌, ◌-◌, ◌^◌, ◌<◌, ◌≤◌, min, Result, Err, arith, inl, inr, refl}
use Rattle.std.specs.Result.{IsErrOf}
use Rattle.std.proofs.lemmas.Bool.{cases_lt}
use Rattle.shared_disk.specs.declared.disk.DiskAnswer.{DiskAnswer}
use Rattle.shared_disk.specs.declared.disk.DiskAnswer.TheVariants.{Failed}
use Rattle.shared_disk.specs.Calls.{HasCause, Rose}
use Rattle.memory_disk.proofs.Limits.{Counts}

pub rose : (before after : ℕ) → after ≡ min (before + 1) (2 ^ 64 - 1) → before < 2 ^ 64 → Rose before after
rose before after e fits =
    elim (cases_lt before (2 ^ 64 - 1)) [ inl h ↦ inl (omega arith) | inr h ↦ inr (omega arith) ]

-- the call failed, and a fault was counted
pub cause_counted : {T : Type 0} (before after : ℕ) → after ≡ min (before + 1) (2 ^ 64 - 1) → before < 2 ^ 64 → HasCause {T = T} before after (Err Failed)
cause_counted before after e fits = record { no_less = omega arith; fits = omega arith; failed = λ _. rose before after e fits; uncounted = λ h. absurd (h refl) }

-- no fault was counted, and the call didn't fail
pub cause_none : {T : Type 0} (before after : ℕ) (result : Result T DiskAnswer) → after ≡ before → before < 2 ^ 64 → (IsErrOf result Failed → ⊥) → HasCause before after result
cause_none before after result e fits h = record { no_less = omega arith; fits = omega arith; failed = λ f. absurd (h f); uncounted = λ _. e }

-- a fault was counted exactly where the call failed
pub cause_exact : {T : Type 0} (before after : ℕ) (result : Result T DiskAnswer) → before < 2 ^ 64 → (IsErrOf result Failed → after ≡ min (before + 1) (2 ^ 64 - 1))
    → ((IsErrOf result Failed → ⊥) → after ≡ before) → before ≤ after → after < 2 ^ 64 → HasCause before after result
cause_exact before after result fits h kept le small = record { no_less = le; fits = small; failed = λ f. rose before after (h f) fits; uncounted = kept }

-- the same of faults that are counted by another result
pub cause_by : {T : Type 0} (before after : ℕ) (result : Result T DiskAnswer) → before < 2 ^ 64 → Counts before after result → before ≤ after → after < 2 ^ 64 → HasCause before after result
cause_by before after result fits counts le small = cause_exact before after result fits counts.failed counts.other le small
