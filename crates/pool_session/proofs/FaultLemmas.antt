-- A count that rose in a part of the work rose in all of it.
use Rattle.std.proofs.Common.{◌≡◌, ℕ, ◌≤◌, Result, Ok, Err, MatchResult, ap, ◌∙◌, inl, inr, arith}
use Rattle.shared_disk.specs.Calls.{HasCause, Rose}
use Rattle.shared_disk.specs.Refusal.{refusal_of}
use Rattle.shared_disk.specs.declared.disk.DiskAnswer.{DiskAnswer}
use Rattle.shared_disk.specs.declared.disk.DiskAnswer.TheVariants.{Failed}
use Rattle.sd_names.specs.declared.refusal.Refusal.{Refusal}
use Rattle.pool_session.specs.Fault.{IsFault}

pub rose_since : (a b c : ℕ) → a ≤ b → Rose b c → Rose a c
rose_since a b c no_less (inl rose) = inl (omega arith)
rose_since a b c no_less (inr at_end) = inr at_end

pub fault_since : (a b c : ℕ) (refusal : Refusal) → a ≤ b → IsFault b c refusal → IsFault a c refusal
fault_since a b c refusal no_less fault = (rose_since a b c no_less fault.0, fault.1)

-- what follows from either end of some last part of the work
pub ends_since : (P Q : Unit {0} → Type 0) (R S : Type 0) (a b c : ℕ) (r : Result (Unit {0}) Refusal) → a ≤ b → ((t : Unit {0}) → P t → Q t) → (R → S)
    → MatchResult r P (λ refusal. IsFault b c refusal × R) → MatchResult r Q (λ refusal. IsFault a c refusal × S)
ends_since P Q R S a b c (Ok t) no_less f g h = f t h
ends_since P Q R S a b c (Err refusal) no_less f g h = (fault_since a b c refusal no_less h.0, g h.1)

-- the disk's answer was a fault, which is told
pub fault_told : (a b : ℕ) (r : Result (Unit {0}) DiskAnswer) (answer : DiskAnswer) (refusal : Refusal) → r ≡ Err answer → HasCause a b r → answer ≡ Failed → refusal ≡ refusal_of answer b
    → IsFault a b refusal
fault_told a b r answer refusal is cause failed told = (cause.failed (is ∙ ap (λ (x : DiskAnswer). Err x) failed), told ∙ ap (λ (x : DiskAnswer). refusal_of x b) failed)
