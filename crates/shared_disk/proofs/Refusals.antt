-- Which answers of a disk its refusals stand for.
use Rattle.std.proofs.Common.{◌≡◌, ◌≢◌, ℕ, refl, sym, ap, ◌∙◌}
use Rattle.sd_names.specs.declared.absence.Absence.{Absence}
use Rattle.sd_names.specs.declared.absence.Absence.TheVariants as absence
use Rattle.sd_names.specs.declared.refusal.Refusal.{Refusal}
use Rattle.sd_names.specs.declared.refusal.Refusal.TheVariants.{Vanished}
use Rattle.shared_disk.specs.Calls.{Rose}
use Rattle.shared_disk.specs.Refusal.{IsRisen, refusal_of}
use Rattle.shared_disk.specs.Step.{IsDiskRefusal}
use Rattle.shared_disk.specs.declared.disk.DiskAnswer.{DiskAnswer}
use Rattle.shared_disk.specs.declared.disk.DiskAnswer.TheVariants.{NoFile, Exists, OutOfFile, NotEmpty, Failed}

word : Absence → DiskAnswer
word absence.NoFile = NoFile
word absence.Exists = Exists
word absence.OutOfFile = OutOfFile
word absence.NotEmpty = NotEmpty

-- the answer that a refusal stands for
answer_of : Refusal → DiskAnswer
answer_of (Vanished absence) = word absence
answer_of _ = Failed

answer_back : (a : DiskAnswer) (n : ℕ) → answer_of (refusal_of a n) ≡ a
unfolding word answer_of
answer_back NoFile n = refl
answer_back Exists n = refl
answer_back OutOfFile n = refl
answer_back NotEmpty n = refl
answer_back Failed n = refl

pub one_answer : (a b : DiskAnswer) (m n : ℕ) → refusal_of a m ≡ refusal_of b n → a ≡ b
one_answer a b m n e = sym (answer_back a m) ∙ ap (λ (r : Refusal). answer_of r) e ∙ answer_back b n

pub of_disk : (a : DiskAnswer) (n : ℕ) → IsDiskRefusal (refusal_of a n)
of_disk NoFile n = tt
of_disk Exists n = tt
of_disk OutOfFile n = tt
of_disk NotEmpty n = tt
of_disk Failed n = tt

pub risen : (a : DiskAnswer) (before after : ℕ) → (a ≡ Failed → Rose before after) → (a ≢ Failed → after ≡ before) → IsRisen before after (refusal_of a after)
risen NoFile before after rose kept = kept (λ e. cc)
risen Exists before after rose kept = kept (λ e. cc)
risen OutOfFile before after rose kept = kept (λ e. cc)
risen NotEmpty before after rose kept = kept (λ e. cc)
risen Failed before after rose kept = (rose refl, refl)
