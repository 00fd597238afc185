-- The faults of a domain's text are those of lines, keys, values and the checksum: none tells want of memory.
use Rattle.std.proofs.Common.{◌≡◌, ℕ, Bool, true, false, List, length, Option, Some, None, Result, Ok, Err, refl, sym, ap, ◌∙◌, nat_le, inl, inr}
use Rattle.std.specs.Prelude.{option_map, IsOk}
use Rattle.std.specs.Str.{bytes_eq}
use Rattle.std.proofs.lemmas.Bool.{false≢true}
use Rattle.kv_text.specs.Gives.{Gives}
use Rattle.kv_text.specs.Keys.{◌>>=◌, unless_fault, shape_fault}
use Rattle.kv_text.specs.Text.{pairs}
use Rattle.kv_text.specs.declared.fault.TextFault.{TextFault}
use Rattle.kv_text.specs.declared.fault.TextFault.TheVariants as text
use Rattle.sd_names.specs.declared.id.Id.{Id}
use Rattle.sd_names.specs.declared.fault.DomainFault.{DomainFault}
use Rattle.sd_names.specs.declared.fault.DomainFault.TheVariants.{Memory}
use Rattle.domain_meta.specs.Checksum.{checksum_of}
use Rattle.domain_meta.specs.Read.{checked_fields, fault_of, fields_of, needed_keys, read_domain, same_digest, with_fault}
use Rattle.sd_names.specs.declared.refusal.Refusal.TheVariants.{OutOfMemory}
use Rattle.spm_role.specs.Master.{IsTold}
use Rattle.domain_meta.specs.declared.record.DomainRecord.{DomainRecord}

abbrev is_memory : {X : Type 0} → Result X DomainFault → Bool
is_memory (Err Memory) = true
is_memory _ = false

lines : {X : Type 0} (r : Result X TextFault) → is_memory (with_fault r) ≡ false
lines (Ok x) = refl
lines (Err (text.BadLine n)) = refl
lines (Err (text.MissingKey k)) = refl
lines (Err (text.BadValue k)) = refl

shape : (o : Option TextFault) (r : Result DomainRecord DomainFault) → is_memory r ≡ false → is_memory (unless_fault (option_map fault_of o) r) ≡ false
shape None r is = is
shape (Some (text.BadLine n)) r is = refl
shape (Some (text.MissingKey k)) r is = refl
shape (Some (text.BadValue k)) r is = refl

digest : (a b : List ℕ) (t : Bool) (r : Result DomainRecord DomainFault) → bytes_eq a b ≡ t → is_memory r ≡ false → is_memory (unless_fault (same_digest a b) r) ≡ false
digest a b true r e is = rw e is
digest a b false r e is = rw e refl

found : (x : Result (List ℕ) TextFault) (k : List ℕ → Result DomainRecord DomainFault) → ((y : List ℕ) → is_memory (k y) ≡ false) → is_memory (with_fault x >>= k) ≡ false
found (Ok y) k is = is y
found (Err (text.BadLine n)) k is = refl
found (Err (text.MissingKey n)) k is = refl
found (Err (text.BadValue n)) k is = refl

checked : (sd : Id) (bytes : List ℕ) → is_memory (checked_fields sd bytes) ≡ false
unfolding checked_fields
checked sd bytes = found _ _ (λ y. digest y (checksum_of bytes) (bytes_eq y (checksum_of bytes)) _ refl (lines (fields_of sd (pairs bytes))))

long : (sd : Id) (bytes : List ℕ) (t : Bool) → nat_le (length bytes) 8192 ≡ t → is_memory (read_domain sd bytes) ≡ false
unfolding read_domain
long sd bytes true e = rw e (shape (shape_fault bytes needed_keys) (checked_fields sd bytes) (checked sd bytes))
long sd bytes false e = rw e refl

pub never_memory : (sd : Id) (bytes : List ℕ) → Err Memory ≡ read_domain sd bytes → ⊥
never_memory sd bytes is = false≢true (sym (long sd bytes (nat_le (length bytes) 8192) refl) ∙ ap is_memory (sym is))

whole : (o : Result DomainRecord DomainFault) → IsOk o → (r : DomainRecord) × (o ≡ Ok r)
whole (Ok r) is = (r, refl)
whole (Err e) is = absurd (false≢true is)

-- want of memory is told of a text of which nothing is wrong
pub out_of_memory : (sd : Id) (bytes : List ℕ) → Gives {X = DomainRecord} Memory (Err Memory) (read_domain sd bytes) → IsTold (Err OutOfMemory) sd bytes
out_of_memory sd bytes (inl e) = absurd (never_memory sd bytes e)
out_of_memory sd bytes (inr e) = let text = whole (read_domain sd bytes) e.1 in inr (refl, text.0, text.1)
