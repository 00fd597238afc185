-- What a pool lists, as its manager reads it: one call, and what is kept then.
use Rattle.std.specs.Prelude.{◌≡◌, ℕ, List, Result, Ok, Err}
use Rattle.sd_names.specs.declared.id.Id.{Id}
use Rattle.sd_names.specs.declared.refusal.Refusal.{Refusal}
use Rattle.shared_disk.specs.Content.{Content}
use Rattle.domain_meta.specs.declared.record.DomainRecord.{DomainRecord}
use Rattle.spm_role.specs.Master.{ReadsMaster}
use Rattle.spm_role.specs.Spm.{lease_of, master_of, pool_of, tasks_of}
use Rattle.spm_role.specs.declared.spm.Spm.{Spm}

-- the manager is as before, but for its domains
pub record IsSameManager (spm next : Spm) : Type 0 where
  pub master : master_of next ≡ master_of spm
  pub pool : pool_of next ≡ pool_of spm
  pub tasks : tasks_of next ≡ tasks_of spm
  pub lease : lease_of next ≡ lease_of spm

-- what is kept, by what the text gave: its list, or what was kept before
abbrev pub IsListed : Result DomainRecord Refusal → Result (Unit {0}) Refusal → List Id → List Id → Type 0
IsListed (Ok r) result before after = (result ≡ Ok tt) × (after ≡ r.domains)
IsListed (Err e) result before after = (result ≡ Err e) × (after ≡ before)

-- The text of the master is read in this moment, and what is kept follows from it.
abbrev pub ListsPool : ℕ → Id → ℕ → Result (Unit {0}) Refusal → List Id → List Id → Content → Content → Type 0
ListsPool host sd faults result before after d e =
    (found : Result DomainRecord Refusal) × ReadsMaster host sd faults found d e × IsListed found result before after
