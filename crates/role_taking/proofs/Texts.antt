-- The text of a domain, as a host reads it on a disk that stands for a pool.
use Rattle.std.proofs.Common.{◌≡◌, ℕ, ◌<◌, false, List, [], length, take, Option, Some, None, Result, Ok, Err, refl, sym, ap, subst, ◌∙◌, inl, inr, ◌⊎◌, arith}
use Rattle.std.proofs.lemmas.Bool.Decides.{nat_tests}
use Rattle.std.specs.Prelude.{nat_le}
use Rattle.sd_names.specs.UpSet.{Hosts}
use Rattle.sd_names.specs.declared.fault.DomainFault.TheVariants.{TooLong}
use Rattle.sd_names.specs.declared.id.Id.{Id}
use Rattle.sd_names.specs.declared.refusal.Refusal.{Refusal}
use Rattle.sd_names.specs.declared.refusal.Refusal.TheVariants.{DiskFault, NoDomain, OutOfMemory}
use Rattle.shared_disk.specs.Calls.{IsSame}
use Rattle.shared_disk.specs.Content.{Content, File, Loose, without}
use Rattle.domain_meta.specs.Read.{read_domain}
use Rattle.domain_meta.specs.declared.record.DomainRecord.{DomainRecord}
use Rattle.whole_file.specs.Read.{ReadsText}
use Rattle.whole_file.specs.Text.{longest, text_of as text_seen_by}
use Rattle.whole_file.specs.declared.read.Text.{Text}
use Rattle.whole_file.specs.declared.read.Text.TheVariants.{Absent, Bytes, Long}
use Rattle.spm_role.specs.Master.{IsAnswered, IsTold, ReadsMaster, master_in, metadata_of}
use Rattle.chain_model.proofs.Texts.{text_seen}
use Rattle.pool_model.specs.Pool.{Pool}
use Rattle.pool_model.specs.Rules.{text_of}
use Rattle.pool_model.specs.Standing.{HasDomainText, Stands}
use Rattle.pool_model.proofs.OneDomain.{Said, TextIs, text_is}

-- what a reading answers, by what the pool has of the text
abbrev pub master_read : Option Said → Result DomainRecord Refusal
master_read None = Err NoDomain
master_read (Some t) = master_in t

-- so it is answered, or there is no memory, or the disk failed
abbrev pub Reads : ℕ → Option Said → Result DomainRecord Refusal → Type 0
Reads faults o read = (read ≡ master_read o) ⊎ ((read ≡ Err OutOfMemory) ⊎ (read ≡ Err (DiskFault faults)))

no_file : (o : Option File) (f : File) → o ≡ None → o ≡ Some f → ⊥
no_file o f e h = cc

same_file : (o : Option File) (f g : File) → o ≡ Some f → o ≡ Some g → f ≡ g
same_file o f g e h = cc

-- a text that is too long is none
too_long : (sd : Id) (text : List ℕ) → longest < length text → read_domain sd text ≡ Err TooLong
unfolding read_domain
too_long sd text long = let past : nat_le (length text) 8192 ≡ false = grind (arith, nat_tests, long) in rw past refl

module _ (d : Content) (sd : Id) (host : ℕ) where
  -- the text that a host sees is the stored one
  seen_is : (t : Said) (has : HasDomainText d sd t) (f : File) → d.file (metadata_of sd) ≡ Some f → (without host f.loose ≡ []) × (text_seen_by host f ≡ has.0)
  seen_is t has f there = subst (λ (g : File). (without host g.loose ≡ []) × (text_seen_by host g ≡ has.0))
      (same_file (d.file (metadata_of sd)) has.1.file f has.1.there there)
      (ap (λ (ls : List Loose). without host ls) has.1.settled.loose, text_seen host has.1.file has.1.settled ∙ has.1.stored)

  told : (read : Result DomainRecord Refusal) (faults : ℕ) (t : Said) (text : List ℕ) → read_domain sd text ≡ t → IsTold read sd text → Reads faults (Some t) read
  told read faults t text is (inl answer) = inl (answer ∙ ap master_in is)
  told read faults t text is (inr (lacks, r, fits)) = inr (inl lacks)

  by_text : (o : Option Said) (room : List ℕ) (faults : ℕ) (e : Content) (text : Result Text Refusal) (read : Result DomainRecord Refusal) → TextIs d sd o
      → ReadsText host (metadata_of sd) room faults text d e → IsAnswered text sd room read → IsSame d e × Reads faults o read
  by_text None room faults e (Ok Absent) read is reads answered = (reads.0, inl answered)
  by_text (Some t) room faults e (Ok Absent) read is reads answered = absurd (no_file (d.file (metadata_of sd)) is.1.file reads.1 is.1.there)
  by_text None room faults e (Ok Long) read is reads answered = absurd (no_file (d.file (metadata_of sd)) reads.1.0 is reads.1.1)
  by_text (Some t) room faults e (Ok Long) read is reads answered =
      let seen = seen_is t is reads.1.0 reads.1.1 in
      let long = subst (λ (text : List ℕ). longest < length text) seen.1 (reads.1.2 seen.0) in
      (reads.0, inl (answered ∙ ap master_in (sym (too_long sd is.0 long) ∙ is.2)))
  by_text None room faults e (Ok (Bytes n)) read is reads answered = absurd (no_file (d.file (metadata_of sd)) reads.1.0 is reads.1.1)
  by_text (Some t) room faults e (Ok (Bytes n)) read is reads answered =
      let seen = seen_is t is reads.1.0 reads.1.1 in
      (reads.0, told read faults t (take n room) (ap (λ (text : List ℕ). read_domain sd text) (reads.1.2 seen.0 ∙ seen.1) ∙ is.2) answered)
  by_text o room faults e (Err refusal) read is reads answered = (reads.0, inr (inr (answered ∙ ap (λ (r : Refusal). Err r) reads.1)))

-- A domain's text is read: nothing has changed, and what is answered is what the pool has of it, but for want of memory and a
-- fault.
pub text_reads : (up : Hosts) (d e : Content) (p : Pool) (sd : Id) (host faults : ℕ) (read : Result DomainRecord Refusal) → Stands up d p
    → ReadsMaster host sd faults read d e → IsSame d e × Reads faults (text_of p sd) read
text_reads up d e p sd host faults read stands (room, text, reads, answered) =
    by_text d sd host (text_of p sd) room faults e text read (text_is up d p sd (p.domain sd) (p.stray sd) (stands.domain sd)) reads answered
