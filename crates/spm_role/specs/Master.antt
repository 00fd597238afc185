-- What the text of a master domain says, and what reading it answers.
use Rattle.std.specs.Prelude.{◌≡◌, ◌⊎◌, ℕ, ◌==◌, ◌||◌, if◌then◌else◌, List, take, Result, Ok, Err}
use Rattle.sd_names.specs.declared.fault.DomainFault.{DomainFault}
use Rattle.sd_names.specs.declared.fault.DomainFault.TheVariants as fault
use Rattle.sd_names.specs.declared.id.Id.{Id}
use Rattle.sd_names.specs.declared.kinds.Role.{Role}
use Rattle.sd_names.specs.declared.kinds.Role.TheVariants.{Master, Regular}
use Rattle.sd_names.specs.declared.place.Dir.TheVariants.{DomMd}
use Rattle.sd_names.specs.declared.place.Name.TheVariants.{Metadata}
use Rattle.sd_names.specs.declared.place.Place.{Place}
use Rattle.sd_names.specs.declared.refusal.Refusal.{Refusal}
use Rattle.sd_names.specs.declared.refusal.Refusal.TheVariants.{DomainCorrupt, NoDomain, NoPool, OutOfMemory, WrongVersion}
use Rattle.shared_disk.specs.Content.{Content}
use Rattle.shared_disk.specs.NameCalls.{place_in}
use Rattle.shared_disk.specs.Step.{IsDiskRefusal}
use Rattle.domain_meta.specs.Read.{read_domain}
use Rattle.domain_meta.specs.declared.record.DomainRecord.{DomainRecord}
use Rattle.whole_file.specs.Read.{ReadsText}
use Rattle.whole_file.specs.declared.read.Text.{Text}
use Rattle.whole_file.specs.declared.read.Text.TheVariants.{Absent, Long, Bytes}

-- the file of a domain's text
abbrev pub metadata_of : Id → Place
metadata_of sd = place_in (DomMd sd) Metadata

-- the record of a master, and no other's
abbrev pub as_master : Role → DomainRecord → Result DomainRecord Refusal
as_master Master r = Ok r
as_master Regular r = Err NoPool

-- the record of a master's text, or why the text is none: 34, 35, 30
abbrev pub master_in : Result DomainRecord DomainFault → Result DomainRecord Refusal
master_in (Err fault) = Err (DomainCorrupt fault)
master_in (Ok r) = if r.version == 4 || r.version == 5 then as_master r.role r else Err (WrongVersion r.version)

abbrev pub master_of_text : Id → List ℕ → Result DomainRecord Refusal
master_of_text sd text = master_in (read_domain sd text)

-- What a text gives. Want of memory comes only where nothing is wrong with the text.
abbrev pub IsTold : Result DomainRecord Refusal → Id → List ℕ → Type 0
IsTold result sd text = (result ≡ master_of_text sd text) ⊎ ((result ≡ Err OutOfMemory) × (r : DomainRecord) × (read_domain sd text ≡ Ok r))

-- the refusals of reading a master's text
abbrev pub IsTextRefusal : Refusal → Type 0
IsTextRefusal NoDomain = Unit {0}
IsTextRefusal NoPool = Unit {0}
IsTextRefusal (DomainCorrupt fault) = Unit {0}
IsTextRefusal (WrongVersion version) = Unit {0}
IsTextRefusal OutOfMemory = Unit {0}
IsTextRefusal refusal = IsDiskRefusal refusal

-- What is answered, by what the small file reads as; its text stands at the front of the room.
abbrev pub IsAnswered : Result Text Refusal → Id → List ℕ → Result DomainRecord Refusal → Type 0
IsAnswered (Ok Absent) sd room result = result ≡ Err NoDomain
IsAnswered (Ok Long) sd room result = result ≡ Err (DomainCorrupt fault.TooLong)
IsAnswered (Ok (Bytes n)) sd room result = IsTold result sd (take n room)
IsAnswered (Err refusal) sd room result = result ≡ Err refusal

-- The text of a domain is read, and nothing is changed by it; `faults` is the disk's count after it.
abbrev pub ReadsMaster : ℕ → Id → ℕ → Result DomainRecord Refusal → Content → Content → Type 0
ReadsMaster host sd faults result d e =
    (room : List ℕ) × (text : Result Text Refusal) × ReadsText host (metadata_of sd) room faults text d e × IsAnswered text sd room result
