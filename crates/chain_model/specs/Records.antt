-- What the texts of an image's volumes say.
use Rattle.std.specs.Prelude.{ℕ, Bool, true, false, ◌&&◌, not, if◌then◌else◌, List, Option, Some, None, option_and_then, Result, Ok, Err}
use Rattle.std.specs.Option.{is_some, option_map}
use Rattle.sd_names.specs.Id.{zero_id}
use Rattle.sd_names.specs.declared.fault.VolumeFault.{VolumeFault}
use Rattle.sd_names.specs.declared.id.Id.{Id}
use Rattle.sd_names.specs.declared.kinds.Legality.TheVariants.{Legal, Illegal}
use Rattle.shared_disk.specs.Content.{File}
use Rattle.shared_disk.specs.Places.{id_is}
use Rattle.whole_file.specs.Text.{before_zero, bytes_of}
use Rattle.volume_meta.specs.Read.{read_volume}
use Rattle.volume_meta.specs.declared.record.VolumeRecord.{VolumeRecord}
use Rattle.chain_model.specs.Folder.{Volumes}

-- an image in its domain, whose version says how texts are read
pub record Image : Type 0 where
  pub domain : Id
  pub id : Id
  pub version : ℕ

-- the text in a file in which nothing is unsynced, up to the first zero byte or the file's end
abbrev pub stored_text : File → List ℕ
stored_text f = before_zero (bytes_of f.stable f.size)

-- an image's volumes are those whose text is there
abbrev pub is_volume : Volumes → Id → Bool
is_volume x v = is_some (x.text v)

-- what the text of a volume says, or what is wrong with it
abbrev pub text_of : Image → Volumes → Id → Option (Result VolumeRecord VolumeFault)
text_of i x v = option_map (λ f. read_volume i.version i.domain i.id (stored_text f)) (x.text v)

-- the record of each volume whose text can be read
abbrev pub Records : Type 0
Records = Id → Option VolumeRecord

abbrev pub record_in : Result VolumeRecord VolumeFault → Option VolumeRecord
record_in (Ok record_of_text) = Some record_of_text
record_in (Err fault) = None

abbrev pub records_of : Image → Volumes → Records
records_of i x v = option_and_then record_in (text_of i x v)

-- zeros stand for no parent
abbrev pub parent_in : VolumeRecord → Option Id
parent_in x = if id_is x.parent zero_id then None else Some x.parent

abbrev pub legal_in : VolumeRecord → Bool
legal_in x = elim x.legality [ Legal ↦ true | Illegal ↦ false ]

-- An ILLEGAL volume with MERGED that has a parent: what it held stands in the volume below, so that chains pass over it.
abbrev pub passed_in : VolumeRecord → Bool
passed_in x = not (legal_in x) && (x.merged && is_some (parent_in x))

abbrev pub holds_in : (VolumeRecord → Bool) → Option VolumeRecord → Bool
holds_in test None = false
holds_in test (Some x) = test x

-- the volume that a volume's text names as its parent
abbrev pub parent : Records → Id → Option Id
parent r v = option_and_then parent_in (r v)

abbrev pub is_legal : Records → Id → Bool
is_legal r v = holds_in legal_in (r v)

abbrev pub is_passed : Records → Id → Bool
is_passed r v = holds_in passed_in (r v)
