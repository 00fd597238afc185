-- Records whose texts read as themselves, and the texts that files have.
use Rattle.std.specs.Prelude.{◌≡◌, ℕ, Some, Ok}
use Rattle.sd_names.specs.declared.place.Place.{Place}
use Rattle.shared_disk.specs.Content.{Content, File}
use Rattle.shared_disk.specs.Crash.{IsSettled}
use Rattle.chain_model.specs.Records.{stored_text}
use Rattle.volume_meta.specs.Read.{read_volume}
use Rattle.volume_meta.specs.Valid.{IsValid}
use Rattle.volume_meta.specs.declared.record.VolumeRecord.{VolumeRecord}
use Rattle.whole_file.specs.Text.{HasNoZero}

-- A valid record without zero bytes, at the first of which a text ends.
pub record IsLegible (r : VolumeRecord) : Type 0 where
  pub valid : IsValid r
  pub description : HasNoZero r.description
  pub disk_type : HasNoZero r.disk_type

-- nothing in the file is unsynced, and its text reads as this record
pub record IsTextOf (version : ℕ) (r : VolumeRecord) (f : File) : Type 0 where
  pub settled : IsSettled f
  pub says : read_volume version r.domain r.image (stored_text f) ≡ Ok r

-- so it is of the file at a place
abbrev pub HasRecord : ℕ → Place → VolumeRecord → Content → Type 0
HasRecord version place r d = (f : File) × (d.file place ≡ Some f) × IsTextOf version r f
