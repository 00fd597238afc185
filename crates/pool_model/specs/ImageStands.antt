-- What the files of an image's folder mean, and when they mean an image of the pool: on every outcome of crashes at once.
-- Claim: of each image that is named and that no open task makes or removes, after every call of the disk and any crash there.
use Rattle.std.specs.Prelude.{◌≡◌, ◌≢◌, ℕ, ◌*◌, List, Option, Some, None, Result, Ok, Err, unwrap_or}
use Rattle.std.specs.Option.{option_map}
use Rattle.sd_names.specs.Id.{zero_id}
use Rattle.sd_names.specs.declared.fault.LayerFault.{LayerFault}
use Rattle.sd_names.specs.declared.fault.VolumeFault.{VolumeFault}
use Rattle.sd_names.specs.declared.id.Id.{Id}
use Rattle.sd_names.specs.declared.kinds.Format.{Format}
use Rattle.sd_names.specs.declared.kinds.Format.TheVariants.{Raw, Cow}
use Rattle.sd_names.specs.declared.kinds.VolType.TheVariants.{Leaf}
use Rattle.sd_names.specs.declared.refusal.Refusal.{Refusal}
use Rattle.shared_disk.specs.Content.{File, zero_sector}
use Rattle.qcow_format.specs.declared.header.Header.{Header}
use Rattle.volume_meta.specs.declared.record.VolumeRecord.{VolumeRecord}
use Rattle.image_model.specs.File.{file_of}
use Rattle.image_model.specs.Room.{Room, room_of}
use Rattle.chain_model.specs.Flat.{IsFlat, flat}
use Rattle.chain_model.specs.Folder.{Folder, OnEachFolder, Volumes, volumes_of}
use Rattle.chain_model.specs.Headers.{IsBacked, flat_by_headers}
use Rattle.chain_model.specs.Opening.{IsOpenable, OpenFault}
use Rattle.chain_model.specs.Own.{header_in}
use Rattle.chain_model.specs.Records.{Image as ImageIn, Records, records_of, text_of}
use Rattle.chain_model.specs.Up.{IsUp}
use Rattle.pool_model.specs.Pool.{Image, Torn, Volume}
use Rattle.pool_model.specs.Reading.{IsMixed, MayHaveRoom}

-- ---- a volume, in a folder in which nothing is unsynced

-- a volume's record with the parent that counts, zeros where there is none, and LEAF whatever its text says
abbrev pub settled_record : Option Id → VolumeRecord → VolumeRecord
settled_record up y = record y { parent = unwrap_or up zero_id; voltype = Leaf }

-- what the volume's text says is this
abbrev pub SaysAs : Records → Id → Option (Result VolumeRecord VolumeFault) → Result VolumeRecord VolumeFault → Type 0
SaysAs r v (Some (Ok y)) says = (up : Option Id) × IsUp r v up × (says ≡ Ok (settled_record up y))
SaysAs r v (Some (Err fault)) says = says ≡ Err fault
SaysAs r v None says = ⊥

abbrev pub room_by_header : File → Result Header LayerFault → Option Room
room_by_header f (Ok h) = Some (room_of (record { header = h; file = file_of f.size f.stable }))
room_by_header f (Err fault) = None

-- the room of a layer whose header can be read; a raw file has none but its length
abbrev pub room_by_format : Format → VolumeRecord → File → Option Room
room_by_format Raw y f = None
room_by_format Cow y f = room_by_header f (header_in y f)

abbrev pub room_at : Option VolumeRecord → Option File → Option Room
room_at None file = None
room_at (Some y) None = None
room_at (Some y) (Some f) = room_by_format y.format y f

-- the room that a write gives the volume's file, where one runs or was cut
abbrev pub torn_room : Option Torn → Id → Option Room
torn_room None v = None
torn_room (Some t) v = t.room v

pub record IsVolume (i : ImageIn) (x : Volumes) (m : Image) (v : Id) (w : Volume) : Type 0 where
  pub says : SaysAs (records_of i x) v (text_of i x v) w.says
  pub length : w.length ≡ option_map (λ (f : File). 512 * f.size) (x.file v)
  pub room : MayHaveRoom (torn_room m.torn v) w.room (room_at (records_of i x v) (x.file v))

-- a volume is there exactly where its text is
abbrev pub VolumeAt : ImageIn → Volumes → Image → Id → Option Volume → Type 0
VolumeAt i x m v None = x.text v ≡ None
VolumeAt i x m v (Some w) = IsVolume i x m v w

-- ---- what it reads as

-- the pool's flat lists, of volumes that it has
abbrev pub flat_in : Option Volume → ℕ → List ℕ
flat_in None k = zero_sector
flat_in (Some w) k = w.flat k

abbrev pub flats_in : Image → Id → ℕ → List ℕ
flats_in m v = flat_in (m.volume v)

-- the flat list of the reading volume: the pool's, or mixed where a write runs or was cut
abbrev pub MayRead : Option Torn → (ℕ → List ℕ) → (ℕ → List ℕ) → Type 0
MayRead None old is = is ≡ old
MayRead (Some t) old is = IsMixed t old is

-- The image can be opened. Each of its LEGAL volumes reads as the pool says, the reading volume v also where a write is mixed
-- in; and the names in the headers tell the same list of it.
pub record ReadsWhole (i : ImageIn) (x : Volumes) (m : Image) : Type 0 where
  pub reading : Id
  pub below : List Id
  pub opens : IsOpenable i x reading below
  pub flats : Id → ℕ → List ℕ
  pub here : MayRead m.torn (flats_in m reading) (flats reading)
  pub others : (u : Id) → u ≢ reading → flats u ≡ flats_in m u
  pub read : IsFlat (records_of i x) flats x
  pub backed : List Id
  pub by_headers : IsBacked (records_of i x) x reading backed
  pub alike : (k : ℕ) → flat_by_headers (records_of i x) x reading backed k ≡ flat (records_of i x) x reading below k

-- it can be opened and reads so, or is refused with this
abbrev pub OpensAs : ImageIn → Volumes → Image → Option Refusal → Type 0
OpensAs i x m None = ReadsWhole i x m
OpensAs i x m (Some e) = OpenFault i x e

-- the files mean the image
pub record IsImage (i : ImageIn) (x : Volumes) (m : Image) : Type 0 where
  pub volumes : (v : Id) → VolumeAt i x m v (m.volume v)
  pub opens : OpensAs i x m m.fault

-- The files of a folder mean the image on every outcome.
abbrev pub FolderMeans : ImageIn → Image → Folder → Type 0
FolderMeans i m F = OnEachFolder F (λ G. IsImage i (volumes_of G) m)
