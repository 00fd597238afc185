-- What an image was as its settling began, and what stays of it.
use Rattle.std.specs.Prelude.{◌≡◌, ◌≢◌, ℕ, ◌*◌, ◌≤◌, List, length, slice_get, Some, None}
use Rattle.sd_names.specs.declared.id.Id.{Id}
use Rattle.sd_names.specs.declared.place.Dir.{Dir}
use Rattle.sd_names.specs.declared.place.Name.TheVariants as name
use Rattle.sd_names.specs.declared.place.Place.{Place}
use Rattle.shared_disk.specs.Content.{Content, File}
use Rattle.shared_disk.specs.Crash.{IsAlso, IsSettled}
use Rattle.shared_disk.specs.NameCalls.{place_in}
use Rattle.qcow_layer.specs.Opening.{volume_kept}
use Rattle.qcow_layer.specs.declared.layer.Layer.{Layer}
use Rattle.chain_model.specs.Folder.{Volumes}
use Rattle.chain_model.specs.Growth.{IsLonger}
use Rattle.chain_model.specs.Records.{Image, Records}
use Rattle.chain_records.specs.Checks.{FirstIs, record_checks}
use Rattle.chain_records.specs.Paths.{IsReadingPath}
use Rattle.chain_records.specs.Records.{files_of, ids_of, records_in}
use Rattle.chain_records.specs.Shown.{IsShown}
use Rattle.chain_records.specs.declared.volume.Volume.{Volume}
use Rattle.volume_chain.specs.Chain.{IsOpenAs, dir_in, image_in, open_in, path_in, records_kept, target_of}
use Rattle.volume_chain.specs.declared.chain.Chain.{Chain}
use Rattle.volume_chain.specs.declared.volumes.OpenVolume.{OpenVolume}
use Rattle.volume_chain.specs.declared.volumes.OpenVolume.TheVariants.{Cow, Raw}
use Rattle.chain_settling.specs.Work.{IsLayerAt}

-- the file of a volume, and that of its text
abbrev pub file_in : Dir → Id → Place
file_in dir v = place_in dir (name.Volume v)

abbrev pub text_in : Dir → Id → Place
text_in dir v = place_in dir (name.Meta v)

abbrev pub folder_in : Chain → Dir
folder_in c = dir_in (target_of c)

abbrev pub image_kept : Chain → Image
image_kept c = image_in (target_of c)

-- a raw volume's file was as long as it is kept, or longer
abbrev pub WasLong : Volumes → Id → OpenVolume → Type 0
WasLong x v (Raw bytes) = (f : File) × (x.file v ≡ Some f) × (bytes ≤ 512 * f.size)
WasLong x v (Cow layer) = Unit {0}

-- The image as its settling began: its texts said a list of records, of which no check refused; the chain has the same volumes,
-- its path is that of the reading volume, and each volume of it is open as its record said.
pub record WasOpen (c : Chain) (r : Records) (x : Volumes) : Type 0 where
  pub first : List Volume
  pub shown : IsShown (image_kept c) x first
  pub records : r ≡ records_in first
  pub ids : ids_of (records_kept c) ≡ ids_of first
  pub files : files_of (records_kept c) ≡ files_of first
  pub checked : FirstIs (records_in first) (record_checks (ids_of first)) None
  pub reading : IsReadingPath r (path_in c)
  pub all : length (open_in c) ≡ length (path_in c)
  pub each : (b : ℕ) (v : Id) (o : OpenVolume) → slice_get (path_in c) b ≡ Some v → slice_get (open_in c) b ≡ Some o → IsOpenAs (target_of c) v (r v) o × WasLong x v o

-- no layer of the path is of this volume
abbrev pub IsOffLayers : Chain → Id → Type 0
IsOffLayers c v = (b : ℕ) (l : Layer) → IsLayerAt c b l → volume_kept l ≢ v

-- the files of such volumes have nothing unsynced, and are as they were, or got longer
pub record IsLeftAlone (f g : File) : Type 0 where
  pub settled : IsSettled g
  pub longer : IsLonger f g

abbrev pub AreLeftAlone : Chain → Volumes → Content → Type 0
AreLeftAlone c x d = (v : Id) → IsOffLayers c v → IsAlso IsLeftAlone (x.file v) (d.file (file_in (folder_in c) v))
