-- The image of which a part is written, while one file of it has unsynced writes.
use Rattle.std.specs.Prelude.{◌≡◌, ◌≢◌, ℕ, ◌+◌, ◌≤◌, Contains, Some}
use Rattle.sd_names.specs.declared.id.Id.{Id}
use Rattle.sd_names.specs.declared.place.Dir.{Dir}
use Rattle.sd_names.specs.declared.place.Name.TheVariants as name
use Rattle.sd_names.specs.declared.place.Place.{Place}
use Rattle.shared_disk.specs.Calls.{sectors_in}
use Rattle.shared_disk.specs.Content.{Content, File}
use Rattle.shared_disk.specs.Crash.{IsSettled}
use Rattle.volume_meta.specs.declared.record.VolumeRecord.{VolumeRecord}
use Rattle.chain_model.specs.Folder.{OnEachFolder, folder_of, volumes_of}
use Rattle.chain_model.specs.Own.{sectors_of}
use Rattle.chain_gathering.specs.Knowing.{AreSettled, IsThere}
use Rattle.chain_gathering.specs.Names.{name_of}
use Rattle.chain_gathering.specs.declared.names.VolumeName.{VolumeName}
use Rattle.chain_laws.specs.Laid.{Laying}
use Rattle.chain_laws.specs.Written.{HoldsPart}
use Rattle.chain_records.specs.Records.{records_in}
use Rattle.volume_chain.specs.Chain.{dir_in, path_in, records_kept, target_of}
use Rattle.volume_chain.specs.Knowing.{KnowsChain}
use Rattle.volume_chain.specs.declared.chain.Chain.{Chain}

-- the part is laid over a volume of the chain's path, within its capacity
pub record IsPartOf (l : Laying) (c : Chain) (x : VolumeRecord) : Type 0 where
  pub records : l.records ≡ records_in (records_kept c)
  pub says : l.records l.volume ≡ Some x
  pub path : Contains (path_in c) l.volume
  pub within : l.part.at + sectors_in l.part.bytes ≤ sectors_of x

-- nothing is unsynced in the image's files but in that of one volume
abbrev pub AreSettledBut : Dir → Id → Content → Type 0
AreSettledBut dir v d = (o : VolumeName) (f : File) → name_of o ≢ name.Volume v → IsThere dir o d f → IsSettled f

-- no folder is changed, and no file but that at this place
pub record OnlyChanges (place : Place) (d e : Content) : Type 0 where
  pub dirs : (q : Dir) → e.dir q ≡ d.dir q
  pub files : (q : Place) → q ≢ place → e.file q ≡ d.file q

-- The part is on the medium: the chain knows the image, nothing in it is unsynced, and the volume holds the part on each
-- outcome.
pub record IsOnMedium (c : Chain) (l : Laying) (host : ℕ) (d : Content) : Type 0 where
  pub chain : KnowsChain c host d
  pub settled : AreSettled (dir_in (target_of c)) d
  pub holds : OnEachFolder (folder_of (dir_in (target_of c)) d) (λ O. HoldsPart l (volumes_of O))
