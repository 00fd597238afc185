-- What stays of an image that could be opened while it is settled, so that it can be opened again.
use Rattle.std.specs.Prelude.{◌≡◌, ◌⊎◌, List, Contains, Option, Some, None}
use Rattle.sd_names.specs.declared.id.Id.{Id}
use Rattle.sd_names.specs.declared.kinds.Format.TheVariants.{Cow}
use Rattle.sd_names.specs.declared.place.Dir.{Dir}
use Rattle.shared_disk.specs.Content.{Content, File}
use Rattle.shared_disk.specs.Crash.{IsAlso, OnEach}
use Rattle.image_model.specs.File.{file_of}
use Rattle.image_model.specs.Soundness.{IsSound}
use Rattle.volume_meta.specs.declared.record.VolumeRecord.{VolumeRecord}
use Rattle.chain_gathering.specs.Knowing.{volumes_in}
use Rattle.chain_model.specs.Folder.{Volumes}
use Rattle.chain_model.specs.Headers.{backing_by_record}
use Rattle.chain_model.specs.Records.{Image, Records, parent, records_of}
use Rattle.chain_records.specs.Paths.{IsReadingPath}
use Rattle.chain_records.specs.Settling.{IsOver}
use Rattle.chain_settling.specs.Was.{file_in}

-- a second file of a volume is a sound layer where the first one is
abbrev pub StaysSound : Option VolumeRecord → File → File → Type 0
StaysSound None f g = Unit {0}
StaysSound (Some y) f g = y.format ≡ Cow → IsSound (file_of f.size f.stable) y.capacity → IsSound (file_of g.size g.stable) y.capacity

-- the volume that the header of a file names, by the record of its volume
abbrev pub named_in : Option VolumeRecord → File → Option Id
named_in o f = backing_by_record o (Some f)

-- A volume's text names this parent and its header what a second file says. Both are as they were, or the header names the
-- parent that counts. So a text is rewritten only once the header is.
abbrev pub NamesAlike : Records → Id → Option Id → File → File → Type 0
NamesAlike r v text f g =
    ((text ≡ parent r v) × (named_in (r v) g ≡ named_in (r v) f)) ⊎ ((up : Id) × IsOver r v up × (named_in (r v) g ≡ Some up))

-- Of an image with these records and files, whatever crashes leave: a layer that was sound is sound, and the text and the
-- header of each volume on the path of the reading volume name what they did, or the header names the parent that counts.
pub record OpensAlike (i : Image) (dir : Dir) (r : Records) (x : Volumes) (d : Content) : Type 0 where
  pub sound : (v : Id) → IsAlso (λ f g. OnEach g (StaysSound (r v) f)) (x.file v) (d.file (file_in dir v))
  pub names : (path : List Id) (v : Id) → IsReadingPath r path → Contains path v
      → IsAlso (λ f g. OnEach g (NamesAlike r v (parent (records_of i (volumes_in dir d)) v) f)) (x.file v) (d.file (file_in dir v))
