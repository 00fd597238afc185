-- A new image of one volume: its folder and files, and when they are there whole.
use Rattle.std.specs.Prelude.{◌≡◌, ◌≢◌, ◌⊎◌, ℕ, ◌/◌, true, List, Some, None}
use Rattle.sd_names.specs.declared.kinds.Format.{Format}
use Rattle.sd_names.specs.declared.kinds.Format.TheVariants.{Raw, Cow}
use Rattle.sd_names.specs.declared.place.Dir.{Dir}
use Rattle.sd_names.specs.declared.place.Dir.TheVariants as dir
use Rattle.sd_names.specs.declared.place.Name.{Name}
use Rattle.sd_names.specs.declared.place.Name.TheVariants as name
use Rattle.sd_names.specs.declared.place.Place.{Place}
use Rattle.shared_disk.specs.Content.{Content, File, zero_sector}
use Rattle.shared_disk.specs.Crash.{IsOutcome, IsSettled}
use Rattle.shared_disk.specs.NameCalls.{place_in}
use Rattle.layer_creating.specs.New.{IsNewLayer}
use Rattle.volume_meta.specs.Text.{volume_text}
use Rattle.whole_file.specs.Text.{HasText}
use Rattle.image_making.specs.declared.making.NewImage.{NewImage}

-- ---- the folder and the files of an image

abbrev pub folder_of : NewImage → Dir
folder_of x = dir.Image x.says.domain x.says.image

-- the volume's file, its text, and the file that becomes the text
abbrev pub volume_place : NewImage → Place
volume_place x = place_in (folder_of x) (name.Volume x.volume)

abbrev pub text_place : NewImage → Place
text_place x = place_in (folder_of x) (name.Meta x.volume)

abbrev pub volatile_place : NewImage → Place
volatile_place x = place_in (folder_of x) (name.MetaVolatile x.volume)

-- the text that the volume gets
abbrev pub text_in : NewImage → List ℕ
text_in x = volume_text x.version x.says

-- ---- the image, whole

-- a raw file that reads as zeros, with nothing unsynced
pub record IsZeros (size : ℕ) (f : File) : Type 0 where
  pub size_is : f.size ≡ size
  pub sectors : (k : ℕ) → f.stable k ≡ zero_sector
  pub settled : IsSettled f

-- the length of a new layer's file, in bytes
abbrev pub layer_length : ℕ
layer_length = 1_310_720

-- A new volume's file: a raw one's zeros of the capacity's length, or a layer that holds nothing and lies over none.
abbrev pub IsNewFile : Format → ℕ → File → Type 0
IsNewFile Raw capacity f = IsZeros (capacity / 512) f
IsNewFile Cow capacity f = IsNewLayer capacity None layer_length f

abbrev pub HasNewFile : NewImage → Content → Type 0
HasNewFile x d = (f : File) × (d.file (volume_place x) ≡ Some f) × IsNewFile x.says.format x.says.capacity f

-- The image is there: its folder has the volume's file and its text, both on the medium, and no other file.
pub record IsImage (x : NewImage) (d : Content) : Type 0 where
  pub folder : d.dir (folder_of x) ≡ true
  pub file : HasNewFile x d
  pub text : HasText d (text_place x) (text_in x)
  pub only : (n : Name) → n ≢ name.Volume x.volume → n ≢ name.Meta x.volume → d.file (place_in (folder_of x) n) ≡ None

-- the volume doesn't count, as it has no text, or the image is there whole
abbrev pub IsNoneOrWhole : NewImage → Content → Type 0
IsNoneOrWhole x d = (d.file (text_place x) ≡ None) ⊎ IsImage x d

-- so now, and whatever crashes leave
pub record IsNoneOrWholeOnEach (x : NewImage) (d : Content) : Type 0 where
  pub now : IsNoneOrWhole x d
  pub outcomes : (o : Content) → IsOutcome d o → IsNoneOrWhole x o
