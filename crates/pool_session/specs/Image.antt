-- What the disk holds for the one image of the session: its folder and those of its domain, and the volume's file.
use Rattle.std.specs.Prelude.{◌≡◌, ◌≢◌, ◌⊎◌, ℕ, ◌+◌, ◌-◌, ◌*◌, ◌/◌, ◌≤◌, List, [], ◌∷◌, length, Some, None, nat_le, nat_lt, ◌&&◌, if◌then◌else◌}
use Rattle.sd_names.specs.declared.place.Dir.TheVariants.{Root, Image as ImageDir}
use Rattle.sd_names.specs.declared.place.Name.TheVariants.{Volume}
use Rattle.sd_names.specs.declared.place.Place.{Place}
use Rattle.shared_disk.specs.Calls.{created}
use Rattle.shared_disk.specs.Content.{Content, File, sector_of, seen}
use Rattle.pool_session.specs.Folders.{HasFolders, HasSome, folders_of, with_made}
use Rattle.pool_session.specs.declared.image.Image.{Image}

-- the file of an image's volume
abbrev pub file_of : Image → Place
file_of image = record { dir = ImageDir image.sd image.image; name = Volume image.volume }

-- its folder, those of its domain and Root are there and no others, and no file but its volume's
pub record IsAlone (image : Image) (d : Content) : Type 0 where
  pub folders : HasFolders (ImageDir image.sd image.image ∷ with_made (Root ∷ []) (folders_of image.sd)) d
  pub others : (q : Place) → q ≢ file_of image → d.file q ≡ None

-- the image's file of zeros was made by a host and not synced, and there is nothing else
pub record HoldsNew (host : ℕ) (image : Image) (d : Content) : Type 0 where
  pub there : d.file (file_of image) ≡ Some (created host (image.capacity / 512))
  pub alone : IsAlone image d

-- the domain's folders are there, the image's folder or not, and with it the file that a host has made, and nothing else
abbrev pub HasPartOfImage : ℕ → Image → Content → Type 0
HasPartOfImage host image d = HasSome (with_made (Root ∷ []) (folders_of image.sd)) (ImageDir image.sd image.image ∷ []) d ⊎ HoldsNew host image d

-- the image's file is all on the medium, as a sync leaves it, and holds these sectors, and there is nothing else
pub record HoldsFlat (image : Image) (flat : ℕ → List ℕ) (d : Content) : Type 0 where
  pub file : File
  pub there : d.file (file_of image) ≡ Some file
  pub size : 512 * file.size ≡ image.capacity
  pub synced : file.loose ≡ []
  pub settled : file.fresh ≡ None
  pub sectors : (k : ℕ) → file.stable k ≡ flat k
  pub alone : IsAlone image d

-- the image's file, which was synced since it was made, reads as these sectors to host 1, and there is nothing else
pub record SeenFlat (image : Image) (flat : ℕ → List ℕ) (d : Content) : Type 0 where
  pub file : File
  pub there : d.file (file_of image) ≡ Some file
  pub size : 512 * file.size ≡ image.capacity
  pub settled : file.fresh ≡ None
  pub sectors : (k : ℕ) → seen 1 file k ≡ flat k
  pub alone : IsAlone image d

-- sectors with some bytes laid over them, from a sector on
abbrev pub laid : ℕ → List ℕ → (ℕ → List ℕ) → ℕ → List ℕ
laid at bytes flat k = if nat_le at k && nat_lt k (at + length bytes / 512) then sector_of bytes (k - at) else flat k

-- each sector is old or as the bytes laid over would make it
abbrev pub Mixed : ℕ → List ℕ → (ℕ → List ℕ) → (ℕ → List ℕ) → Type 0
Mixed at bytes old new = (k : ℕ) → (new k ≡ old k) ⊎ (new k ≡ laid at bytes old k)

-- these bytes are the sectors from this one on
abbrev pub ReadsFlat : ℕ → (ℕ → List ℕ) → List ℕ → Type 0
ReadsFlat at flat bytes = (k : ℕ) → 512 * (k + 1) ≤ length bytes → sector_of bytes k ≡ flat (at + k)
