-- What is left of what a disk held, whatever that was, when an image is made or written.
use Rattle.std.specs.Prelude.{◌≡◌, ◌⊎◌, ℕ, ◌/◌, true, false, List, Some, None, Ok}
use Rattle.sd_names.specs.declared.place.Dir.{Dir}
use Rattle.sd_names.specs.declared.place.Dir.TheVariants.{Image as ImageDir}
use Rattle.sd_names.specs.declared.place.Place.{Place}
use Rattle.sd_names.specs.declared.refusal.Refusal.{Refusal}
use Rattle.sd_names.specs.declared.refusal.Refusal.TheVariants.{DiskFault}
use Rattle.shared_disk.specs.Content.{Content}
use Rattle.sd_names.specs.Place.{parent_of}
use Rattle.shared_disk.specs.Calls.{IsDirMade, IsPut, IsSame, PartWritten, Syncs, WriteAt, created, synced}
use Rattle.pool_session.specs.Image.{file_of}
use Rattle.pool_session.specs.declared.image.Image.{Image}

-- A folder is refused: the one above isn't there or it is there, and nothing has changed; or the disk has failed, and made it or
-- not.
abbrev pub DirRefused : Dir → Refusal → Content → Content → Type 0
DirRefused dir refusal d e = (IsSame d e × ((d.dir (parent_of dir) ≡ false) ⊎ (d.dir dir ≡ true)))
    ⊎ ((faults : ℕ) × (refusal ≡ DiskFault faults) × (IsSame d e ⊎ IsDirMade d dir e))

-- the bytes were written from the sector `at` on, and then the file was synced
pub record Written (host : ℕ) (place : Place) (at : ℕ) (bytes : List ℕ) (d e : Content) : Type 0 where
  pub between : Content
  pub wrote : WriteAt d host place at bytes (Ok tt) between
  pub synced : Syncs between host place (Ok tt) e

-- some sectors of the bytes were written and nothing else
abbrev pub PartlyWritten : ℕ → Place → ℕ → List ℕ → Content → Content → Type 0
PartlyWritten host place at bytes d e = PartWritten d host place at bytes e

-- a file of zeros of so many sectors was made where none was, and synced
pub record FileMade (host : ℕ) (place : Place) (size : ℕ) (d e : Content) : Type 0 where
  pub free : d.file place ≡ None
  pub put : IsPut d place (Some (synced host (created host size))) e

-- nothing has changed, or the file of zeros was made where none was, and isn't synced
abbrev pub FilePartlyMade : ℕ → Place → ℕ → Content → Content → Type 0
FilePartlyMade host place size d e = IsSame d e ⊎ ((d.file place ≡ None) × IsPut d place (Some (created host size)) e)

-- the image's folder was made where none was, and in it the file of its volume
pub record ImageMade (host : ℕ) (image : Image) (d e : Content) : Type 0 where
  pub between : Content
  pub folder : IsDirMade d (ImageDir image.sd image.image) between
  pub file : FileMade host (file_of image) (image.capacity / 512) between e

-- the image's folder was made where none was, and in it the file of its volume, which isn't synced, or nothing
abbrev pub ImagePartlyMade : ℕ → Image → Content → Content → Type 0
ImagePartlyMade host image d e =
    (between : Content) × IsDirMade d (ImageDir image.sd image.image) between × FilePartlyMade host (file_of image) (image.capacity / 512) between e
