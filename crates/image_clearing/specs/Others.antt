-- What others leave alone while an image is cleared away.
use Rattle.std.specs.Prelude.{◌≡◌, ◌⊎◌, ℕ, Some}
use Rattle.sd_names.specs.declared.id.Id.{Id}
use Rattle.sd_names.specs.declared.place.Dir.TheVariants as dir
use Rattle.sd_names.specs.declared.place.Place.{Place}
use Rattle.shared_disk.specs.Content.{Content, File}
use Rattle.shared_disk.specs.Crash.{IsSettled}
use Rattle.lease_area.specs.Hold.{leases_of}
use Rattle.lease_area.specs.Record.{IsImageSlot}
use Rattle.lease_area.specs.Sector.{sector_in}
use Rattle.lease_area.specs.declared.sector.Kind.TheVariants.{Task}
use Rattle.lease_area.specs.declared.sector.LeaseRecord.{LeaseRecord}
use Rattle.lease_area.specs.declared.sector.Sector.TheVariants.{Lease}
use Rattle.image_creating.specs.Sectors.{Names}

-- a file in one of the image's two folders
abbrev pub IsImageFile : Id → Id → Place → Type 0
IsImageFile sd image q = (q.dir ≡ dir.Image sd image) ⊎ (q.dir ≡ dir.Removed sd image)

-- Of the sectors of images those that name this one afterwards named it before, and where it is held for a task its sector is as
-- it was.
pub record KeepsImage (image : Id) (f g : File) : Type 0 where
  pub size : g.size ≡ f.size
  pub settled : IsSettled f → IsSettled g
  pub named : (k : ℕ) → IsImageSlot k → Names image (g.stable k) → Names image (f.stable k)
  pub held : (k : ℕ) (r : LeaseRecord) → IsImageSlot k → sector_in (f.stable k) ≡ Some (Lease r) → r.image ≡ image → r.kind ≡ Task → g.stable k ≡ f.stable k

-- The image's folders stay there or not, and no file joins; what stands in the files doesn't count.
pub record IsKeptByOthers (sd image : Id) (d e : Content) : Type 0 where
  pub own : e.dir (dir.Image sd image) ≡ d.dir (dir.Image sd image)
  pub removed : e.dir (dir.Removed sd image) ≡ d.dir (dir.Removed sd image)
  pub files : (q : Place) (f : File) → IsImageFile sd image q → e.file q ≡ Some f → (g : File) × (d.file q ≡ Some g)
  pub leases : (f : File) → d.file (leases_of sd) ≡ Some f → (g : File) × (e.file (leases_of sd) ≡ Some g) × KeepsImage image f g
