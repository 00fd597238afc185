-- What others leave alone while an image is created.
use Rattle.std.specs.Prelude.{◌≡◌, ◌⊎◌}
use Rattle.sd_names.specs.declared.place.Dir.TheVariants.{Images, Tasks}
use Rattle.sd_names.specs.declared.place.Place.{Place}
use Rattle.shared_disk.specs.Content.{Content}
use Rattle.lease_area.specs.Hold.{leases_of}
use Rattle.image_making.specs.NewImage.{folder_of}
use Rattle.image_making.specs.declared.making.NewImage.{NewImage}
use Rattle.image_creating.specs.ImageTask.{domain_of, master_of, new_place_of, place_of}
use Rattle.image_creating.specs.Sectors.{KeepsLeases}
use Rattle.image_creating.specs.declared.image_task.ImageTask.{ImageTask}

-- a file that a creation knows of
abbrev pub IsOwnPlace : ImageTask → NewImage → Place → Type 0
IsOwnPlace t x q = (q ≡ place_of t) ⊎ ((q ≡ new_place_of t) ⊎ ((q ≡ leases_of (domain_of t)) ⊎ (q.dir ≡ folder_of x)))

pub record IsKeptByOthers (t : ImageTask) (x : NewImage) (d e : Content) : Type 0 where
  pub tasks : e.dir (Tasks (master_of t)) ≡ d.dir (Tasks (master_of t))
  pub images : e.dir (Images x.says.domain) ≡ d.dir (Images x.says.domain)
  pub folder : e.dir (folder_of x) ≡ d.dir (folder_of x)
  pub place : e.file (place_of t) ≡ d.file (place_of t)
  pub new_place : e.file (new_place_of t) ≡ d.file (new_place_of t)
  pub files : (q : Place) → q.dir ≡ folder_of x → e.file q ≡ d.file q
  pub leases : KeepsLeases (domain_of t) d e
