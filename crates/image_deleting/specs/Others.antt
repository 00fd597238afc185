-- What others leave alone while an image is deleted.
use Rattle.std.specs.Prelude.{◌≡◌, ◌⊎◌}
use Rattle.sd_names.specs.declared.place.Dir.TheVariants.{Tasks}
use Rattle.sd_names.specs.declared.place.Place.{Place}
use Rattle.shared_disk.specs.Content.{Content}
use Rattle.lease_area.specs.Hold.{leases_of}
use Rattle.image_creating.specs.Sectors.{KeepsLeases}
use Rattle.image_deleting.specs.Knowing.{HasIds}
use Rattle.image_deleting.specs.RemovalTask.{domain_of, master_of, new_place_of, own_folder, place_of, removed_folder}
use Rattle.image_deleting.specs.Steps.{IsUntouched}
use Rattle.image_deleting.specs.declared.deleting.Stage.{Stage}
use Rattle.image_deleting.specs.declared.deleting.Stage.TheVariants.{Scanning, Taking}
use Rattle.image_deleting.specs.declared.removal_task.RemovalTask.{RemovalTask}

-- a file that a deletion knows of
abbrev pub IsOwnPlace : RemovalTask → Place → Type 0
IsOwnPlace t q =
    (q ≡ place_of t) ⊎ ((q ≡ new_place_of t) ⊎ ((q ≡ leases_of (domain_of t)) ⊎ ((q.dir ≡ own_folder t) ⊎ (q.dir ≡ removed_folder t))))

pub record IsKeptByOthers (t : RemovalTask) (d e : Content) : Type 0 where
  pub tasks : e.dir (Tasks (master_of t)) ≡ d.dir (Tasks (master_of t))
  pub place : e.file (place_of t) ≡ d.file (place_of t)
  pub new_place : e.file (new_place_of t) ≡ d.file (new_place_of t)
  pub leases : KeepsLeases (domain_of t) d e
  pub ids : HasIds t d → HasIds t e

-- before the image's sector is held others may work in its folders
abbrev pub IsImageKept : Stage → RemovalTask → Content → Content → Type 0
IsImageKept (Scanning s) t d e = Unit {0}
IsImageKept (Taking slot found) t d e = Unit {0}
IsImageKept _ t d e = IsUntouched t d e
