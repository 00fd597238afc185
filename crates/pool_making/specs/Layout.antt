-- The folders and files of a new domain.
use Rattle.std.specs.Prelude.{◌≡◌, ◌⊎◌, ℕ, [], Option, Some, None}
use Rattle.sd_names.specs.declared.id.Id.{Id}
use Rattle.sd_names.specs.declared.place.Dir.{Dir}
use Rattle.sd_names.specs.declared.place.Dir.TheVariants as dir
use Rattle.sd_names.specs.declared.place.Name.{Name}
use Rattle.sd_names.specs.declared.place.Name.TheVariants as name
use Rattle.sd_names.specs.declared.place.Place.{Place}
use Rattle.shared_disk.specs.Content.{File, zero_sector}
use Rattle.shared_disk.specs.NameCalls.{place_in}
use Rattle.pool_making.specs.declared.layout.Area.{Area}
use Rattle.pool_making.specs.declared.layout.Area.TheVariants as area
use Rattle.pool_making.specs.declared.layout.Folder.{Folder}
use Rattle.pool_making.specs.declared.layout.Folder.TheVariants as folder

-- a domain's text, and the file that becomes it
abbrev pub metadata_of : Id → Place
metadata_of sd = place_in (dir.DomMd sd) name.Metadata

abbrev pub metadata_new_of : Id → Place
metadata_new_of sd = place_in (dir.DomMd sd) name.MetadataNew

-- a folder of a domain, and the one that is made after it
abbrev pub folder_of : Id → Folder → Dir
folder_of sd folder.Domain = dir.Domain sd
folder_of sd folder.DomMd = dir.DomMd sd
folder_of sd folder.Images = dir.Images sd
folder_of sd folder.Master = dir.Master sd
folder_of sd folder.Tasks = dir.Tasks sd

abbrev pub folder_after : Folder → Option Folder
folder_after folder.Domain = Some folder.DomMd
folder_after folder.DomMd = Some folder.Images
folder_after folder.Images = Some folder.Master
folder_after folder.Master = Some folder.Tasks
folder_after folder.Tasks = None

-- a file of zeros: its name, how many sectors it has, and the one that is made after it
abbrev pub area_name : Area → Name
area_name area.Leases = name.Leases
area_name area.Inbox = name.Inbox
area_name area.Outbox = name.Outbox

abbrev pub area_place : Id → Area → Place
area_place sd a = place_in (dir.DomMd sd) (area_name a)

abbrev pub area_size : Area → ℕ
area_size area.Leases = 1024
area_size area.Inbox = 2008
area_size area.Outbox = 2008

abbrev pub area_after : Area → Option Area
area_after area.Leases = Some area.Inbox
area_after area.Inbox = Some area.Outbox
area_after area.Outbox = None

-- a file of so many sectors of zeros, on the medium
abbrev pub zeros : ℕ → File
zeros size = record { size = size; stable = λ _. zero_sector; loose = []; fresh = None }

-- a file of a new domain
abbrev pub IsOwn : Id → Place → Type 0
IsOwn sd q =
    (q ≡ area_place sd area.Leases)
    ⊎ ((q ≡ area_place sd area.Inbox) ⊎ ((q ≡ area_place sd area.Outbox) ⊎ ((q ≡ metadata_of sd) ⊎ (q ≡ metadata_new_of sd))))

-- a folder of a new domain
abbrev pub IsOwnDir : Id → Dir → Type 0
IsOwnDir sd q = (f : Folder) × (q ≡ folder_of sd f)
