-- The folders and files of a domain, told apart.
use Rattle.std.proofs.Common.{◌≡◌, ◌≢◌, ℕ, zero, suc, ◌<◌, Bool, true, false, refl, sym, ap, ◌∙◌, arith}
use Rattle.std.proofs.lemmas.Bool.{false≢true}
use Rattle.sd_names.specs.Place.{parent_of}
use Rattle.sd_names.specs.declared.id.Id.{Id}
use Rattle.sd_names.specs.declared.place.Dir.{Dir}
use Rattle.sd_names.specs.declared.place.Dir.TheVariants as dir
use Rattle.sd_names.specs.declared.place.Name.{Name}
use Rattle.sd_names.specs.declared.place.Name.TheVariants as name
use Rattle.sd_names.specs.declared.place.Place.{Place}
use Rattle.pool_making.specs.Layout.{area_name, area_place, folder_of, metadata_new_of, metadata_of}
use Rattle.pool_making.specs.Pool.{area_rank, folder_rank}
use Rattle.pool_making.specs.declared.layout.Area.{Area}
use Rattle.pool_making.specs.declared.layout.Area.TheVariants as area
use Rattle.pool_making.specs.declared.layout.Folder.{Folder}
use Rattle.pool_making.specs.declared.layout.Folder.TheVariants as folder

-- the folder and the file of a rank
abbrev folder_at : ℕ → Folder
folder_at zero = folder.Domain
folder_at (suc zero) = folder.DomMd
folder_at (suc (suc zero)) = folder.Images
folder_at (suc (suc (suc zero))) = folder.Master
folder_at (suc (suc (suc (suc n)))) = folder.Tasks

abbrev area_at : ℕ → Area
area_at zero = area.Leases
area_at (suc zero) = area.Inbox
area_at (suc (suc n)) = area.Outbox

at_rank : (f : Folder) → folder_at (folder_rank f) ≡ f
at_rank folder.Domain = refl
at_rank folder.DomMd = refl
at_rank folder.Images = refl
at_rank folder.Master = refl
at_rank folder.Tasks = refl

pub one_folder : (f g : Folder) → folder_rank f ≡ folder_rank g → f ≡ g
one_folder f g same = sym (at_rank f) ∙ ap folder_at same ∙ at_rank g

area_at_rank : (a : Area) → area_at (area_rank a) ≡ a
area_at_rank area.Leases = refl
area_at_rank area.Inbox = refl
area_at_rank area.Outbox = refl

pub one_area : (a b : Area) → area_rank a ≡ area_rank b → a ≡ b
one_area a b same = sym (area_at_rank a) ∙ ap area_at same ∙ area_at_rank b

-- no folder of an image is one of the five
abbrev is_images : Dir → Bool
is_images (dir.Images sd) = true
is_images _ = false

no_images : (sd : Id) (f : Folder) → is_images (parent_of (folder_of sd f)) ≡ false
no_images sd folder.Domain = refl
no_images sd folder.DomMd = refl
no_images sd folder.Images = refl
no_images sd folder.Master = refl
no_images sd folder.Tasks = refl

pub image_apart : (sd : Id) (f : Folder) (q : Dir) → parent_of q ≡ dir.Images sd → q ≢ folder_of sd f
image_apart sd f q inside same = false≢true (sym (no_images sd f) ∙ ap (λ (x : Dir). is_images (parent_of x)) (sym same) ∙ ap is_images inside)

-- a number for each name
abbrev number : Name → ℕ
number name.Leases = 0
number name.Inbox = 1
number name.Outbox = 2
number name.Metadata = 3
number name.MetadataNew = 4
number _ = 5

number_of : (a : Area) → number (area_name a) ≡ area_rank a
number_of area.Leases = refl
number_of area.Inbox = refl
number_of area.Outbox = refl

abbrev number_at : Place → ℕ
number_at p = number p.name

pub area_below : (a : Area) → area_rank a < 3
area_below area.Leases = omega arith
area_below area.Inbox = omega arith
area_below area.Outbox = omega arith

differs : (a b n m : ℕ) → a ≡ n → b ≡ m → n < m → a ≢ b
differs a b n m first second less same = below n m (sym first ∙ same ∙ second) less
  where
    below : (n m : ℕ) → n ≡ m → n < m → ⊥
    below n m same less = omega (arith, same, less)

pub areas_apart : (sd : Id) (a b : Area) → area_rank a < area_rank b → area_place sd a ≢ area_place sd b
areas_apart sd a b less same = differs (number_at (area_place sd a)) (number_at (area_place sd b)) (area_rank a) (area_rank b) (number_of a) (number_of b) less (ap number_at same)

pub area_not_text : (sd : Id) (a : Area) → area_place sd a ≢ metadata_of sd
area_not_text sd a same = differs (number_at (area_place sd a)) 3 (area_rank a) 3 (number_of a) refl (area_below a) (ap number_at same)

pub area_not_new : (sd : Id) (a : Area) → area_place sd a ≢ metadata_new_of sd
area_not_new sd a same = differs (number_at (area_place sd a)) 4 (area_rank a) 4 (number_of a) refl (more (area_rank a) (area_below a)) (ap number_at same)
  where
    more : (n : ℕ) → n < 3 → n < 4
    more n less = omega (arith, less)
