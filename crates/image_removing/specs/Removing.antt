-- Removing an image's files: which image, and how far it is.
use Rattle.std.specs.Prelude.{◌≡◌, Option, Some, None}
use Rattle.sd_names.specs.declared.id.Id.{Id}
use Rattle.sd_names.specs.declared.place.Dir.{Dir}
use Rattle.sd_names.specs.declared.place.Dir.TheVariants as dir
use Rattle.sd_names.specs.declared.place.Name.{Name}
use Rattle.sd_names.specs.declared.place.Place.{Place}
use Rattle.sd_names.specs.declared.turn.Turn.{Turn}
use Rattle.sd_names.specs.declared.turn.Turn.TheVariants.{More, Done}
use Rattle.shared_disk.specs.NameCalls.{place_in}
use Rattle.image_removing.specs.declared.removing.ImageRemoving.{ImageRemoving}
use Rattle.image_removing.specs.declared.removing.Pass.{Pass}
use Rattle.image_removing.specs.declared.removing.Pass.TheVariants.{Earlier, Moved}
use Rattle.image_removing.specs.declared.removing.Stage.{Stage}
use Rattle.image_removing.specs.declared.removing.Stage.TheVariants.{Listing, Removing, Ending, Moving}

abbrev pub RemovalTurn : Type 0
RemovalTurn = Turn ImageRemoving (Unit {0}) (Unit {0})

-- the image's folder under its own name, and under the removed one
abbrev pub own_folder : ImageRemoving → Dir
own_folder r = dir.Image r.sd r.image

abbrev pub removed_folder : ImageRemoving → Dir
removed_folder r = dir.Removed r.sd r.image

abbrev pub own_place : ImageRemoving → Name → Place
own_place r n = place_in (own_folder r) n

abbrev pub removed_place : ImageRemoving → Name → Place
removed_place r n = place_in (removed_folder r) n

abbrev pub stage_of : ImageRemoving → Stage
stage_of r = r.stage

abbrev pub at_stage : ImageRemoving → Stage → ImageRemoving
at_stage r s = record r { stage = s }

-- what is done once the removed folder is gone
abbrev pub IsBehind : ImageRemoving → Pass → RemovalTurn → Type 0
IsBehind r Earlier turn = turn ≡ More (at_stage r Moving)
IsBehind r Moved turn = turn ≡ Done tt

-- a name that was listed is removed; behind the last one the folder is
abbrev pub met_stage : Pass → Option Name → Stage
met_stage pass None = Ending pass
met_stage pass (Some n) = Removing pass n

-- a removal of an image that was begun
pub record IsBegun (sd image : Id) (r : ImageRemoving) : Type 0 where
  pub domain : r.sd ≡ sd
  pub image_is : r.image ≡ image
  pub stage : stage_of r ≡ Listing Earlier None
