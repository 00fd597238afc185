-- Making an image: which one, and how far it is.
use Rattle.std.specs.Prelude.{◌≡◌, ℕ, ◌+◌, List, length, None}
use Rattle.sd_names.specs.declared.kinds.Format.{Format}
use Rattle.sd_names.specs.declared.kinds.Format.TheVariants.{Raw, Cow}
use Rattle.layer_creating.specs.Creating.{IsBegun as IsLayerBegun, creating_left}
use Rattle.layer_creating.specs.declared.creating.Creating.{Creating}
use Rattle.whole_file.specs.Replace.{length_of, replace_left, stage_of as replace_stage, target_of, volatile_of}
use Rattle.whole_file.specs.declared.replace.Replace.{Replace}
use Rattle.whole_file.specs.declared.replace.Stage.TheVariants as replacing
use Rattle.image_making.specs.NewImage.{layer_length, text_in, text_place, volatile_place, volume_place}
use Rattle.image_making.specs.declared.making.ImageMaking.{ImageMaking}
use Rattle.image_making.specs.declared.making.NewImage.{NewImage}
use Rattle.image_making.specs.declared.making.Stage.{Stage}
use Rattle.image_making.specs.declared.making.Stage.TheVariants.{Begun, Filling, Syncing, Layering, Writing}

abbrev pub image_of : ImageMaking → NewImage
image_of m = m.image

abbrev pub stage_of : ImageMaking → Stage
stage_of m = m.stage

abbrev pub text_of : ImageMaking → List ℕ
text_of m = text_in m.image

-- a making of this image
abbrev pub IsOf : NewImage → ImageMaking → Type 0
IsOf x next = image_of next ≡ x

-- the same making in another stage
pub record IsAt (m : ImageMaking) (now : Stage) (next : ImageMaking) : Type 0 where
  pub same : IsOf (image_of m) next
  pub now_in : stage_of next ≡ now

-- once the folder is there, a raw volume's file is made at once, and a layer's by its own making
abbrev pub IsFileStage : Format → ImageMaking → Stage → Type 0
IsFileStage Raw m next = next ≡ Filling
IsFileStage Cow m next =
    (c : Creating) × (next ≡ Layering c) × IsLayerBegun c (volume_place (image_of m)) (image_of m).says.capacity None layer_length

abbrev pub IsBehindFolder : ImageMaking → ImageMaking → Type 0
IsBehindFolder m next = IsOf (image_of m) next × IsFileStage (image_of m).says.format m (stage_of next)

-- the replacement that gives the volume its text has begun
pub record IsTextBegun (m : ImageMaking) (r : Replace) : Type 0 where
  pub target : target_of r ≡ text_place (image_of m)
  pub volatile : volatile_of r ≡ volatile_place (image_of m)
  pub length : length (text_of m) ≡ length_of r
  pub stage : replace_stage r ≡ replacing.Begun

-- once the volume's file is on the medium, its text is written
abbrev pub IsBehindFile : ImageMaking → ImageMaking → Type 0
IsBehindFile m next = IsOf (image_of m) next × ((r : Replace) × (stage_of next ≡ Writing r) × IsTextBegun m r)

-- How many more steps a making takes at the most: a layer's file takes six, and its text five.
abbrev pub left_of : Stage → ℕ
left_of Begun = 12
left_of Filling = 7
left_of Syncing = 6
left_of (Layering c) = creating_left c + 5
left_of (Writing r) = replace_left r

abbrev pub making_left : ImageMaking → ℕ
making_left m = left_of (stage_of m)
