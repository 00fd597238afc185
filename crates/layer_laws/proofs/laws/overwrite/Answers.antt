use Rattle.layer_laws.proofs.Frames.{overwrite}
use Rattle.layer_laws.proofs.Sound.{clean_of, data_at, shape_of}
use Rattle.image_model.specs.File.{file_of}
use Rattle.layer_laws.proofs.laws.overwrite.Goals as goal

pub returns : goal.returns
returns c n capacity k p s s' h are is sound here same =
    let at = data_at h (file_of n s) capacity (shape_of (file_of n s) capacity h is) (clean_of (file_of n s) capacity h is sound) k p here in
    overwrite n capacity p s s' h are is sound at.whole same k at.name here
