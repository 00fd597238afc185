use Rattle.layer_laws.proofs.Frames.{refill}
use Rattle.layer_laws.proofs.Sound.{clean_of, shape_of, zero_at}
use Rattle.image_model.specs.File.{file_of}
use Rattle.layer_laws.proofs.laws.refill.Goals as goal

pub returns : goal.returns
returns c n capacity k p s s' h are is sound here some same =
    let at = zero_at h (file_of n s) capacity (shape_of (file_of n s) capacity h is) (clean_of (file_of n s) capacity h is sound) k p some here in
    refill n capacity p s s' h are is sound at.whole same k at.name here
