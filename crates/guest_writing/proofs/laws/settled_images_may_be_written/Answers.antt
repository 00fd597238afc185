use Rattle.guest_writing.proofs.Known.{may_be_written}
use Rattle.guest_writing.proofs.laws.settled_images_may_be_written.Goals as goal

pub returns : goal.returns
returns c = may_be_written
