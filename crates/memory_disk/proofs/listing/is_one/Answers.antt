use Rattle.shared_disk.proofs.Places.{dir_is-from}
use Rattle.memory_disk.proofs.listing.is_one.Goals as goal

pub returns : goal.returns
returns c = dir_is-from c.args.made.now c.args.dir c.is.result c.is.ensures
