use Rattle.std.proofs.Common.{◌≡◌, true}
use Rattle.shared_disk.specs.Places.{dir_is}
use Rattle.shared_disk.proofs.Places.{dir_is-decides}
use Rattle.memory_disk.proofs.Slots.{entry_is}
use Rattle.memory_disk.proofs.files.moved_entry.Goals as goal

pub returns : goal.returns
returns c =
    let t : dir_is c.args.file.place.dir c.args.from ≡ true = (dir_is-decides c.args.file.place.dir c.args.from).1 (c.is.ensures.0 c.if-not-is.false) in
    rw t (entry_is _ _ _ _ _)
