use Rattle.std.proofs.Common.{◌≡◌, refl, Some}
use Rattle.memory_disk.specs.Store.{found}
use Rattle.memory_disk.proofs.Contents.{file_at}
use Rattle.memory_disk.proofs.store.Store.length.Goals as goal

pub returns-in-Some-clause-call : goal.returns-in-Some-clause-call
returns-in-Some-clause-call c =
    let at : found c.args.place 0 c.args.self.now.files.slots.items ≡ Some (c.in-Some.field-0-0, c.in-Some.file) = cc in
    (refl, _, file_at c.args.self.now.dirs.items c.args.self.now.files.slots.items c.args.self.now.stable c.args.self.now.log.items c.args.place at, refl)
