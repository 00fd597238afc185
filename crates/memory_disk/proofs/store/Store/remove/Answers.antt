use Rattle.std.proofs.Common.{◌≡◌, Some, ap}
use Rattle.memory_disk.specs.Store.{found, file_of}
use Rattle.memory_disk.proofs.Contents.{file_at}
use Rattle.memory_disk.proofs.Renamed.{is_removed}
use Rattle.memory_disk.proofs.store.Store.remove.Goals as goal

pub returns-in-Some-clause-call : goal.returns-in-Some-clause-call
returns-in-Some-clause-call c =
    let at : found c.args.place 0 c.args.self.now.files.slots.items ≡ Some c.in-Some.field-0 = cc in (
      file_of c.args.self.now.stable c.args.self.now.log.items c.in-Some.field-0.0 c.in-Some.field-0.1,
      file_at c.args.self.now.dirs.items c.args.self.now.files.slots.items c.args.self.now.stable c.args.self.now.log.items c.args.place at,
      is_removed c.args.self.now.dirs.items c.clear_place.new.self.dirs.items c.args.self.now.files.slots.items c.clear_place.new.self.files.slots.items c.args.self.now.stable c.clear_place.new.self.stable
          c.args.self.now.log.items c.clear_place.new.self.log.items c.args.place (ap (λ v. v.items) c.clear_place.ensures.dirs) c.clear_place.new.self.files.apart c.clear_place.ensures.cleared,
    )
