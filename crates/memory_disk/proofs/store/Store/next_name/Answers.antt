use Rattle.std.proofs.Common.{List, Option, subst, refl}
use Rattle.memory_disk.specs.Listing.{IsLeastName}
use Rattle.memory_disk.specs.declared.entry.FileEntry.{FileEntry}
use Rattle.memory_disk.proofs.Folders.{answers_name}
use Rattle.memory_disk.proofs.Listed.{is_next_name}
use Rattle.memory_disk.proofs.store.Store.next_name.Goals as goal

pub returns-clause-call : goal.returns-clause-call
returns-clause-call c =
    let least = subst (λ (ss : List (Option FileEntry)). IsLeastName ss c.args.dir c.args.after c.least_name.result) c.deref-2.ensures.value c.least_name.ensures in
    (refl, cc, is_next_name c.args.self.now.dirs.items c.args.self.now.files.slots.items c.args.self.now.stable c.args.self.now.log.items c.args.dir c.args.after c.least_name.result c.args.self.now.files.apart least)

pub returns-clause-above : goal.returns-clause-above
returns-clause-above c = answers_name c.deref-2.result.now c.args.dir c.args.after c.least_name.result c.least_name.ensures
