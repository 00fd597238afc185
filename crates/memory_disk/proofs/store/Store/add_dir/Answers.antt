use Rattle.memory_disk.proofs.Contents.{is_dir_made}
use Rattle.memory_disk.proofs.store.Store.add_dir.Goals as goal

pub returns-then-not-is_dir-clause-put : goal.returns-then-not-is_dir-clause-put
returns-then-not-is_dir-clause-put c =
    is_dir_made c.args.self.now.dirs.items c.push_reserved.new.self.items c.args.self.now.files.slots.items c.args.self.now.stable c.args.self.now.log.items c.args.dir c.push_reserved.ensures.items
