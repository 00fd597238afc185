use Rattle.memory_disk.proofs.Contents.{is_dir_made}
use Rattle.memory_disk.proofs.store.Store.make_dir.Goals as goal

pub returns-clause-call : goal.returns-clause-call
returns-clause-call c = record {
  above = cc;
  free = cc;
  put = is_dir_made c.args.self.now.dirs.items c.push_reserved.new.self.items c.args.self.now.files.slots.items c.args.self.now.stable c.args.self.now.log.items c.args.dir c.push_reserved.ensures.items;
}
