use Rattle.std.proofs.Common.{List, subst, refl}
use Rattle.sd_names.specs.declared.place.Dir.{Dir}
use Rattle.memory_disk.specs.Listing.{IsLeastDir}
use Rattle.memory_disk.proofs.Folders.{answers_dir}
use Rattle.memory_disk.proofs.Listed.{is_next_dir}
use Rattle.memory_disk.proofs.store.Store.next_dir.Goals as goal

pub returns-clause-call : goal.returns-clause-call
returns-clause-call c =
    let least = subst (λ (ds : List Dir). IsLeastDir ds c.args.dir c.args.after c.least_dir.result) c.deref-2.ensures.value c.least_dir.ensures in
    (refl, cc, is_next_dir c.args.self.now.dirs.items c.args.self.now.files.slots.items c.args.self.now.stable c.args.self.now.log.items c.args.dir c.args.after c.least_dir.result least)

pub returns-clause-above : goal.returns-clause-above
returns-clause-above c = answers_dir c.deref-2.result.now c.args.dir c.args.after c.least_dir.result c.least_dir.ensures
