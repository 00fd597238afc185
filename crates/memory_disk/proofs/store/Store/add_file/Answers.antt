use Rattle.std.proofs.Common.{None, refl}
use Rattle.memory_disk.proofs.Contents.{is_created}
use Rattle.memory_disk.proofs.Slots.{found_at, put_here}
use Rattle.memory_disk.proofs.Within.{add_wider, free_stable, log_wider, none_loose, put_housed, stable_wider}
use Rattle.memory_disk.proofs.store.Store.add_file.Goals as goal

pub invariant_of-self-clause-stable_within : goal.invariant_of-self-clause-stable_within
invariant_of-self-clause-stable_within c =
    stable_wider c.args.self.now.files.slots.items c.add.new.self.slots.items c.args.self.now.stable
    (add_wider c.add.result _ c.args.self.now.files.slots.items c.add.new.self.slots.items c.add.ensures.put c.add.ensures.free) c.args.self.now.stable_within

pub invariant_of-self-clause-log_within : goal.invariant_of-self-clause-log_within
invariant_of-self-clause-log_within c =
    log_wider c.args.self.now.files.slots.items c.add.new.self.slots.items c.args.self.now.log.items
    (add_wider c.add.result _ c.args.self.now.files.slots.items c.add.new.self.slots.items c.add.ensures.put c.add.ensures.free) c.args.self.now.log_within

pub invariant_of-self-clause-housed : goal.invariant_of-self-clause-housed
invariant_of-self-clause-housed c =
    put_housed c.args.self.now.dirs.items c.add.result _ c.args.self.now.files.slots.items c.add.new.self.slots.items c.add.ensures.put c.requires.folder c.args.self.now.housed

pub returns-clause-put : goal.returns-clause-put
returns-clause-put c =
    is_created c.args.self.now.dirs.items c.args.self.now.dirs.items c.args.self.now.files.slots.items c.add.new.self.slots.items c.args.self.now.stable c.args.self.now.stable c.args.self.now.log.items c.args.self.now.log.items c.add.result None _
    refl refl refl c.add.new.self.apart c.add.ensures.free c.add.ensures.put
    (free_stable c.add.result c.args.self.now.files.slots.items c.args.self.now.stable c.args.self.now.stable_within c.add.ensures.free)
    (none_loose c.add.result c.args.self.now.files.slots.items c.args.self.now.log.items c.args.self.now.log_within c.add.ensures.free) refl c.requires.free

pub returns-clause-found : goal.returns-clause-found
returns-clause-found c = (
  _,
  found_at c.args.place c.add.new.self.slots.items c.add.result _ c.add.new.self.apart (put_here c.add.result _ c.args.self.now.files.slots.items c.add.new.self.slots.items c.add.ensures.put) refl,
  refl,
  refl,
)

pub returns-clause-none : goal.returns-clause-none
returns-clause-none c = none_loose c.add.result c.args.self.now.files.slots.items c.args.self.now.log.items c.args.self.now.log_within c.add.ensures.free
