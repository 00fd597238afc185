use Rattle.std.proofs.Common.{◌≡◌, Some, true, false, is_some, refl}
use Rattle.memory_disk.specs.Store.{found, has_dir}
use Rattle.memory_disk.proofs.Contents.{is_created, some_of, none_of, none_at}
use Rattle.memory_disk.proofs.Within.{add_wider, free_stable, log_wider, none_loose, put_housed, stable_wider}
use Rattle.memory_disk.proofs.store.Store.create.Goals as goal

pub returns-then-is_some-clause-call : goal.returns-then-is_some-clause-call
returns-then-is_some-clause-call c =
    let there : is_some (found c.args.place 0 c.args.self.now.files.slots.items) ≡ true = cc in
    let at = some_of _ (found c.args.place 0 c.args.self.now.files.slots.items) there in
    (refl, cc, at.0, at.1)

pub add-requires-clause-none : goal.add-requires-clause-none
add-requires-clause-none c =
    let free : is_some (found c.args.place 0 c.args.self.now.files.slots.items) ≡ false = cc in
    none_of (found c.args.place 0 c.args.self.now.files.slots.items) free

pub invariant_of-self-clause-stable_within : goal.invariant_of-self-clause-stable_within
invariant_of-self-clause-stable_within c =
    stable_wider c.args.self.now.files.slots.items c.add.new.self.slots.items c.args.self.now.stable
    (add_wider c.add.result _ c.args.self.now.files.slots.items c.add.new.self.slots.items c.add.ensures.put c.add.ensures.free) c.args.self.now.stable_within

pub invariant_of-self-clause-log_within : goal.invariant_of-self-clause-log_within
invariant_of-self-clause-log_within c =
    log_wider c.args.self.now.files.slots.items c.add.new.self.slots.items c.args.self.now.log.items
    (add_wider c.add.result _ c.args.self.now.files.slots.items c.add.new.self.slots.items c.add.ensures.put c.add.ensures.free) c.args.self.now.log_within

pub invariant_of-self-clause-housed : goal.invariant_of-self-clause-housed
invariant_of-self-clause-housed c =
    let there : has_dir c.args.self.now.dirs.items c.args.place.dir ≡ true = cc in
    put_housed c.args.self.now.dirs.items c.add.result _ c.args.self.now.files.slots.items c.add.new.self.slots.items c.add.ensures.put there c.args.self.now.housed

pub returns-clause-call : goal.returns-clause-call
returns-clause-call c =
    let free : is_some (found c.args.place 0 c.args.self.now.files.slots.items) ≡ false = cc in
    let none = none_of (found c.args.place 0 c.args.self.now.files.slots.items) free in
    record {
      folder = cc;
      free = none_at _ (found c.args.place 0 c.args.self.now.files.slots.items) none;
      put = is_created c.args.self.now.dirs.items c.args.self.now.dirs.items c.args.self.now.files.slots.items c.add.new.self.slots.items c.args.self.now.stable c.args.self.now.stable c.args.self.now.log.items c.args.self.now.log.items c.add.result (Some c.args.host) _
          refl refl refl c.add.new.self.apart c.add.ensures.free c.add.ensures.put
          (free_stable c.add.result c.args.self.now.files.slots.items c.args.self.now.stable c.args.self.now.stable_within c.add.ensures.free)
          (none_loose c.add.result c.args.self.now.files.slots.items c.args.self.now.log.items c.args.self.now.log_within c.add.ensures.free) refl none;
    }
