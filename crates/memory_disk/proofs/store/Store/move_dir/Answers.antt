use Rattle.std.proofs.Common.{◌≡◌, true, false, length, map, ap, ◌∙◌}
use Rattle.std.specs.Vec.{with_items}
use Rattle.std.proofs.lemmas.List.{length-map, with_items_is}
use Rattle.memory_disk.specs.Listing.{dir_moved}
use Rattle.memory_disk.specs.Store.{has_dir}
use Rattle.memory_disk.proofs.Folders.{is_dir_moved, moved_housed, moved_wider, none_housed, not_root}
use Rattle.memory_disk.proofs.Within.{log_wider, stable_wider}
use Rattle.memory_disk.proofs.store.Store.move_dir.Goals as goal

pub move_dir-requires : goal.move_dir-requires
move_dir-requires c =
    let free : has_dir c.args.self.now.dirs.items c.args.to ≡ false = cc in
    record { none = none_housed c.args.self.now.dirs.items c.args.self.now.files.slots.items c.args.to free c.args.self.now.housed }

pub invariant_of-self-clause-stable_within : goal.invariant_of-self-clause-stable_within
invariant_of-self-clause-stable_within c =
    stable_wider c.args.self.now.files.slots.items c.move_dir.new.self.slots.items c.args.self.now.stable
    (moved_wider c.args.from c.args.to c.args.self.now.files.slots.items c.move_dir.new.self.slots.items c.move_dir.ensures.slots) c.args.self.now.stable_within

pub invariant_of-self-clause-log_within : goal.invariant_of-self-clause-log_within
invariant_of-self-clause-log_within c =
    log_wider c.args.self.now.files.slots.items c.move_dir.new.self.slots.items c.args.self.now.log.items
    (moved_wider c.args.from c.args.to c.args.self.now.files.slots.items c.move_dir.new.self.slots.items c.move_dir.ensures.slots) c.args.self.now.log_within

pub invariant_of-self-clause-housed : goal.invariant_of-self-clause-housed
invariant_of-self-clause-housed c =
    let folders : (with_items c.args.self.now.dirs c.move_one.new.dirs).items ≡ map (dir_moved c.args.from c.args.to) c.args.self.now.dirs.items =
    with_items_is c.args.self.now.dirs c.move_one.new.dirs (ap length c.move_one.ensures ∙ length-map c.deref_mut.result.now _ ∙ c.deref_mut.ensures.len) ∙ c.move_one.ensures ∙ ap (map (dir_moved c.args.from c.args.to)) c.deref_mut.ensures.value in
    let there : has_dir c.args.self.now.dirs.items c.args.from ≡ true = cc in
    let free : has_dir c.args.self.now.dirs.items c.args.to ≡ false = cc in
    moved_housed c.args.self.now.dirs.items _ c.args.self.now.files.slots.items c.move_dir.new.self.slots.items c.args.from c.args.to (not_root c.args.from c.args.to c.requires.images).0 folders c.move_dir.ensures.slots there free c.args.self.now.housed

pub returns-clause-call : goal.returns-clause-call
returns-clause-call c =
    let folders : (with_items c.args.self.now.dirs c.move_one.new.dirs).items ≡ map (dir_moved c.args.from c.args.to) c.args.self.now.dirs.items =
    with_items_is c.args.self.now.dirs c.move_one.new.dirs (ap length c.move_one.ensures ∙ length-map c.deref_mut.result.now _ ∙ c.deref_mut.ensures.len) ∙ c.move_one.ensures ∙ ap (map (dir_moved c.args.from c.args.to)) c.deref_mut.ensures.value in
    let there : has_dir c.args.self.now.dirs.items c.args.from ≡ true = cc in
    let free : has_dir c.args.self.now.dirs.items c.args.to ≡ false = cc in
    let names = not_root c.args.from c.args.to c.requires.images in
    is_dir_moved c.args.self.now.dirs.items _ c.args.self.now.files.slots.items c.move_dir.new.self.slots.items c.args.self.now.stable c.args.self.now.log.items c.args.from c.args.to names.0 names.1 c.requires.other folders c.move_dir.ensures.slots
    c.move_dir.new.self.apart there free c.args.self.now.housed
