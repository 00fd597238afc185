use Rattle.std.proofs.Common.{◌≡◌, Some, None, is_some, ap, sym, ◌∙◌}
use Rattle.memory_disk.specs.Store.{found}
use Rattle.memory_disk.proofs.Removed.{cleared, cleared_none}
use Rattle.memory_disk.proofs.Slots.{found_slot}
use Rattle.memory_disk.proofs.store.Store.clear_place.Goals as goal

pub drop_file-requires : goal.drop_file-requires
drop_file-requires c =
    let at : found c.args.place 0 c.args.self.now.files.slots.items ≡ Some (c.in-Some.number, c.in-Some.field-0-1) = cc in
    ap is_some (found_slot c.args.place c.args.self.now.files.slots.items c.in-Some.number c.in-Some.field-0-1 at).0

pub returns-in-Some-clause-cleared : goal.returns-in-Some-clause-cleared
returns-in-Some-clause-cleared c =
    let at : found c.args.place 0 c.args.self.now.files.slots.items ≡ Some (c.in-Some.number, c.in-Some.field-0-1) = cc in
    cleared c.args.place c.in-Some.number c.in-Some.field-0-1 c.args.self.now.files.slots.items c.drop_file.new.self.files.slots.items c.args.self.now.stable c.drop_file.new.self.stable c.args.self.now.log.items c.drop_file.new.self.log.items
    c.args.self.now.files.apart at c.drop_file.ensures.slots c.drop_file.ensures.stable c.drop_file.ensures.loose

pub returns-in_default-clause-cleared : goal.returns-in_default-clause-cleared
returns-in_default-clause-cleared c =
    let none : found c.args.place 0 c.args.self.now.files.slots.items ≡ None = sym c.find.ensures ∙ c.in_default.is in
    cleared_none c.args.place c.args.self.now.files.slots.items c.args.self.now.stable c.args.self.now.log.items none
