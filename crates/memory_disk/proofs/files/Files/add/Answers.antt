use Rattle.std.proofs.Common.{◌≡◌, Some, None, ap, sym, ◌∙◌, arith}
use Rattle.std.proofs.lemmas.Option.{same_Some}
use Rattle.memory_disk.specs.Store.{slot}
use Rattle.memory_disk.specs.declared.entry.FileEntry.{FileEntry}
use Rattle.memory_disk.proofs.Slots.{put_apart, found_none}
use Rattle.memory_disk.proofs.files.Files.add.Goals as goal

pub invariant_of-self-clause-counted : goal.invariant_of-self-clause-counted
invariant_of-self-clause-counted c =
    let none : slot c.free_number-number.result c.args.self.now.slots.items ≡ None = ap (slot c.free_number-number.result) (sym c.deref.ensures.value) ∙ c.free_number-number.ensures.free in
    omega (arith, c.put_slot.ensures.count none, c.args.self.now.counted)

pub invariant_of-self-clause-apart : goal.invariant_of-self-clause-apart
invariant_of-self-clause-apart c =
    put_apart c.free_number-number.result (Some c.args.entry) c.args.self.now.slots.items c.put_slot.new.slots.items c.put_slot.ensures.put c.args.self.now.apart
    (λ k x y is new at. absurd (found_none c.args.entry.place 0 c.args.self.now.slots.items c.requires.none k x is (at ∙ ap (λ (z : FileEntry). z.place) (sym (same_Some c.args.entry y new)))))
