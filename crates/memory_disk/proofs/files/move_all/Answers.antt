use Rattle.std.proofs.Common.{Option, set, ap, ◌∙◌}
use Rattle.std.specs.Option.{option_map}
use Rattle.std.proofs.lemmas.List.Edits.{map_over_more}
use Rattle.memory_disk.specs.Files.{entry_moved}
use Rattle.memory_disk.specs.declared.entry.FileEntry.{FileEntry}
use Rattle.memory_disk.proofs.files.move_all.Goals as goal

pub loop-i-preserved : goal.loop-i-preserved
loop-i-preserved c =
    ap (λ (x : Option FileEntry). set c.loop-i.slots c.loop-i.i x) c.moved_slot.ensures
    ∙ map_over_more (option_map (entry_moved c.args.from c.args.to)) c.args.slots.now c.loop-i.slots c.loop-i.i c.index-slots-i.result c.loop-i-test.true c.loop-i.invariant c.index-slots-i.is
