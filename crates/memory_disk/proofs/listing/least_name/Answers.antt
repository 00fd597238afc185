use Rattle.std.proofs.Common.{◌≡◌, ◌+◌, ◌++◌, ◌∷◌, [], Option, List, take, sym, ap, subst, ◌∙◌, take_all, arith}
use Rattle.std.proofs.lemmas.List.{take_more}
use Rattle.memory_disk.specs.Listing.{IsLeastName}
use Rattle.memory_disk.specs.declared.entry.FileEntry.{FileEntry}
use Rattle.memory_disk.proofs.listing.least_name.Goals as goal

pub loop-slot-preserved : goal.loop-slot-preserved
loop-slot-preserved c =
    let more : take (c.loop-slot.slot-index + 1) c.args.slots.now ≡ take c.loop-slot.slot-index c.args.slots.now ++ c.slot-item.result ∷ [] =
    take_more c.args.slots.now c.loop-slot.slot-index c.slot-item.result c.loop-slot-test.true ∙ ap (λ (s : Option FileEntry). take c.loop-slot.slot-index c.args.slots.now ++ s ∷ []) (sym c.slot-item.is) in
    subst (λ (ss : List (Option FileEntry)). IsLeastName ss c.args.dir c.args.after c.with_file-least.result) (sym more) (c.with_file-least.ensures (take c.loop-slot.slot-index c.args.slots.now) c.loop-slot.invariant)

pub returns : goal.returns
returns c =
    subst (λ (ss : List (Option FileEntry)). IsLeastName ss c.args.dir c.args.after c.loop-slot.least) (take_all c.loop-slot.slot-index c.args.slots.now (omega arith)) c.loop-slot.invariant
