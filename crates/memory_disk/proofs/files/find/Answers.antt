use Rattle.std.proofs.lemmas.Bool.{false≢true}
use Rattle.std.proofs.Common.{◌≡◌, Option, Some, None, get_or, sym, ap, ◌∙◌}
use Rattle.memory_disk.specs.declared.entry.FileEntry.{FileEntry}
use Rattle.memory_disk.proofs.Slots.{found_here, found_past, found_free}
use Rattle.memory_disk.proofs.files.find.Goals as goal
use Rattle.memory_disk.proofs.files.find.Goals.{in-Some+else-is, in_default}

pub returns-then-is : goal.returns-then-is
returns-then-is c =
    let at : Some c.in-Some.file ≡ get_or c.args.slots.now c.loop-i.i (Some c.in-Some.file) = sym c.in-Some.is ∙ c.index-slots-i.is ∙ ap (λ (x : Option FileEntry). get_or c.args.slots.now c.loop-i.i x) c.in-Some.is in
    sym (c.loop-i.invariant ∙ found_here c.args.place c.loop-i.i c.args.slots.now c.in-Some.file c.loop-i-test.true at (c.is.ensures.0 c.if-is.true))

pub loop-i-preserved : goal.loop-i-preserved
loop-i-preserved c =
    elim c.match-slot.branch [
      | in-Some+else-is w ↦ (
          let at : Some w.in-Some.file ≡ get_or c.args.slots.now c.loop-i.i (Some w.in-Some.file) = sym w.in-Some.is ∙ c.index-slots-i.is ∙ ap (λ (x : Option FileEntry). get_or c.args.slots.now c.loop-i.i x) w.in-Some.is in
          c.loop-i.invariant ∙ found_past c.args.place c.loop-i.i c.args.slots.now w.in-Some.file c.loop-i-test.true at (λ e. false≢true (w.if-is.ensures.1 e)))
      | in_default w ↦ (
          let none : c.index-slots-i.result ≡ None = w.in_default.is in
          c.loop-i.invariant ∙ found_free c.args.place c.loop-i.i c.args.slots.now c.loop-i-test.true (sym none ∙ c.index-slots-i.is ∙ ap (λ (x : Option FileEntry). get_or c.args.slots.now c.loop-i.i x) none))
    ]
