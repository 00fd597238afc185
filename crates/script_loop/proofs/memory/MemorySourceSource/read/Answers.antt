use Rattle.std.proofs.Common.{◌≡◌, ◌+◌, drop, refl}
use Rattle.script_loop.specs.Memory.{source_left}
use Rattle.script_loop.proofs.StreamLemmas.{moved_front, none_at_end}
use Rattle.script_loop.proofs.memory.MemorySourceSource.read.Goals as goal

pub returns-clause-moved : goal.returns-clause-moved
returns-clause-moved c before tells =
    let is : source_left c.args.self.now ≡ before = cc in
    let items = c.args.self.now.bytes.items in
    let at = c.args.self.now.at in (
      drop (at + c.copy_front-count.result) items,
      refl,
      (
        moved_front items c.deref-2.result.now c.copy_front-count.new.into before at c.copy_front-count.result c.deref-2.ensures.value is c.copy_front-count.ensures.front,
        λ zero some. none_at_end items c.deref-2.result.now before at c.deref-2.ensures.value is (c.copy_front-count.ensures.end zero some),
      ),
    )
