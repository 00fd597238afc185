use Rattle.std.proofs.Common.{not, ap, sym, ◌∙◌}
use Rattle.memory_disk.specs.declared.entry.Write.{Write}
use Rattle.memory_disk.specs.Store.{is_at}
use Rattle.memory_disk.proofs.Within.{filter_fewer}
use Rattle.memory_disk.proofs.log.is_waiting.Goals as goal

pub returns-then-is_at_sector : goal.returns-then-is_at_sector
returns-then-is_at_sector c = λ _.
    filter_fewer (λ (w : Write). not (is_at c.args.number c.args.sector w)) c.args.log.now c.loop-write.write-index c.write-item.result c.loop-write-test.true c.write-item.is
    (ap not (sym c.is_at_sector.ensures ∙ c.if-is_at_sector.true))
