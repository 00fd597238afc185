use Rattle.std.proofs.Common.{◌≡◌, ℕ, Some, if◌then◌else◌, subst, arith}
use Rattle.std.specs.HashMap.{get}
use Rattle.memory_disk.specs.Cells.{key_eq}
use Rattle.memory_disk.proofs.Cells.{named_more}
use Rattle.memory_disk.proofs.sector_map.name_cells.Goals as goal

pub loop-i-preserved : goal.loop-i-preserved
loop-i-preserved c =
    let names = subst (λ (key : ℕ × ℕ × ℕ). (q : ℕ × ℕ × ℕ) → get key_eq c.name_cell.new.index q ≡ (if key_eq key q then Some c.loop-i.i else get key_eq c.loop-i.index q)) c.key_at.ensures c.name_cell.ensures.names in
    record {
      indexed = named_more c.args.cells.now (get key_eq c.loop-i.index) (get key_eq c.name_cell.new.index) c.loop-i.i c.requires.apart c.loop-i-test.true names c.loop-i.invariant.indexed;
      len = omega (arith, c.name_cell.ensures.len, c.loop-i.invariant.len);
      room = omega (arith, c.name_cell.ensures.room, c.loop-i.invariant.room);
    }
