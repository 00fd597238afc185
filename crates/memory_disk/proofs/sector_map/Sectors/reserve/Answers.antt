use Rattle.std.proofs.Common.{arith}
use Rattle.std.specs.HashMap.{get}
use Rattle.memory_disk.specs.Cells.{key_eq}
use Rattle.memory_disk.proofs.Cells.{indexed_same}
use Rattle.memory_disk.proofs.sector_map.Sectors.reserve.Goals as goal

pub invariant_of-self : goal.invariant_of-self
invariant_of-self c = record {
  cells_room = omega (arith, c.reserve_cells.ensures.cells_no_less, c.args.self.now.cells_room);
  index_room = omega (arith, c.reserve_cells.ensures.index_no_less, c.args.self.now.index_room);
  indexed = indexed_same c.args.self.now.cells.items c.reserve_cells.new.cells.items (get key_eq c.args.self.now.index) (get key_eq c.reserve_cells.new.index) c.args.self.now.indexed c.reserve_cells.ensures.cells c.reserve_cells.ensures.names;
}

pub invariant_of-self-2-clause-indexed : goal.invariant_of-self-2-clause-indexed
invariant_of-self-2-clause-indexed c = indexed_same c.args.self.now.cells.items c.reserve_cells.new.cells.items (get key_eq c.args.self.now.index) (get key_eq c.reserve_cells.new.index) c.args.self.now.indexed c.reserve_cells.ensures.cells c.reserve_cells.ensures.names
