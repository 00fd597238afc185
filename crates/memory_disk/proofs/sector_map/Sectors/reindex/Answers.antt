use Rattle.std.proofs.Common.{List, subst, sym}
use Rattle.std.specs.HashMap.{get}
use Rattle.memory_disk.specs.Cells.{IsIndexed, key_eq}
use Rattle.memory_disk.specs.declared.cell.Cell.{Cell}
use Rattle.memory_disk.proofs.Cells.{one_cell, same_index}
use Rattle.memory_disk.proofs.sector_map.Sectors.reindex.Goals as goal

pub name_cells-requires-clause-apart : goal.name_cells-requires-clause-apart
name_cells-requires-clause-apart c = λ i j a b e.
    one_cell c.deref.result.now (get key_eq c.args.self.now.index) i j (subst (λ (cells : List Cell). IsIndexed cells (get key_eq c.args.self.now.index)) (sym c.deref.ensures.value) c.args.self.now.indexed) a b e

pub invariant_of-self-clause-indexed : goal.invariant_of-self-clause-indexed
invariant_of-self-clause-indexed c = subst (λ (cells : List Cell). IsIndexed cells (get key_eq c.name_cells.new.index)) c.deref.ensures.value c.name_cells.ensures.indexed

pub returns-clause-at : goal.returns-clause-at
returns-clause-at c = λ o f k.
    same_index c.args.self.now.cells.items (get key_eq c.name_cells.new.index) (get key_eq c.args.self.now.index) (o, f, k)
    (subst (λ (cells : List Cell). IsIndexed cells (get key_eq c.name_cells.new.index)) c.deref.ensures.value c.name_cells.ensures.indexed) c.args.self.now.indexed
