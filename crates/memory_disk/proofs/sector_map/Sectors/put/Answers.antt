use Rattle.std.proofs.Common.{◌<◌, length, length-set, set, arith}
use Rattle.std.specs.HashMap.{get}
use Rattle.memory_disk.specs.Cells.{key_eq}
use Rattle.memory_disk.specs.declared.cell.Cell.{Cell}
use Rattle.memory_disk.proofs.Cells.{indexed_replaced, set_here, set_others}
use Rattle.memory_disk.proofs.sector_map.Sectors.put.Goals as goal

pub invariant_of-self-clause-indexed : goal.invariant_of-self-clause-indexed
invariant_of-self-clause-indexed c =
    let cells = c.args.self.now.cells.items in
    let i = c.in-Some.number in
    let cell : Cell = record { key = (c.args.owner, c.args.file, c.args.sector); bytes = c.args.bytes.now } in
    let within : i < length cells = omega (arith, c.in-Some.ensures.there, c.args.self.now.cells.ok.0) in
    indexed_replaced cells (set cells i cell) (get key_eq c.args.self.now.index) i cell.key cell.bytes c.args.self.now.indexed c.in-Some.ensures.key (length-set cells i cell) (set_here cells i cell within) (set_others cells i cell)
