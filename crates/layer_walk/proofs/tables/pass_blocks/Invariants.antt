use Rattle.std.proofs.Common.{◌+◌, ◌*◌, ◌/◌, Ok, None}
use Rattle.layer_walk.specs.Positions.{PassesBlocks}
use Rattle.layer_walk.proofs.tables.pass_blocks.Given as goal

abbrev pub invariant-loop-j : goal.invariant-loop-j
invariant-loop-j l = PassesBlocks l.fn.header l.fn.k (l.fn.k / 64 * 64 + l.j) l.fn.sector l.fn.marks l.marks (Ok None)
