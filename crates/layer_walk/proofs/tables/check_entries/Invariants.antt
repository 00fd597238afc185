use Rattle.std.proofs.Common.{None}
use Rattle.layer_walk.specs.Positions.{PassesEntries}
use Rattle.layer_walk.proofs.tables.check_entries.Given as goal

abbrev pub invariant-loop-m : goal.invariant-loop-m
invariant-loop-m l = PassesEntries l.fn.header l.fn.capacity l.fn.i l.fn.table l.fn.j l.m l.fn.sector l.fn.marks l.marks None
