use Rattle.std.proofs.Common.{◌+◌, Some, None, subst, arith}
use Rattle.layer_walk.specs.Positions.{PassesEntry}
use Rattle.layer_walk.specs.Positions.{PassesEntries}
use Rattle.layer_walk.proofs.Passing.{next_entries, last_entries}
use Rattle.layer_walk.proofs.tables.check_entries.Goals as goal

pub returns-in-Some : goal.returns-in-Some
returns-in-Some c =
    last_entries c.args.header.now c.args.capacity c.args.i c.args.table c.args.j (c.loop-m.m + 1) c.args.sector.now c.args.marks.now c.admit_entry.new.marks c.in-Some.fault
    (next_entries c.args.header.now c.args.capacity c.args.i c.args.table c.args.j c.loop-m.m c.args.sector.now c.args.marks.now c.loop-m.marks c.admit_entry.new.marks (Some c.in-Some.fault) c.loop-m-test.true c.loop-m.invariant
    (subst (λ b. PassesEntry c.args.header.now c.args.capacity c.args.i c.args.table (c.args.j + c.loop-m.m) b c.loop-m.marks c.admit_entry.new.marks (Some c.in-Some.fault)) c.word_at-bits.ensures c.in-Some.ensures))

pub loop-m-preserved : goal.loop-m-preserved
loop-m-preserved c =
    next_entries c.args.header.now c.args.capacity c.args.i c.args.table c.args.j c.loop-m.m c.args.sector.now c.args.marks.now c.loop-m.marks c.admit_entry.new.marks None c.loop-m-test.true c.loop-m.invariant
    (subst (λ b. PassesEntry c.args.header.now c.args.capacity c.args.i c.args.table (c.args.j + c.loop-m.m) b c.loop-m.marks c.admit_entry.new.marks None) c.word_at-bits.ensures c.in_default.ensures)

pub returns : goal.returns
returns c = subst (λ n. PassesEntries c.args.header.now c.args.capacity c.args.i c.args.table c.args.j n c.args.sector.now c.args.marks.now c.loop-m.marks None) (omega arith) c.loop-m.invariant
