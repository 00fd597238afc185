use Rattle.std.proofs.Common.{sym, subst}
use Rattle.layer_walk.specs.Walking.{WalkTakes}
use Rattle.layer_walk.proofs.SectorReads.{blocks_read, l1_read, table_read}
use Rattle.layer_walk.proofs.step.take.Goals as goal

pub returns-in-Blocks-clause-next : goal.returns-in-Blocks-clause-next
returns-in-Blocks-clause-next c =
    subst (λ w. WalkTakes c.args.capacity w c.args.sector c.pass_entries.result) (sym c.in-Blocks.is)
    (λ count sectors fits read known. c.pass_entries.ensures.next c.args.capacity count sectors fits (blocks_read c.in-Blocks.work c.args.capacity count c.in-Blocks.k sectors c.args.sector read known.0 known.1))

pub returns-in-L1-clause-next : goal.returns-in-L1-clause-next
returns-in-L1-clause-next c =
    subst (λ w. WalkTakes c.args.capacity w c.args.sector c.pass_row.result) (sym c.in-L1.is)
    (λ count sectors fits read known. c.pass_row.ensures.next c.args.capacity count sectors fits (l1_read c.in-L1.work c.args.capacity count c.in-L1.i sectors c.args.sector read known.0 known.1))

pub returns-in-L2-clause-next : goal.returns-in-L2-clause-next
returns-in-L2-clause-next c =
    subst (λ w. WalkTakes c.args.capacity w c.args.sector c.take_entries.result) (sym c.in-L2.is)
    (λ count sectors fits read known.
    c.take_entries.ensures.next count sectors fits (table_read c.in-L2.work c.args.capacity count c.in-L2.i c.in-L2.table c.in-L2.j sectors c.in-L2.row c.args.sector read known))
