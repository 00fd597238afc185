use Rattle.std.proofs.Common.{◌+◌, ◌-◌, ◌*◌, ◌/◌, Ok, subst, sym, arith, refl, ◌<◌}
use Rattle.image_model.specs.File.{file_of}
use Rattle.layer_walk.specs.Counting.{table_rows}
use Rattle.layer_walk.specs.Known.{HeadKnown, tables_of}
use Rattle.layer_walk.specs.Left.{blocks_of, first_left, rows_from}
use Rattle.layer_walk.specs.Positions.{PassesBlocks}
use Rattle.layer_walk.proofs.Falls.{asks_fewer, below_more, block_fewer, entries_fewer}
use Rattle.layer_walk.proofs.Moves.{fits_after}
use Rattle.layer_walk.proofs.Sizes.{row_within}
use Rattle.layer_walk.proofs.TableWalks.{blocks_faulted, blocks_found, blocks_none}
use Rattle.layer_walk.proofs.rows.pass_entries.Goals as goal

pub returns-in-Err-clause-falls : goal.returns-in-Err-clause-falls
returns-in-Err-clause-falls c =
    below_more c.args.work.header (λ h tables. 1 + 2 * (c.head_clusters-end.result - 0)) (λ h tables. rows_from h c.args.k + 2 * blocks_of h tables c.args.k + first_left h tables) c.ask_head.result
    (λ tables rule. let few = asks_fewer c.args.work.header tables c.args.work.low in omega (arith, few, c.head_clusters-end.ensures.value)) c.ask_head.ensures.falls

pub returns-in-Err-clause-next : goal.returns-in-Err-clause-next
returns-in-Err-clause-next c capacity count sectors fits known =
    let t = tables_of c.args.work (file_of count sectors) in
    c.ask_head.ensures.next capacity count sectors (fits_after t c.args.work.marks c.pass_blocks.new.marks c.in-Err.ensures.keeps fits)
    (subst (λ n. HeadKnown t capacity 0 n c.in-Err.fault) (sym c.head_clusters-end.ensures.value)
    (blocks_faulted c.args.work (file_of count sectors) capacity c.args.k c.pass_blocks.new.marks c.args.row fits known c.in-Err.fault c.in-Err.ensures))

pub returns-in-None-clause-falls : goal.returns-in-None-clause-falls
returns-in-None-clause-falls c =
    below_more c.args.work.header (λ h tables. 1 + (table_rows h - (c.args.k / 64 * 64 + 64) / 64) + 2 * blocks_of h tables (c.args.k / 64 * 64 + 64) + first_left h tables)
    (λ h tables. rows_from h c.args.k + 2 * blocks_of h tables c.args.k + first_left h tables) c.next_entries.result
    (λ tables rule. entries_fewer c.args.work.header tables c.args.k rule) c.next_entries.ensures.falls

pub returns-in-None-clause-next : goal.returns-in-None-clause-next
returns-in-None-clause-next c capacity count sectors fits known =
    let t = tables_of c.args.work (file_of count sectors) in
    let passes = subst (λ o. PassesBlocks c.args.work.header c.args.k (c.args.k / 64 * 64 + 64) c.args.row c.args.work.marks c.pass_blocks.new.marks (Ok o)) c.in-None.is c.in-Ok.ensures in
    c.next_entries.ensures.next capacity count sectors (fits_after t c.args.work.marks c.pass_blocks.new.marks passes.keeps fits)
    (blocks_none c.args.work (file_of count sectors) capacity c.args.k c.pass_blocks.new.marks c.args.row fits known passes)

pub returns-in-Some-clause-next : goal.returns-in-Some-clause-next
returns-in-Some-clause-next c capacity count sectors fits known =
    let passes = subst (λ o. PassesBlocks c.args.work.header c.args.k (c.args.k / 64 * 64 + 64) c.args.row c.args.work.marks c.pass_blocks.new.marks (Ok o)) c.in-Some.is c.in-Ok.ensures in
    (blocks_found c.args.work (file_of count sectors) capacity c.args.k c.pass_blocks.new.marks c.args.row fits known c.in-Some.block passes, tt)

pub returns-in-Some-clause-falls : goal.returns-in-Some-clause-falls
returns-in-Some-clause-falls c tables rule fits =
    let passes = subst (λ o. PassesBlocks c.args.work.header c.args.k (c.args.k / 64 * 64 + 64) c.args.row c.args.work.marks c.pass_blocks.new.marks (Ok o)) c.in-Some.is c.in-Ok.ensures in
    let within = passes.inside c.in-Some.block refl in
    let here = subst (λ n. c.args.k < n) c.table_entries.ensures c.if-k-table_entries.false in
    let room = row_within c.args.work.header.cluster_bits c.args.work.header.refcount_table_clusters c.args.k c.args.work.low here in
    block_fewer c.args.work.header tables c.args.k c.in-Some.block.index rule within.0 (omega (arith, within.0, within.1)) (omega (arith, within.1, room)) fits.0

pub returns-in-Some-clause-inside : goal.returns-in-Some-clause-inside
returns-in-Some-clause-inside c =
    let passes = subst (λ o. PassesBlocks c.args.work.header c.args.k (c.args.k / 64 * 64 + 64) c.args.row c.args.work.marks c.pass_blocks.new.marks (Ok o)) c.in-Some.is c.in-Ok.ensures in
    let within = passes.inside c.in-Some.block refl in
    let here = subst (λ n. c.args.k < n) c.table_entries.ensures c.if-k-table_entries.false in
    let room = row_within c.args.work.header.cluster_bits c.args.work.header.refcount_table_clusters c.args.k c.args.work.low here in
    omega (arith, within.1, room)
