use Rattle.std.proofs.Common.{◌≡◌, ◌+◌, ◌/◌, ◌^◌, ◌<◌, ◌≤◌, ℕ, min, ap, sym, subst, arith}
use Rattle.image_model.specs.File.{file_of}
use Rattle.layer_walk.specs.Known.{EntriesKnown, tables_of}
use Rattle.layer_walk.specs.Left.{behind_left}
use Rattle.layer_walk.proofs.Falls.{sector_fewer}
use Rattle.layer_walk.proofs.L2Walks.{entries_faulted, entries_last, entries_more}
use Rattle.layer_walk.proofs.Moves.{fits_after}
use Rattle.layer_walk.proofs.Sizes.{entries_few}
use Rattle.layer_walk.proofs.rows.take_entries.Goals as goal

pub returns-in-Some-clause-next : goal.returns-in-Some-clause-next
returns-in-Some-clause-next c count sectors fits known =
    c.stop_walk.ensures.next c.args.capacity count sectors (fits_after (tables_of c.args.work (file_of count sectors)) c.args.work.marks c.check_entries.new.marks c.in-Some.ensures.keeps fits)
    (entries_faulted c.args.work (file_of count sectors) c.args.capacity c.args.i c.args.table c.args.j c.check_entries.new.marks c.args.row c.args.sector.now fits known c.in-Some.fault c.in-Some.ensures)

pub returns-then-next-cluster_bytes-clause-next : goal.returns-then-next-cluster_bytes-clause-next
returns-then-next-cluster_bytes-clause-next c count sectors fits known =
    let few = entries_few c.args.work.header.cluster_bits c.args.work.high in
    c.finish_table.ensures.next c.args.capacity count sectors (fits_after (tables_of c.args.work (file_of count sectors)) c.args.work.marks c.check_entries.new.marks c.in_default.ensures.keeps fits)
    (entries_last c.args.work (file_of count sectors) c.args.capacity c.args.i c.args.table c.args.j c.check_entries.new.marks c.args.row c.args.sector.now fits known c.in_default.ensures
    (last (2 ^ c.args.work.header.cluster_bits) c.args.j c.saturating_add-next.result c.cluster_bytes.result c.cluster_bytes.ensures few (omega (arith, c.saturating_add-next.ensures)) c.if-next-cluster_bytes.true))
  where
    last : (cluster j next size : ℕ) → size ≡ cluster → cluster / 8 ≤ 262144 → next ≤ j + 64 → size / 8 ≤ next → cluster / 8 ≤ j + 64
    last cluster j next size is few near past = omega (arith, is, near, past)

-- what comes behind j, where it is below the table's end
next_sector : (j next entries size : ℕ) → size / 8 ≡ entries → entries ≤ 262144 → next ≡ min (j + 64) 4294967295 → next < size / 8 → (next ≡ j + 64) × (next < entries)
next_sector j next entries size is few near less = (omega (arith, is, few, near, less), omega (arith, is, less))

pub returns-clause-falls : goal.returns-clause-falls
returns-clause-falls c tables rule fits =
    let few = entries_few c.args.work.header.cluster_bits c.args.work.high in
    let next = next_sector c.args.j c.saturating_add-next.result (2 ^ c.args.work.header.cluster_bits / 8) c.cluster_bytes.result (ap (λ n. n / 8) c.cluster_bytes.ensures) few c.saturating_add-next.ensures c.if-next-cluster_bytes.false in
    let same : behind_left c.args.work.header tables c.check_entries.new.marks.noted ≡ behind_left c.args.work.header tables c.args.work.marks.noted = ap (behind_left c.args.work.header tables) c.in_default.ensures.keeps.noted in
    let less = sector_fewer c.args.work.header.cluster_bits c.args.j c.saturating_add-next.result 0 c.args.work.low next.0 next.1 in
    omega (arith, same, less)

pub returns-clause-next : goal.returns-clause-next
returns-clause-next c count sectors fits known =
    let few = entries_few c.args.work.header.cluster_bits c.args.work.high in
    let next = next_sector c.args.j c.saturating_add-next.result (2 ^ c.args.work.header.cluster_bits / 8) c.cluster_bytes.result (ap (λ n. n / 8) c.cluster_bytes.ensures) few c.saturating_add-next.ensures c.if-next-cluster_bytes.false in
    let here = entries_more c.args.work (file_of count sectors) c.args.capacity c.args.i c.args.table c.args.j c.check_entries.new.marks c.args.row c.args.sector.now fits known c.in_default.ensures (omega (arith, next.0, next.1)) in
    subst (λ n. EntriesKnown (tables_of c.args.work (file_of count sectors)) c.args.capacity c.check_entries.new.marks c.args.i c.args.table n c.args.row) (sym next.0) here
