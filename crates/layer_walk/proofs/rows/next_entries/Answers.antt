use Rattle.std.proofs.Common.{◌≤◌, subst}
use Rattle.image_model.specs.File.{file_of}
use Rattle.layer_walk.specs.Known.{tables_of}
use Rattle.layer_walk.proofs.TableWalks.{entries_end}
use Rattle.layer_walk.proofs.rows.next_entries.Goals as goal

pub returns-then-k-table_entries-clause-next : goal.returns-then-k-table_entries-clause-next
returns-then-k-table_entries-clause-next c capacity count sectors fits known =
    c.next_l1.ensures.next capacity count sectors fits
    (entries_end (tables_of c.args.work (file_of count sectors)) capacity c.args.k c.args.work.marks (subst (λ n. n ≤ c.args.k) c.table_entries.ensures c.if-k-table_entries.true) known)
