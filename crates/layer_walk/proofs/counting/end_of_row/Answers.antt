use Rattle.std.proofs.Common.{arith}
use Rattle.layer_walk.proofs.counting.end_of_row.Goals as goal

pub returns : goal.returns
returns c = record {
  upto = omega (arith, c.saturating_add-end.ensures, c.min.ensures, c.min-2.ensures);
  table = omega (arith, c.table_entries.ensures, c.min.ensures, c.min-2.ensures);
  map = omega (arith, c.ranges-2.ensures, c.min.ensures, c.min-2.ensures);
  full = λ a b. omega (arith, a, b, c.saturating_add-end.ensures, c.table_entries.ensures, c.ranges-2.ensures, c.min.ensures, c.min-2.ensures, c.table_entries.type_inv);
  ahead = λ a b. omega (arith, a, b, c.saturating_add-end.ensures, c.table_entries.ensures, c.ranges-2.ensures, c.min.ensures, c.min-2.ensures, c.ranges.entry);
}
