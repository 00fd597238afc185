use Rattle.std.proofs.Common.{◌≡◌, ◌+◌, ◌*◌, ◌%◌, ◌≤◌, ◌++◌, length, vec_capacity}
use Rattle.script_lines.specs.Printed.{printed}
use Rattle.script_lines.proofs.printed.push_data.Given as goal

abbrev pub invariant-loop-rest : goal.invariant-loop-rest
invariant-loop-rest l = record {
  printed_so_far : l.text.items ++ printed l.rest ≡ l.fn.text.items ++ printed l.fn.bytes;
  whole : length l.rest % 512 ≡ 0;
  short : length l.text.items + 3 * length l.rest ≤ length l.fn.text.items + 3 * length l.fn.bytes;
  room : length l.text.items + 3 * length l.rest ≤ vec_capacity l.text;
  capacity : vec_capacity l.fn.text ≤ vec_capacity l.text;
}

abbrev pub decreases-loop-rest : goal.decreases-loop-rest
decreases-loop-rest l = length l.rest
