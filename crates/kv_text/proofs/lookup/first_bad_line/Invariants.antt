use Rattle.std.proofs.Common.{◌≡◌}
use Rattle.kv_text.specs.Text.{items}
use Rattle.kv_text.specs.Lookup.{first_bad_line}
use Rattle.kv_text.proofs.lookup.first_bad_line.Given as goal

abbrev pub invariant-loop-item : goal.invariant-loop-item
invariant-loop-item l = first_bad_line l.item-iterator.items ≡ first_bad_line (items l.text)
