use Rattle.std.proofs.Common.{◌≡◌, fold, Option}
use Rattle.std.specs.Option.{option_map}
use Rattle.std.specs.List.{filter_map}
use Rattle.std.specs.Result.{result_ok}
use Rattle.kv_text.specs.Text.{pairs}
use Rattle.kv_text.specs.Lookup.{value_so_far}
use Rattle.kv_text.proofs.lookup.value_of.Given as goal

abbrev pub invariant-loop-item : goal.invariant-loop-item
invariant-loop-item l =
    fold (value_so_far l.key) (option_map (λ value. value.now) l.found) (filter_map result_ok l.item-iterator.items) ≡ fold (value_so_far l.key) Option.None (pairs l.text)
