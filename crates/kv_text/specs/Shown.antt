-- A pair of the code as the lists that it lends.
use Rattle.std.specs.Prelude.{ℕ, Result, Ok, Err}
use Rattle.kv_text.specs.declared.pair.Pair.{Pair}
use Rattle.kv_text.specs.Text.{KeyValue}

abbrev pub shown : Result Pair ℕ → Result KeyValue ℕ
shown (Ok pair) = Ok (record { key = pair.key.now; value = pair.value.now })
shown (Err number) = Err number
