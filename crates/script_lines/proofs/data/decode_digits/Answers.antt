use Rattle.std.proofs.Common.{◌≡◌, ◌+◌, ◌-◌, ◌/◌, length, take, drop, arith, sym, length-take, length-drop}
use Rattle.std.proofs.lemmas.Bool.{eqb-true, eqb-false}
use Rattle.script_lines.proofs.DataLemmas.{written_ok, written_err, digits_of-ok, digits_of-err, digits_of-length, no_digits, digits_dont_fit, lays}
use Rattle.script_lines.proofs.data.decode_digits.Goals as goal
use Rattle.script_lines.proofs.data.decode_digits.Goals.{then-is_empty-via-then-is_empty, then-is_empty-via-else-is_empty+then-count-into}

pub returns-then-is_empty-clause-refused : goal.returns-then-is_empty-clause-refused
returns-then-is_empty-clause-refused c =
    elim c.then-is_empty.branch [
      | then-is_empty-via-then-is_empty w ↦
          no_digits c.args.part.now (length c.args.into.now) c.args.at (eqb-true _ _ (sym w.if-is_empty.ensures))
      | then-is_empty-via-else-is_empty+then-count-into w ↦
          digits_dont_fit c.args.part.now (length c.args.into.now) c.args.at (omega arith)
    ]

pub returns-in-Ok-clause-laid : goal.returns-in-Ok-clause-laid
returns-in-Ok-clause-laid c =
    let k = length c.args.part.now / 2 in
    let room : length (take (c.args.at + k - c.args.at) (drop c.args.at c.args.into.now)) ≡ k =
    simp (length-take, length-drop) (omega arith) in
    let size : length c.decode_to_slice.new.out ≡ c.args.at + k - c.args.at = omega (arith, room, c.decode_to_slice.auto.out) in
    let done = written_ok _ _ _ c.in-Ok.ensures.value in
    let some : length c.args.part.now ≡ 0 → ⊥ = eqb-false _ _ (sym c.if-is_empty.ensures) in
    let bytes = digits_of-ok c.args.part.now _ _ room (omega (arith, some)) done in
    lays _ c.args.into.now c.decode_to_slice.new.out c.args.at (c.args.at + k - c.args.at) (c.args.at + k) (omega arith)
    (omega arith) (omega (arith, digits_of-length c.args.part.now c.decode_to_slice.new.out bytes, size, some)) size bytes

pub returns-in-Err-clause-refused : goal.returns-in-Err-clause-refused
returns-in-Err-clause-refused c =
    let k = length c.args.part.now / 2 in
    let room : length (take (c.args.at + k - c.args.at) (drop c.args.at c.args.into.now)) ≡ k =
    simp (length-take, length-drop) (omega arith) in
    rw (digits_of-err c.args.part.now _ _ room (written_err _ _ _ c.in-Err.ensures.value)) tt
